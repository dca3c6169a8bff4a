-- A step each of whose accesses finds its row is the step over the mappings.
use Rattle.std.proofs.Common.{◌≡◌, ℕ, ◌/◌, ◌%◌, Bool, true, false, List, [], ◌++◌, length, Option, Some, None, Result, Ok, Err, refl, sym, ◌∙◌, ap, rules}
use Rattle.std.specs.Prelude.{◌==◌, if◌then◌else◌}
use Rattle.std.specs.Option.{option_or}
use Rattle.std.proofs.lemmas.List.Folds.{find-append}
use Rattle.aegis_limits.specs.Limits.{page_size}
use Rattle.mips_isa.specs.Encoding.{insn_of}
use Rattle.mips_isa.specs.declared.insn.Insn.{Insn}
use Rattle.mips_exec.specs.declared.registers.Cpu.{Cpu}
use Rattle.mips_exec.specs.declared.change.Change.{Change}
use Rattle.mips_exec.specs.declared.change.Change.TheVariants.{Puts, PutsHiLo, Passes, Jumps, JumpsAndLinks, Calls, Raises}
use Rattle.mips_exec.specs.declared.reach.Access.{Access}
use Rattle.mips_exec.specs.declared.reach.Access.TheVariants.{Load, Store}
use Rattle.mips_exec.specs.declared.reach.Spot.{Spot}
use Rattle.mips_exec.specs.declared.exception.Exc.{Exc}
use Rattle.mips_exec.specs.declared.exception.ExcCode.TheVariants as code
use Rattle.mips_exec.specs.Access.{Write, access, is_aligned, low_bytes, place_of, write_of}
use Rattle.mips_exec.specs.Effect.{effect}
use Rattle.mips_exec.specs.Exception.{at_address, is_miss, plain}
use Rattle.mips_exec.specs.Step.{Answers, Step, Retired, Called, Trapped, access_after, answered, answered_if, without_value, decoded, ended, executed, fetched, named_by, outcome_of, write_after}
use Rattle.env_frames.specs.declared.mapping.Mapping.{Mapping}
use Rattle.guest_memory.specs.Look.{frames_after, guest_step, look, written_through}
use Rattle.world_model.specs.Page.{Mapped, answers_by, if_served}
use Rattle.r3k_tlb.specs.declared.row.Row.{Row}
use Rattle.r3k_cp0.specs.declared.registers.Cp0.{Cp0}
use Rattle.mips_exec.specs.declared.access_kind.AccessKind.TheVariants as kind
use Rattle.r3k_machine.specs.Machine.{end_of}
use Rattle.r3k_machine.specs.Memory.{frames_written, row_answers, row_step, stored_in}
use Rattle.r3k_machine.specs.Translation.{reached_page}
use Rattle.tlb_model.specs.Lookups.{access_vpns, data_vpns, fetch_vpns, first_missing, has_no_row, is_missed, spot_vpns, user_vpn}
use Rattle.tlb_laws.specs.Laws.{FindsAreFlat, RunsFor, end_without_refill, vpns_over}
use Rattle.tlb_laws.proofs.Raising.{raised_plain}
use Rattle.tlb_laws.proofs.Viewing.{IsServed, Reached, Refused, number_same, served_access, some_err, store_same}

both_none : {A : Type 0} (a b : Option A) → option_or a b ≡ None → (a ≡ None) × (b ≡ None)
both_none None b h = (refl, h)
both_none (Some x) b h = search rules

pub first_parts : (rows : List Row) (e : ℕ) (xs ys : List ℕ) → first_missing rows e (xs ++ ys) ≡ None → (first_missing rows e xs ≡ None) × (first_missing rows e ys ≡ None)
first_parts rows e xs ys h = both_none (first_missing rows e xs) (first_missing rows e ys) (sym (find-append (has_no_row rows e) xs ys) ∙ h)

trapped_same : (x y : Exc) → Trapped x ≡ Trapped y → x ≡ y
trapped_same x y h = cc

-- what an instruction raises
ended_by : (cpu : Cpu) (c : Change) (w : Option Write) (exc : Exc) → ((y : Exc) → c ≡ Raises y → is_miss y.code ≡ false) → ended cpu c w ≡ Trapped exc
    → is_miss exc.code ≡ false
ended_by cpu (Raises y) w exc plain is = ap (λ (z : Exc). is_miss z.code) (sym (trapped_same y exc is)) ∙ plain y refl
ended_by cpu Calls w exc plain is = search rules
ended_by cpu Passes w exc plain is = search rules
ended_by cpu (Puts n value) w exc plain is = search rules
ended_by cpu (PutsHiLo high low) w exc plain is = search rules
ended_by cpu (Jumps target) w exc plain is = search rules
ended_by cpu (JumpsAndLinks n target) w exc plain is = search rules

ended_code : (insn : Insn) (cpu : Cpu) (x : ℕ) (w : Option Write) (exc : Exc) → ended cpu (effect insn cpu x) w ≡ Trapped exc → is_miss exc.code ≡ false
ended_code insn cpu x w exc is = ended_by cpu (effect insn cpu x) w exc (raised_plain insn cpu x) is

err_plain : (address : ℕ) (exc x : Exc) → is_miss exc.code ≡ false → Trapped (at_address exc address) ≡ Trapped x → is_miss x.code ≡ false
err_plain address exc x plain is = ap (λ (z : Exc). is_miss z.code) (sym (trapped_same (at_address exc address) x is)) ∙ plain

-- what an instruction writes is what its access does, or nothing
ended_write : (P : Option Write → Type 0) (cpu : Cpu) (c : Change) (w : Option Write) → P None → P w → P (write_after (ended cpu c w))
ended_write P cpu (Raises y) w none some = none
ended_write P cpu Calls w none some = none
ended_write P cpu Passes w none some = some
ended_write P cpu (Puts n value) w none some = some
ended_write P cpu (PutsHiLo high low) w none some = some
ended_write P cpu (Jumps target) w none some = some
ended_write P cpu (JumpsAndLinks n target) w none some = some

without_err : (r : Result (Unit {0}) Exc) (exc : Exc) → without_value r ≡ Err exc → r ≡ Err exc
without_err (Ok x) exc is = search rules
without_err (Err x) exc is = search rules

without_ok : (r : Result (Unit {0}) Exc) (v : ℕ) (x : Exc) → without_value r ≡ Ok v → r ≡ Err x → ⊥
without_ok r v x is err = search (rules, is, err)

-- a step that raises no miss ends as it does
plain_step : (st : Step) → ((x : Exc) → st ≡ Trapped x → is_miss x.code ≡ false) → is_missed st ≡ false
plain_step (Retired cpu w) plain = refl
plain_step Called plain = refl
plain_step (Trapped x) plain = plain x refl

plain_end : (cp0 : Cp0) (rows : List Row) (st : Step) → is_missed st ≡ false → end_of cp0 rows (outcome_of st) ≡ end_without_refill (outcome_of st)
plain_end cp0 rows (Retired cpu w) plain = refl
plain_end cp0 rows Called plain = refl
plain_end cp0 rows (Trapped x) plain = rw plain refl

module _ (leads : ℕ → ℕ → Option Mapping) (e : ℕ) (cp0 : Cp0) (rows : List Row) (frames : List (List ℕ)) (runs : RunsFor leads e cp0 rows frames) where
  abbrev over_rows : Answers
  over_rows = row_answers cp0 rows frames

  abbrev over_mappings : Answers
  over_mappings = answers_by (look frames (leads e))

  pub fetch_same : (pc : ℕ) → first_missing rows e (fetch_vpns pc) ≡ None → fetched over_rows pc ≡ fetched over_mappings pc
  unfolding row_answers
  fetch_same pc all = by_place (pc % 4 == 0) all
    where
      by_place : (b : Bool) → first_missing rows e (if b then user_vpn pc else []) ≡ None
          → (if b then (row_answers cp0 rows frames).fetch pc else Err (plain code.Adel)) ≡ (if b then (answers_by (look frames (leads e))).fetch pc else Err (plain code.Adel))
      by_place true all = number_same (leads e) cp0 rows frames kind.Fetch pc 4 (served_access leads e cp0 rows frames runs kind.Fetch pc all)
      by_place false all = refl

  load_same : (spot : Spot) → first_missing rows e (spot_vpns spot) ≡ None → answered over_rows (Load spot) ≡ answered over_mappings (Load spot)
  unfolding row_answers
  load_same spot all = by_place (is_aligned spot) all
    where
      by_place : (b : Bool) → first_missing rows e (if b then user_vpn (place_of spot) else []) ≡ None
          → (if b then (row_answers cp0 rows frames).load (place_of spot) spot.width else Err (plain code.Adel)) ≡ (if b then (answers_by (look frames (leads e))).load (place_of spot) spot.width else Err (plain code.Adel))
      by_place true all = number_same (leads e) cp0 rows frames kind.Load (place_of spot) spot.width (served_access leads e cp0 rows frames runs kind.Load (place_of spot) all)
      by_place false all = refl

  stored_same : (spot : Spot) (value : ℕ) → first_missing rows e (spot_vpns spot) ≡ None → answered over_rows (Store spot value) ≡ answered over_mappings (Store spot value)
  unfolding row_answers
  stored_same spot value all = by_place (is_aligned spot) all
    where
      by_place : (b : Bool) → first_missing rows e (if b then user_vpn (place_of spot) else []) ≡ None
          → (if b then without_value ((row_answers cp0 rows frames).store (place_of spot) spot.width) else Err (plain code.Ades))
          ≡ (if b then without_value ((answers_by (look frames (leads e))).store (place_of spot) spot.width) else Err (plain code.Ades))
      by_place true all = ap without_value (store_same (leads e) cp0 rows frames kind.Store (place_of spot) (served_access leads e cp0 rows frames runs kind.Store (place_of spot) all))
      by_place false all = refl

  access_same : (o : Option Access) → first_missing rows e (access_vpns o) ≡ None → answered_if over_rows o ≡ answered_if over_mappings o
  access_same None all = refl
  access_same (Some (Load spot)) all = load_same spot all
  access_same (Some (Store spot value)) all = stored_same spot value all

  data_same : (cpu : Cpu) (f : Result ℕ Exc) → first_missing rows e (data_vpns cpu f) ≡ None → access_after over_rows cpu f ≡ access_after over_mappings cpu f
  data_same cpu (Ok word) all = access_same (access (insn_of word) cpu) all
  data_same cpu (Err exc) all = refl

  pub step_same : (cpu : Cpu) → first_missing rows e (vpns_over frames (leads e) cpu) ≡ None → row_step cp0 rows frames cpu ≡ guest_step frames (leads e) cpu
  step_same cpu all =
      let parts = first_parts rows e (fetch_vpns cpu.pc) (data_vpns cpu (fetched over_mappings cpu.pc)) all in
      let f = fetch_same cpu.pc parts.0 in
      ap (λ g. decoded cpu g (access_after over_rows cpu g)) f
      ∙ ap (decoded cpu (fetched over_mappings cpu.pc)) (data_same cpu (fetched over_mappings cpu.pc) parts.1)

  -- ---- what it raises is no miss
  fetch_plain : (pc : ℕ) (exc : Exc) → first_missing rows e (fetch_vpns pc) ≡ None → fetched over_mappings pc ≡ Err exc → is_miss exc.code ≡ false
  fetch_plain pc exc all is = by_place (pc % 4 == 0) all is
    where
      by_place : (b : Bool) → first_missing rows e (if b then user_vpn pc else []) ≡ None → (if b then (answers_by (look frames (leads e))).fetch pc else Err (plain code.Adel)) ≡ Err exc → is_miss exc.code ≡ false
      by_place true all is = some_err (leads e) cp0 rows frames _ kind.Fetch pc exc (served_access leads e cp0 rows frames runs kind.Fetch pc all) is
      by_place false all is = let same : Err (plain code.Adel) ≡ Err exc = is in search rules

  access_plain : (a : Access) (exc : Exc) → first_missing rows e (access_vpns (Some a)) ≡ None → answered over_mappings a ≡ Err exc → is_miss exc.code ≡ false
  access_plain (Load spot) exc all is = by_place (is_aligned spot) all is
    where
      by_place : (b : Bool) → first_missing rows e (if b then user_vpn (place_of spot) else []) ≡ None
          → (if b then (answers_by (look frames (leads e))).load (place_of spot) spot.width else Err (plain code.Adel)) ≡ Err exc → is_miss exc.code ≡ false
      by_place true all is = some_err (leads e) cp0 rows frames _ kind.Load (place_of spot) exc (served_access leads e cp0 rows frames runs kind.Load (place_of spot) all) is
      by_place false all is = search rules
  access_plain (Store spot value) exc all is = by_place (is_aligned spot) all is
    where
      by_place : (b : Bool) → first_missing rows e (if b then user_vpn (place_of spot) else []) ≡ None
          → (if b then without_value ((answers_by (look frames (leads e))).store (place_of spot) spot.width) else Err (plain code.Ades)) ≡ Err exc → is_miss exc.code ≡ false
      by_place true all is =
          some_err (leads e) cp0 rows frames _ kind.Store (place_of spot) exc (served_access leads e cp0 rows frames runs kind.Store (place_of spot) all)
          (without_err ((answers_by (look frames (leads e))).store (place_of spot) spot.width) exc is)
      by_place false all is = search rules

  executed_plain : (insn : Insn) (cpu : Cpu) (o : Option Access) (answer : Result ℕ Exc) (x : Exc) → answered_if over_mappings o ≡ answer → first_missing rows e (access_vpns o) ≡ None
      → executed insn cpu o answer ≡ Trapped x → is_miss x.code ≡ false
  executed_plain insn cpu None answer x at all is = ended_code insn cpu 0 None x is
  executed_plain insn cpu (Some a) (Ok v) x at all is = ended_code insn cpu v (write_of a) x is
  executed_plain insn cpu (Some a) (Err exc) x at all is = err_plain (named_by a) exc x (access_plain a exc all at) is

  decoded_plain : (cpu : Cpu) (f : Result ℕ Exc) (x : Exc) → fetched over_mappings cpu.pc ≡ f → first_missing rows e (fetch_vpns cpu.pc) ≡ None
      → first_missing rows e (data_vpns cpu f) ≡ None → decoded cpu f (access_after over_mappings cpu f) ≡ Trapped x → is_miss x.code ≡ false
  decoded_plain cpu (Err exc) x at first next is = err_plain cpu.pc exc x (fetch_plain cpu.pc exc first at) is
  decoded_plain cpu (Ok word) x at first next is =
      executed_plain (insn_of word) cpu (access (insn_of word) cpu) (answered_if over_mappings (access (insn_of word) cpu)) x refl next is

  -- ---- what it writes
  abbrev wrote_same : Option Write → Type 0
  wrote_same o = frames_written cp0 rows frames o ≡ frames_after frames (leads e) o

  none_same : wrote_same None
  unfolding frames_written
  none_same = refl

  store_wrote : (spot : Spot) (value v : ℕ) → first_missing rows e (spot_vpns spot) ≡ None → answered over_mappings (Store spot value) ≡ Ok v → wrote_same (write_of (Store spot value))
  unfolding frames_written
  store_wrote spot value v all is = by_place (is_aligned spot) all is
    where
      by_served : IsServed (leads e) cp0 rows frames kind.Store (place_of spot) → without_value ((answers_by (look frames (leads e))).store (place_of spot) spot.width) ≡ Ok v
          → stored_in frames (record { address = place_of spot; bytes = low_bytes spot.width value }) (reached_page cp0 rows (length frames) kind.Store (place_of spot))
          ≡ written_through frames (record { address = place_of spot; bytes = low_bytes spot.width value }) (leads e (place_of spot / page_size))
      by_served (Reached m at page mapped) is =
          ap (stored_in frames (record { address = place_of spot; bytes = low_bytes spot.width value })) page
          ∙ sym (ap (written_through frames (record { address = place_of spot; bytes = low_bytes spot.width value })) at)
      by_served (Refused exc page mapped plain) is =
          absurd (without_ok ((answers_by (look frames (leads e))).store (place_of spot) spot.width) v exc is (ap (if_served (λ (m : Mapped). tt)) mapped))

      by_place : (b : Bool) → first_missing rows e (if b then user_vpn (place_of spot) else []) ≡ None
          → (if b then without_value ((answers_by (look frames (leads e))).store (place_of spot) spot.width) else Err (plain code.Ades)) ≡ Ok v
          → stored_in frames (record { address = place_of spot; bytes = low_bytes spot.width value }) (reached_page cp0 rows (length frames) kind.Store (place_of spot))
          ≡ written_through frames (record { address = place_of spot; bytes = low_bytes spot.width value }) (leads e (place_of spot / page_size))
      by_place true all is = by_served (served_access leads e cp0 rows frames runs kind.Store (place_of spot) all) is
      by_place false all is = search rules

  executed_wrote : (insn : Insn) (cpu : Cpu) (o : Option Access) (answer : Result ℕ Exc) → answered_if over_mappings o ≡ answer → first_missing rows e (access_vpns o) ≡ None
      → wrote_same (write_after (executed insn cpu o answer))
  executed_wrote insn cpu None answer at all = ended_write wrote_same cpu (effect insn cpu 0) None none_same none_same
  executed_wrote insn cpu (Some a) (Err exc) at all = none_same
  executed_wrote insn cpu (Some (Load spot)) (Ok v) at all = ended_write wrote_same cpu (effect insn cpu v) None none_same none_same
  executed_wrote insn cpu (Some (Store spot value)) (Ok v) at all =
      ended_write wrote_same cpu (effect insn cpu v) (write_of (Store spot value)) none_same (store_wrote spot value v all at)

  decoded_wrote : (cpu : Cpu) (f : Result ℕ Exc) → first_missing rows e (data_vpns cpu f) ≡ None → wrote_same (write_after (decoded cpu f (access_after over_mappings cpu f)))
  decoded_wrote cpu (Err exc) all = none_same
  decoded_wrote cpu (Ok word) all = executed_wrote (insn_of word) cpu (access (insn_of word) cpu) (answered_if over_mappings (access (insn_of word) cpu)) refl all

pub finds : FindsAreFlat
finds leads e cp0 rows frames cpu runs all =
    let f = fetched (answers_by (look frames (leads e))) cpu.pc in
    let parts = first_parts rows e (fetch_vpns cpu.pc) (data_vpns cpu f) all in
    let plain = plain_step (guest_step frames (leads e) cpu) (λ x is. decoded_plain leads e cp0 rows frames runs cpu f x refl parts.0 parts.1 is) in
    record {
      step = step_same leads e cp0 rows frames runs cpu all;
      memory = decoded_wrote leads e cp0 rows frames runs cpu f parts.1;
      end = plain_end cp0 rows (guest_step frames (leads e) cpu) plain;
      missed = plain;
    }

-- The first access that finds no row ends the step as a refill.
use Rattle.std.proofs.Common.{◌≡◌, ℕ, ◌*◌, ◌/◌, ◌%◌, Bool, true, false, List, [], Option, Some, None, Result, Ok, Err, refl, sym, ◌∙◌, ap, rules, arith, ◌⊎◌, inl, inr}
use Rattle.std.specs.Prelude.{◌&&◌, ◌==◌, if◌then◌else◌, nat_le, nat_lt, is_none}
use Rattle.std.specs.Option.{option_or}
use Rattle.std.proofs.lemmas.Bool.{ltb-true}
use Rattle.std.proofs.lemmas.List.Folds.{find-append}
use Rattle.aegis_limits.specs.Limits.{page_size}
use Rattle.mips_isa.specs.Encoding.{insn_of}
use Rattle.mips_exec.specs.declared.registers.Cpu.{Cpu}
use Rattle.mips_exec.specs.declared.reach.Access.{Access}
use Rattle.mips_exec.specs.declared.reach.Access.TheVariants.{Load, Store}
use Rattle.mips_exec.specs.declared.reach.Spot.{Spot}
use Rattle.mips_exec.specs.declared.exception.Exc.{Exc}
use Rattle.mips_exec.specs.declared.exception.ExcCode.{ExcCode}
use Rattle.mips_exec.specs.declared.exception.ExcCode.TheVariants as code
use Rattle.mips_exec.specs.Access.{access, is_aligned, place_of}
use Rattle.mips_exec.specs.AccessKind.{user_end}
use Rattle.mips_exec.specs.Exception.{at_address, is_miss, plain}
use Rattle.mips_exec.specs.Step.{Answers, Trapped, access_after, answered, answered_if, decoded, executed, fetched, outcome_of, without_value}
use Rattle.env_frames.specs.declared.mapping.Mapping.{Mapping}
use Rattle.guest_memory.specs.Look.{guest_step, look}
use Rattle.byteorder.specs.Endian.{little_number}
use Rattle.world_model.specs.Page.{Mapped, answers_by, bytes_from, if_served}
use Rattle.r3k_tlb.specs.declared.row.Row.{Row}
use Rattle.r3k_tlb.specs.Rows.{first_fitting}
use Rattle.r3k_cp0.specs.declared.registers.Cp0.{Cp0}
use Rattle.r3k_cp0.specs.Registers.{current_pid}
use Rattle.r3k_machine.specs.declared.machine.MachineEnd.TheVariants as ends
use Rattle.mips_exec.specs.declared.access_kind.AccessKind.TheVariants as kind
use Rattle.r3k_machine.specs.Machine.{end_of, is_unfit}
use Rattle.r3k_machine.specs.Memory.{number_in, row_answers, row_step, without_page}
use Rattle.tlb_model.specs.Lookups.{access_vpns, data_vpns, fetch_vpns, first_missing, has_no_row, spot_vpns, user_vpn}
use Rattle.tlb_laws.specs.Laws.{MissesRefill, Refills, RunsFor}
use Rattle.tlb_laws.proofs.Reaching.{missed, missed_flat}
use Rattle.tlb_laws.proofs.Viewing.{missing_at}
use Rattle.tlb_laws.proofs.Finding.{fetch_same}

-- the first of two lists in which one is missing
first_part : (a b : Option ℕ) (v : ℕ) → option_or a b ≡ Some v → (a ≡ Some v) ⊎ ((a ≡ None) × (b ≡ Some v))
first_part (Some x) b v h = inl h
first_part None b v h = inr (refl, h)

-- an exception at an address
abbrev raised_at : ExcCode → ℕ → Exc
raised_at c bad = at_address (plain c) bad

-- what raises a miss at a user's address that no row fits
end_missed : (cp0 : Cp0) (rows : List Row) (c : ExcCode) (bad e : ℕ) → is_miss c ≡ true → nat_lt bad user_end ≡ true
    → is_none (first_fitting (bad / page_size) e rows) ≡ true → current_pid cp0 ≡ e
    → end_of cp0 rows (outcome_of (Trapped (raised_at c bad))) ≡ ends.Refill (raised_at c bad)
end_missed cp0 rows c bad e miss user none pid =
    ap (λ (b : Bool). if b && is_unfit cp0 rows bad then ends.Refill (raised_at c bad) else ends.Trap (raised_at c bad)) miss
    ∙ ap (λ (b : Bool). if b && is_none (first_fitting (bad / page_size) (current_pid cp0) rows) then ends.Refill (raised_at c bad) else ends.Trap (raised_at c bad)) user
    ∙ ap (λ n. if is_none (first_fitting (bad / page_size) n rows) then ends.Refill (raised_at c bad) else ends.Trap (raised_at c bad)) pid
    ∙ ap (λ (b : Bool). if b then ends.Refill (raised_at c bad) else ends.Trap (raised_at c bad)) none

-- the bytes of a spot lie in the page of the address that it names
same_page : (spot : Spot) → place_of spot / page_size ≡ spot.address / page_size
same_page spot = by_down spot.down
  where
    by_down : (b : Bool) → (if b then spot.address / 4 * 4 else spot.address) / page_size ≡ spot.address / page_size
    by_down true = grind arith
    by_down false = refl

same_space : (spot : Spot) → nat_le user_end (place_of spot) ≡ false → nat_lt spot.address user_end ≡ true
same_space spot below = by_down spot.down below
  where
    by_down : (b : Bool) → nat_le user_end (if b then spot.address / 4 * 4 else spot.address) ≡ false → nat_lt spot.address user_end ≡ true
    by_down true below = grind arith
    by_down false below = grind arith

user_lt : (address : ℕ) → nat_le user_end address ≡ false → nat_lt address user_end ≡ true
user_lt address below = grind arith

module _ (leads : ℕ → ℕ → Option Mapping) (e : ℕ) (cp0 : Cp0) (rows : List Row) (frames : List (List ℕ)) (runs : RunsFor leads e cp0 rows frames) (cpu : Cpu) (v : ℕ) where
  abbrev by_rows : Answers
  by_rows = row_answers cp0 rows frames

  abbrev by_mappings : Answers
  by_mappings = answers_by (look frames (leads e))

  -- a miss at this address
  refills_at : (c : ExcCode) (bad : ℕ) → is_miss c ≡ true → bad / page_size ≡ v → nat_lt bad user_end ≡ true → first_fitting (bad / page_size) e rows ≡ None
      → row_step cp0 rows frames cpu ≡ Trapped (raised_at c bad) → (leads e v ≡ None → guest_step frames (leads e) cpu ≡ Trapped (raised_at c bad))
      → Refills (leads e) cp0 rows frames cpu v
  refills_at c bad miss at user none step flat = record {
    exc = raised_at c bad;
    step = step;
    at = at;
    user = ltb-true bad user_end user;
    end = end_missed cp0 rows c bad e miss user (ap is_none none) runs.pid;
    flat = flat;
    missed = miss;
  }

  at_fetch : first_missing rows e (fetch_vpns cpu.pc) ≡ Some v → Refills (leads e) cp0 rows frames cpu v
  unfolding row_answers
  at_fetch is = by_place (cpu.pc % 4 == 0) refl is
    where
      by_place : (b : Bool) → (cpu.pc % 4 == 0) ≡ b → first_missing rows e (if b then user_vpn cpu.pc else []) ≡ Some v → Refills (leads e) cp0 rows frames cpu v
      by_place false h is = search rules
      by_place true h is =
          let m = missing_at leads e cp0 rows frames runs cpu.pc v is in
          let by_row : fetched by_rows cpu.pc ≡ Err (raised_at code.Tlbl cpu.pc) =
          ap (λ (b : Bool). if b then by_rows.fetch cpu.pc else Err (plain code.Adel)) h
          ∙ ap (number_in frames cpu.pc 4) (missed leads e cp0 rows frames runs kind.Fetch cpu.pc m.1 m.2) in
          refills_at code.Tlbl cpu.pc refl m.0 (user_lt cpu.pc m.1) m.2
          (ap (λ g. decoded cpu g (access_after by_rows cpu g)) by_row)
          (λ none. ap (λ g. decoded cpu g (access_after by_mappings cpu g))
          (ap (λ (b : Bool). if b then by_mappings.fetch cpu.pc else Err (plain code.Adel)) h
          ∙ ap (if_served (λ (m : Mapped). little_number 4 (bytes_from cpu.pc m))) (missed_flat leads e cp0 rows frames runs kind.Fetch cpu.pc m.1 (ap (leads e) m.0 ∙ none))))

  load_missed : (spot : Spot) → first_missing rows e (spot_vpns spot) ≡ Some v
      → (spot.address / page_size ≡ v) × (nat_lt spot.address user_end ≡ true) × (first_fitting (spot.address / page_size) e rows ≡ None)
      × (answered by_rows (Load spot) ≡ Err (raised_at code.Tlbl (place_of spot))) × (leads e v ≡ None → answered by_mappings (Load spot) ≡ Err (raised_at code.Tlbl (place_of spot)))
  unfolding row_answers
  load_missed spot is = by_place (is_aligned spot) refl is
    where
      by_place : (b : Bool) → is_aligned spot ≡ b → first_missing rows e (if b then user_vpn (place_of spot) else []) ≡ Some v
          → (spot.address / page_size ≡ v) × (nat_lt spot.address user_end ≡ true) × (first_fitting (spot.address / page_size) e rows ≡ None)
          × (answered by_rows (Load spot) ≡ Err (raised_at code.Tlbl (place_of spot))) × (leads e v ≡ None → answered by_mappings (Load spot) ≡ Err (raised_at code.Tlbl (place_of spot)))
      by_place false h is = search rules
      by_place true h is =
          let m = missing_at leads e cp0 rows frames runs (place_of spot) v is in (
            sym (same_page spot) ∙ m.0,
            same_space spot m.1,
            ap (λ n. first_fitting n e rows) (sym (same_page spot)) ∙ m.2,
            ap (λ (b : Bool). if b then by_rows.load (place_of spot) spot.width else Err (plain code.Adel)) h
                ∙ ap (number_in frames (place_of spot) spot.width) (missed leads e cp0 rows frames runs kind.Load (place_of spot) m.1 m.2),
            λ none. ap (λ (b : Bool). if b then by_mappings.load (place_of spot) spot.width else Err (plain code.Adel)) h
                ∙ ap (if_served (λ (m : Mapped). little_number spot.width (bytes_from (place_of spot) m))) (missed_flat leads e cp0 rows frames runs kind.Load (place_of spot) m.1 (ap (leads e) m.0 ∙ none)),
          )

  store_missed : (spot : Spot) (value : ℕ) → first_missing rows e (spot_vpns spot) ≡ Some v
      → (spot.address / page_size ≡ v) × (nat_lt spot.address user_end ≡ true) × (first_fitting (spot.address / page_size) e rows ≡ None)
      × (answered by_rows (Store spot value) ≡ Err (raised_at code.Tlbs (place_of spot))) × (leads e v ≡ None → answered by_mappings (Store spot value) ≡ Err (raised_at code.Tlbs (place_of spot)))
  unfolding row_answers
  store_missed spot value is = by_place (is_aligned spot) refl is
    where
      by_place : (b : Bool) → is_aligned spot ≡ b → first_missing rows e (if b then user_vpn (place_of spot) else []) ≡ Some v
          → (spot.address / page_size ≡ v) × (nat_lt spot.address user_end ≡ true) × (first_fitting (spot.address / page_size) e rows ≡ None)
          × (answered by_rows (Store spot value) ≡ Err (raised_at code.Tlbs (place_of spot))) × (leads e v ≡ None → answered by_mappings (Store spot value) ≡ Err (raised_at code.Tlbs (place_of spot)))
      by_place false h is = search rules
      by_place true h is =
          let m = missing_at leads e cp0 rows frames runs (place_of spot) v is in (
            sym (same_page spot) ∙ m.0,
            same_space spot m.1,
            ap (λ n. first_fitting n e rows) (sym (same_page spot)) ∙ m.2,
            ap (λ (b : Bool). if b then without_value (by_rows.store (place_of spot) spot.width) else Err (plain code.Ades)) h
                ∙ ap (λ r. without_value (without_page r)) (missed leads e cp0 rows frames runs kind.Store (place_of spot) m.1 m.2),
            λ none. ap (λ (b : Bool). if b then without_value (by_mappings.store (place_of spot) spot.width) else Err (plain code.Ades)) h
                ∙ ap (λ r. without_value (if_served (λ (m : Mapped). tt) r)) (missed_flat leads e cp0 rows frames runs kind.Store (place_of spot) m.1 (ap (leads e) m.0 ∙ none)),
          )

  at_access : (word : ℕ) → fetched by_rows cpu.pc ≡ Ok word → fetched by_mappings cpu.pc ≡ Ok word → (o : Option Access) → access (insn_of word) cpu ≡ o
      → first_missing rows e (access_vpns o) ≡ Some v → Refills (leads e) cp0 rows frames cpu v
  at_access word row_fetch flat_fetch None is missing = search rules
  at_access word row_fetch flat_fetch (Some (Load spot)) is missing =
      let m = load_missed spot missing in
      refills_at code.Tlbl spot.address refl m.0 m.1 m.2
      (ap (λ g. decoded cpu g (access_after by_rows cpu g)) row_fetch
      ∙ ap (λ o. executed (insn_of word) cpu o (answered_if by_rows o)) is ∙ ap (executed (insn_of word) cpu (Some (Load spot))) m.3)
      (λ none. ap (λ g. decoded cpu g (access_after by_mappings cpu g)) flat_fetch
      ∙ ap (λ o. executed (insn_of word) cpu o (answered_if by_mappings o)) is ∙ ap (executed (insn_of word) cpu (Some (Load spot))) (m.4 none))
  at_access word row_fetch flat_fetch (Some (Store spot value)) is missing =
      let m = store_missed spot value missing in
      refills_at code.Tlbs spot.address refl m.0 m.1 m.2
      (ap (λ g. decoded cpu g (access_after by_rows cpu g)) row_fetch
      ∙ ap (λ o. executed (insn_of word) cpu o (answered_if by_rows o)) is ∙ ap (executed (insn_of word) cpu (Some (Store spot value))) m.3)
      (λ none. ap (λ g. decoded cpu g (access_after by_mappings cpu g)) flat_fetch
      ∙ ap (λ o. executed (insn_of word) cpu o (answered_if by_mappings o)) is ∙ ap (executed (insn_of word) cpu (Some (Store spot value))) (m.4 none))

  at_data : first_missing rows e (fetch_vpns cpu.pc) ≡ None → (f : Result ℕ Exc) → fetched by_mappings cpu.pc ≡ f
      → first_missing rows e (data_vpns cpu f) ≡ Some v → Refills (leads e) cp0 rows frames cpu v
  at_data all (Err exc) is missing = search rules
  at_data all (Ok word) is missing =
      at_access word (fetch_same leads e cp0 rows frames runs cpu.pc all ∙ is) is (access (insn_of word) cpu) refl missing

  by_part : (first_missing rows e (fetch_vpns cpu.pc) ≡ Some v) ⊎ ((first_missing rows e (fetch_vpns cpu.pc) ≡ None) × (first_missing rows e (data_vpns cpu (fetched by_mappings cpu.pc)) ≡ Some v))
      → Refills (leads e) cp0 rows frames cpu v
  by_part (inl is) = at_fetch is
  by_part (inr both) = at_data both.0 (fetched by_mappings cpu.pc) refl both.1

pub misses : MissesRefill
misses leads e cp0 rows frames cpu vpn runs missing =
    let f = fetched (answers_by (look frames (leads e))) cpu.pc in
    by_part leads e cp0 rows frames runs cpu vpn
    (first_part (first_missing rows e (fetch_vpns cpu.pc)) (first_missing rows e (data_vpns cpu f)) vpn
    (sym (find-append (has_no_row rows e) (fetch_vpns cpu.pc) (data_vpns cpu f)) ∙ missing))

-- An attempt of the runner's step over the rows of the TLB, by what the machine made of it.
use Rattle.std.proofs.Common.{◌≡◌, ◌<◌, ℕ, ◌/◌, List, Bool, true, false, Option, Some, None, refl, sym, ◌∙◌, ap, subst, arith, rules, length}
use Rattle.std.specs.Prelude.{if◌then◌else◌, is_some, IfSome}
use Rattle.std.specs.Option.{option_map}
use Rattle.r3k_tlb.specs.Row.{page_numbers}
use Rattle.aegis_limits.specs.Limits.{environment_numbers, page_size, vpn_end}
use Rattle.mips_exec.specs.declared.exception.Exc.{Exc}
use Rattle.mips_exec.specs.declared.exception.Outcome.{Outcome}
use Rattle.mips_exec.specs.declared.exception.Outcome.TheVariants as outcome
use Rattle.mips_exec.specs.Step.{Trapped, cpu_after, outcome_of, write_after}
use Rattle.env_frames.specs.declared.mapping.Mapping.{Mapping}
use Rattle.guest_memory.specs.Look.{frames_after}
use Rattle.r3k_tlb.specs.declared.row.Row.{Row}
use Rattle.r3k_cp0.specs.declared.registers.Cp0.{Cp0}
use Rattle.r3k_cp0.specs.Random.{fallen}
use Rattle.r3k_cp0.specs.Registers.{current_pid, is_user}
use Rattle.r3k_machine.specs.declared.entry.Entry.{Entry}
use Rattle.r3k_machine.specs.declared.entry.Entry.TheVariants.{Break, Call}
use Rattle.r3k_machine.specs.declared.machine.Machine.{Machine}
use Rattle.r3k_machine.specs.declared.machine.MachineEnd.TheVariants as ends
use Rattle.r3k_machine.specs.Entry.{came_by}
use Rattle.r3k_machine.specs.Machine.{after_attempts, end_of, user_step}
use Rattle.r3k_machine.specs.Exceptions.{as_user}
use Rattle.r3k_machine.specs.Memory.{frames_written, row_step}
use Rattle.tlb_model.specs.declared.fills.Fills.{Fills}
use Rattle.r3k_tlb.specs.Rows.{with_row_at}
use Rattle.tlb_model.specs.Cache.{row_for, with_fills, with_forwarded, with_random_fallen, with_refill}
use Rattle.tlb_model.specs.Lookups.{is_missed, mapping_of_miss}
use Rattle.r3k_machine.specs.Steps.{RowStepsRetire, after_row_steps}
use Rattle.slot_vector.specs.Slices.{left_of}
use Rattle.tlb_model.specs.Lookups.{first_missing}
use Rattle.board_model.specs.Stretch.{stretched}
use Rattle.aegis_calls.proofs.Stretched.{stretch_sound}
use Rattle.aegis_calls.specs.Cached.{FindRows, IsOfMiss, IsStuck}
use Rattle.aegis_calls.specs.Entering.{StandsAt}
use Rattle.mips_step.specs.WordStep.{has_retired}
use Rattle.tlb_laws.specs.Laws.{FindsAreFlat, MissesRefill, RunIsFlat, RunsFor, end_without_refill}
use Rattle.tlb_laws.proofs.Running.{runs_are_flat}
use Rattle.tlb_laws.proofs.Ending.{Missed, flat_end, missed_end}
use Rattle.board_model.specs.Shown.{Shown, mappings_of}
use Rattle.board_model.specs.Sound.{IsSoundBoard, RowsAgree}
use Rattle.board_model.specs.Doing.{lookup_of, step_seen}
use Rattle.board_model.specs.Refilling.{IsAttempted, IsRefilled, fills_after_miss, is_kept_by, rows_after_miss, vpns_of}
use Rattle.board_model.proofs.Refills.{lookup_number, refilled_rows, runs_for}
use Rattle.board_model.proofs.Staying.{sound_frames, sound_machine, sound_tlb}

-- What the machine, in user mode for an environment, made of an attempt on a sound board.
pub record IsMade (b : Shown) (e : ℕ) (m : Machine) (n : Machine) (frames : List (List ℕ)) : Type 0 where
  pub sound : IsSoundBoard b
  pub small : e < environment_numbers
  pub registers : m.cpu ≡ b.cpu
  pub rows : m.tlb ≡ b.tlb.rows
  pub random : m.cp0.random ≡ b.tlb.random
  pub user : is_user m.cp0 ≡ true
  pub pid : current_pid m.cp0 ≡ e
  pub new_registers : n.cpu ≡ cpu_after m.cpu (user_step m b.frames)
  pub memory : frames ≡ frames_written m.cp0 m.tlb b.frames (write_after (user_step m b.frames))
  pub new_rows : n.tlb ≡ m.tlb
  pub new_random : n.cp0 ≡ after_attempts 1 m.cp0

-- by the clauses of set_user and of user_step
pub made_of : (b : Shown) (e : ℕ) (first m n : Machine) (frames : List (List ℕ)) → first.cpu ≡ b.cpu → first.tlb ≡ b.tlb.rows → first.cp0.random ≡ b.tlb.random
    → IsSoundBoard b → e < environment_numbers → m ≡ as_user first e → is_user m.cp0 ≡ true → current_pid m.cp0 ≡ e
    → n.cpu ≡ cpu_after m.cpu (user_step m b.frames) → frames ≡ frames_written m.cp0 m.tlb b.frames (write_after (user_step m b.frames)) → n.tlb ≡ m.tlb
    → n.cp0 ≡ after_attempts 1 m.cp0 → IsMade b e m n frames
made_of b e first m n frames cpu rows random sound small is user pid new_cpu memory new_rows new_random = record {
  sound = sound;
  small = small;
  registers = ap (λ (x : Machine). x.cpu) is ∙ cpu;
  rows = ap (λ (x : Machine). x.tlb) is ∙ rows;
  random = ap (λ (x : Machine). x.cp0.random) is ∙ random;
  user = user;
  pid = pid;
  new_registers = new_cpu;
  memory = memory;
  new_rows = new_rows;
  new_random = new_random;
}

-- what a VPN leads by can be written into a row
pub words_fit : (b : Shown) (e vpn : ℕ) (o : Option Mapping) → lookup_of b e vpn ≡ o → vpn < page_numbers → ((m : Mapping) → o ≡ Some m → m.page < page_numbers)
    → IfSome o (λ m. (m.vpn < page_numbers) × (m.page < page_numbers))
words_fit b e vpn None is small pages = tt
words_fit b e vpn (Some m) is small pages = (subst (λ n. n < page_numbers) (sym (lookup_number b e vpn m is)) small, pages m refl)

-- the board as it is shown
pub attempted_as_shown : {b now : Shown} → b ≡ now → {e : ℕ} {x : Shown} {o : Outcome} → IsAttempted b e x o → IsAttempted now e x o
attempted_as_shown same {e} {x} {o} it = subst (λ (s : Shown). IsAttempted s e x o) same it

pub refilled_as_shown : {b now : Shown} → b ≡ now → {e : ℕ} {x : Shown} → IsRefilled b e x → IsRefilled now e x
refilled_as_shown same {e} {x} it = subst (λ (s : Shown). IsRefilled s e x) same it

same_outcome : (o p : Outcome) → end_without_refill o ≡ end_without_refill p → o ≡ p
same_outcome outcome.Retired outcome.Retired h = refl
same_outcome outcome.Retired outcome.Call h = search rules
same_outcome outcome.Retired (outcome.Trap y) h = search rules
same_outcome outcome.Call outcome.Retired h = search rules
same_outcome outcome.Call outcome.Call h = refl
same_outcome outcome.Call (outcome.Trap y) h = search rules
same_outcome (outcome.Trap x) outcome.Retired h = search rules
same_outcome (outcome.Trap x) outcome.Call h = search rules
same_outcome (outcome.Trap x) (outcome.Trap y) h = let same : x ≡ y = cc in ap outcome.Trap same

not_refill : (o : Outcome) (exc : Exc) → end_without_refill o ≡ ends.Refill exc → ⊥
not_refill outcome.Retired exc is = search rules
not_refill outcome.Call exc is = search rules
not_refill (outcome.Trap x) exc is = search rules

module _ (b : Shown) (e : ℕ) (m n : Machine) (frames : List (List ℕ)) (made : IsMade b e m n frames) where
  abbrev pub its : RunsFor (lookup_of b) e m.cp0 b.tlb.rows b.frames
  its = runs_for b e m.cp0 made.sound made.small made.pid made.user

  -- the machine's step is that over the board's rows and registers
  step_is : user_step m b.frames ≡ row_step m.cp0 b.tlb.rows b.frames b.cpu
  step_is = ap (λ rows. row_step m.cp0 rows b.frames m.cpu) made.rows ∙ ap (row_step m.cp0 b.tlb.rows b.frames) made.registers

  end_is : end_of m.cp0 m.tlb (outcome_of (user_step m b.frames)) ≡ end_of m.cp0 b.tlb.rows (outcome_of (row_step m.cp0 b.tlb.rows b.frames b.cpu))
  end_is = ap (λ rows. end_of m.cp0 rows (outcome_of (user_step m b.frames))) made.rows ∙ ap (λ st. end_of m.cp0 b.tlb.rows (outcome_of st)) step_is

  random_is : n.cp0.random ≡ fallen b.tlb.random
  random_is = ap (λ (c : Cp0). c.random) made.new_random ∙ ap fallen made.random

  rows_is : n.tlb ≡ b.tlb.rows
  rows_is = made.new_rows ∙ made.rows

  cpu_is : n.cpu ≡ cpu_after b.cpu (row_step m.cp0 b.tlb.rows b.frames b.cpu)
  cpu_is = made.new_registers ∙ ap (λ c. cpu_after c (user_step m b.frames)) made.registers ∙ ap (cpu_after b.cpu) step_is

  frames_is : frames ≡ frames_written m.cp0 b.tlb.rows b.frames (write_after (row_step m.cp0 b.tlb.rows b.frames b.cpu))
  frames_is =
      made.memory ∙ ap (λ rows. frames_written m.cp0 rows b.frames (write_after (user_step m b.frames))) made.rows
      ∙ ap (λ st. frames_written m.cp0 b.tlb.rows b.frames (write_after st)) step_is

  -- it ended without a refill
  pub attempt_made : (o : Outcome) → end_of m.cp0 m.tlb (outcome_of (user_step m b.frames)) ≡ end_without_refill o
      → IsAttempted b e (record b { frames = frames; cpu = n.cpu; tlb = record b.tlb { rows = n.tlb; random = n.cp0.random } }) o
  attempt_made o end =
      let f = flat_end (lookup_of b) e m.cp0 b.tlb.rows b.frames b.cpu its (λ exc is. not_refill o exc (sym end ∙ end_is ∙ is)) in
      let st = step_seen b e in
      let frames_now : frames ≡ frames_after b.frames (lookup_of b e) (write_after st) =
      frames_is ∙ ap (λ st. frames_written m.cp0 b.tlb.rows b.frames (write_after st)) f.flat.step ∙ f.flat.memory in
      let cpu_now : n.cpu ≡ cpu_after b.cpu st = cpu_is ∙ ap (cpu_after b.cpu) f.flat.step in
      let missed : with_random_fallen b.tlb ≡ with_random_fallen (if is_missed st then with_forwarded e b.tlb else b.tlb) =
      ap (λ (t : Bool). with_random_fallen (if t then with_forwarded e b.tlb else b.tlb)) (sym f.flat.missed) in
      record {
        next = ap (mapping_of_miss (lookup_of b e)) f.found;
        board =
            (λ i. record b { frames = frames_now i; cpu = cpu_now i; tlb = record b.tlb { rows = rows_is i; random = random_is i } })
            ∙ (λ i. record b { frames = frames_after b.frames (lookup_of b e) (write_after st); cpu = cpu_after b.cpu st; tlb = missed i });
        outcome = same_outcome o (outcome_of st) (sym end ∙ end_is ∙ ap (λ st. end_of m.cp0 b.tlb.rows (outcome_of st)) f.flat.step ∙ f.flat.end);
      }

  -- it ended as a refill
  pub missed : (exc : Exc) → end_of m.cp0 m.tlb (outcome_of (user_step m b.frames)) ≡ ends.Refill exc → Missed (lookup_of b) e m.cp0 b.tlb.rows b.frames b.cpu its exc
  missed exc end = missed_end (lookup_of b) e m.cp0 b.tlb.rows b.frames b.cpu its exc (sym end_is ∙ end)

  -- then nothing is done but what the kernel does about the miss
  frames_kept : (exc : Exc) → row_step m.cp0 b.tlb.rows b.frames b.cpu ≡ Trapped exc → frames ≡ b.frames
  unfolding frames_written
  frames_kept exc is = frames_is ∙ ap (λ st. frames_written m.cp0 b.tlb.rows b.frames (write_after st)) is

  cpu_kept : (exc : Exc) → row_step m.cp0 b.tlb.rows b.frames b.cpu ≡ Trapped exc → n.cpu ≡ b.cpu
  cpu_kept exc is = cpu_is ∙ ap (cpu_after b.cpu) is

  pub vpn_small : (exc : Exc) → Missed (lookup_of b) e m.cp0 b.tlb.rows b.frames b.cpu its exc → exc.bad / page_size < vpn_end
  vpn_small exc miss = omega (arith, miss.user)

  -- a row was refilled
  pub refill_made : (exc : Exc) (random : ℕ) (x : Mapping) (rows : List Row) (fills : List Fills) → Missed (lookup_of b) e m.cp0 b.tlb.rows b.frames b.cpu its exc
      → random ≡ b.tlb.random → lookup_of b e (exc.bad / page_size) ≡ Some x
      → rows ≡ rows_after_miss random e (Some x) n.tlb → fills ≡ fills_after_miss (is_kept_by (mappings_of b.roster.list e) (exc.bad / page_size)) e (Some x) b.tlb.fills
      → IsRefilled b e (record b { frames = frames; cpu = n.cpu; tlb = record { rows = rows; random = n.cp0.random; fills = fills } })
  refill_made exc random x rows fills miss named leads rows_now fills_now =
      let at : exc.bad / page_size ≡ x.vpn = sym (lookup_number b e (exc.bad / page_size) x leads) in
      let written : rows ≡ with_row_at b.tlb.rows b.tlb.random (row_for e x) = rows_now ∙ ap (λ r. with_row_at n.tlb r (row_for e x)) named ∙ ap (λ rs. with_row_at rs b.tlb.random (row_for e x)) rows_is in
      let counted : fills ≡ with_fills (with_refill (is_kept_by (mappings_of b.roster.list e) x.vpn)) e b.tlb.fills =
      fills_now ∙ ap (λ v. with_fills (with_refill (is_kept_by (mappings_of b.roster.list e) v)) e b.tlb.fills) at in
      record {
        mapping = x;
        next = ap (mapping_of_miss (lookup_of b e)) miss.missing ∙ leads;
        board = λ i. record b {
          frames = frames_kept exc miss.step i;
          cpu = cpu_kept exc miss.step i;
          tlb = record { rows = written i; random = random_is i; fills = counted i };
        };
      }

  -- the miss was forwarded
  pub forward_made : (exc : Exc) (random : ℕ) (rows : List Row) (fills : List Fills) → Missed (lookup_of b) e m.cp0 b.tlb.rows b.frames b.cpu its exc
      → lookup_of b e (exc.bad / page_size) ≡ None
      → rows ≡ rows_after_miss random e None n.tlb → fills ≡ fills_after_miss (is_kept_by (mappings_of b.roster.list e) (exc.bad / page_size)) e None b.tlb.fills
      → IsAttempted b e (record b { frames = frames; cpu = n.cpu; tlb = record { rows = rows; random = n.cp0.random; fills = fills } }) (outcome.Trap exc)
  forward_made exc random rows fills miss leads rows_now fills_now =
      let st : step_seen b e ≡ Trapped exc = miss.flat leads in
      let kept : rows ≡ b.tlb.rows = rows_now ∙ rows_is in
      record {
        next = ap (mapping_of_miss (lookup_of b e)) miss.missing ∙ leads;
        board =
            (λ i. record b { frames = frames_kept exc miss.step i; cpu = cpu_kept exc miss.step i; tlb = record { rows = kept i; random = random_is i; fills = fills_now i } })
            ∙ ap (λ (t : Bool). record b { tlb = with_random_fallen (if t then with_forwarded e b.tlb else b.tlb) }) (sym miss.missed)
            ∙ ap (λ s. record b { frames = frames_after b.frames (lookup_of b e) (write_after s); cpu = cpu_after b.cpu s; tlb = with_random_fallen (if is_missed s then with_forwarded e b.tlb else b.tlb) }) (sym st);
        outcome = sym (ap outcome_of st);
      }

  pub some_of : (o : Option Mapping) → is_some o ≡ true → (x : Mapping) × (o ≡ Some x)
  some_of None h = search rules
  some_of (Some x) h = (x, refl)

  none_of : (o : Option Mapping) → is_some o ≡ false → o ≡ None
  none_of None h = refl
  none_of (Some x) h = search rules

  abbrev pub answered_board : List Row → List Fills → Shown
  answered_board rows fills = record b { frames = frames; cpu = n.cpu; tlb = record { rows = rows; random = n.cp0.random; fills = fills } }

  -- the kernel answered the miss: by a refill, or not
  module _ (exc : Exc) (random : ℕ) (rows : List Row) (fills : List Fills) (miss : Missed (lookup_of b) e m.cp0 b.tlb.rows b.frames b.cpu its exc) (named : random ≡ b.tlb.random)
      (rows_now : rows ≡ rows_after_miss random e (lookup_of b e (exc.bad / page_size)) n.tlb)
      (fills_now : fills ≡ fills_after_miss (is_kept_by (mappings_of b.roster.list e) (exc.bad / page_size)) e (lookup_of b e (exc.bad / page_size)) b.tlb.fills) where
    pub answered_by_refill : is_some (lookup_of b e (exc.bad / page_size)) ≡ true → IsRefilled b e (answered_board rows fills)
    answered_by_refill h =
        let x = some_of (lookup_of b e (exc.bad / page_size)) h in
        refill_made exc random x.0 rows fills miss named x.1
        (rows_now ∙ ap (λ o. rows_after_miss random e o n.tlb) x.1)
        (fills_now ∙ ap (λ o. fills_after_miss (is_kept_by (mappings_of b.roster.list e) (exc.bad / page_size)) e o b.tlb.fills) x.1)

    pub answered_by_forward : is_some (lookup_of b e (exc.bad / page_size)) ≡ false → IsAttempted b e (answered_board rows fills) (outcome.Trap exc)
    answered_by_forward h =
        let none = none_of (lookup_of b e (exc.bad / page_size)) h in
        forward_made exc random rows fills miss none
        (rows_now ∙ ap (λ o. rows_after_miss random e o n.tlb) none)
        (fills_now ∙ ap (λ o. fills_after_miss (is_kept_by (mappings_of b.roster.list e) (exc.bad / page_size)) e o b.tlb.fills) none)

    -- and the board is sound behind it
    pub answered_sound : length frames ≡ length b.frames → IsSoundBoard (answered_board rows fills)
    answered_sound size =
        let small = vpn_small exc miss in
        let agree = refilled_rows b e random (exc.bad / page_size) (lookup_of b e (exc.bad / page_size)) made.sound made.small small refl in
        let now : RowsAgree b.frames b.roster.list b.binds rows =
        subst (RowsAgree b.frames b.roster.list b.binds) (sym (rows_now ∙ ap (rows_after_miss random e (lookup_of b e (exc.bad / page_size))) rows_is)) agree in
        sound_machine (sound_frames frames size (sound_tlb (record { rows = rows; random = n.cp0.random; fills = fills }) now made.sound))

-- ---- a step by which the program enters the kernel

-- it is no refill
pub entry_end : (cp0 : Cp0) (rows : List Row) (entry : Entry) → end_of cp0 rows (outcome_of (came_by entry)) ≡ end_without_refill (outcome_of (came_by entry))
entry_end cp0 rows Call = refl
entry_end cp0 rows Break = refl

-- and no miss
entry_no_miss : (entry : Entry) → is_missed (came_by entry) ≡ true → ⊥
entry_no_miss Call is = search (rules, is)
entry_no_miss Break is = search (rules, is)

-- a program that stands so enters so over the rows
stands_so : (v : Shown) (e : ℕ) (cp0 : Cp0) → FindsAreFlat → MissesRefill → (entry : Entry) → StandsAt v e entry → RunsFor (lookup_of v) e cp0 v.tlb.rows v.frames
    → (o : Option ℕ) → first_missing v.tlb.rows e (vpns_of v e) ≡ o → row_step cp0 v.tlb.rows v.frames v.cpu ≡ came_by entry
stands_so v e cp0 finds misses entry stands runs None found = (finds (lookup_of v) e cp0 v.tlb.rows v.frames v.cpu runs found).step ∙ stands.step
stands_so v e cp0 finds misses entry stands runs (Some vpn) missing =
    let r = misses (lookup_of v) e cp0 v.tlb.rows v.frames v.cpu vpn runs missing in
    let nowhere = sym (ap (mapping_of_miss (lookup_of v e)) missing) ∙ stands.found in
    absurd (entry_no_miss entry (ap is_missed (sym stands.step ∙ r.flat nowhere) ∙ r.missed))

-- what is so of each thing that there may be
pub if_some : (o : Option Entry) {P : Entry → Type 0} → ((entry : Entry) → o ≡ Some entry → P entry) → IfSome o P
if_some None each = search rules
if_some (Some entry) each = each entry refl

-- ---- many steps that retire

-- What the machine, in user mode for an environment, made of a run on a sound board.
module _ (b : Shown) (e : ℕ) (first m : Machine) (steps : ℕ) (cpu : first.cpu ≡ b.cpu) (rows : first.tlb ≡ b.tlb.rows) (sound : IsSoundBoard b) (small : e < environment_numbers) (is : m ≡ as_user first e)
    (user : is_user m.cp0 ≡ true) (pid : current_pid m.cp0 ≡ e) (retire : RowStepsRetire m.cp0 m.tlb (record { cpu = m.cpu; frames = b.frames }) steps) where
  all_retire : RowStepsRetire m.cp0 b.tlb.rows (record { cpu = b.cpu; frames = b.frames }) steps
  all_retire =
      subst (λ c. RowStepsRetire m.cp0 b.tlb.rows (record { cpu = c; frames = b.frames }) steps) (ap (λ (x : Machine). x.cpu) is ∙ cpu)
      (subst (λ rs. RowStepsRetire m.cp0 rs (record { cpu = m.cpu; frames = b.frames }) steps) (ap (λ (x : Machine). x.tlb) is ∙ rows) retire)

  pub run_made : RunIsFlat (lookup_of b e) m.cp0 b.tlb.rows b.frames b.cpu steps
  run_made = runs_are_flat (lookup_of b) e m.cp0 b.tlb.rows b.frames b.cpu steps (runs_for b e m.cp0 sound small pid user) all_retire

  -- each of its accesses found its row
  found_at : (k : ℕ) → k < steps → steps < left_of b.slots.runner → first_missing b.tlb.rows e (vpns_of (stretched b e k) e) ≡ None
  found_at k less left =
      let v = stretched b e k in
      let s = after_row_steps m.cp0 b.tlb.rows (record { cpu = b.cpu; frames = b.frames }) k in
      let flat = runs_are_flat (lookup_of b) e m.cp0 b.tlb.rows b.frames b.cpu k (runs_for b e m.cp0 sound small pid user) (record { each = λ j below. all_retire.each j (omega arith) }) in
      let retired : outcome_of (row_step m.cp0 b.tlb.rows v.frames v.cpu) ≡ outcome.Retired =
      ap (λ c. outcome_of (row_step m.cp0 b.tlb.rows v.frames c)) (sym flat.registers) ∙ ap (λ f. outcome_of (row_step m.cp0 b.tlb.rows f s.cpu)) (sym flat.memory) ∙ all_retire.each k less in
      (flat_end (lookup_of v) e m.cp0 b.tlb.rows v.frames v.cpu (runs_for v e m.cp0 (stretch_sound b e k sound (omega arith)) small pid user)
      (λ exc is. not_refill outcome.Retired exc (sym (ap (end_of m.cp0 b.tlb.rows) retired) ∙ is))).found

  pub run_found : steps < left_of b.slots.runner → FindRows b e steps
  run_found left = record { each = λ k less. found_at k less left }

  -- where the machine stops behind them, the next step is stuck
  pub stuck_behind : FindsAreFlat → (cp0 : Cp0) → current_pid cp0 ≡ e → is_user cp0 ≡ true → steps < left_of b.slots.runner
      → has_retired (row_step cp0 b.tlb.rows (stretched b e steps).frames (stretched b e steps).cpu) ≡ false → IsStuck (stretched b e steps) e
  stuck_behind finds cp0 pid user left stopped = λ found.
      let v = stretched b e steps in
      let flat = finds (lookup_of v) e cp0 b.tlb.rows v.frames v.cpu (runs_for v e cp0 (stretch_sound b e steps sound left) small pid user) found in
      sym (ap has_retired flat.step) ∙ stopped

  -- where the machine says that by the next the program enters the kernel, it stands there
  pub stands_behind : (cp0 : Cp0) → current_pid cp0 ≡ e → is_user cp0 ≡ true → steps < left_of b.slots.runner
      → (entry : Entry) → row_step cp0 b.tlb.rows (stretched b e steps).frames (stretched b e steps).cpu ≡ came_by entry → StandsAt (stretched b e steps) e entry
  stands_behind cp0 pid user left entry came =
      let v = stretched b e steps in
      let end = ap (λ st. end_of cp0 b.tlb.rows (outcome_of st)) came ∙ entry_end cp0 b.tlb.rows entry in
      let f = flat_end (lookup_of v) e cp0 b.tlb.rows v.frames v.cpu (runs_for v e cp0 (stretch_sound b e steps sound left) small pid user)
      (λ exc is. not_refill (outcome_of (came_by entry)) exc (sym end ∙ is)) in
      record { found = ap (mapping_of_miss (lookup_of v e)) f.found; step = sym f.flat.step ∙ came }

  -- where it says that the program doesn't, it doesn't stand there
  pub comes_behind : FindsAreFlat → MissesRefill → (cp0 : Cp0) → current_pid cp0 ≡ e → is_user cp0 ≡ true → steps < left_of b.slots.runner
      → (entry : Entry) → StandsAt (stretched b e steps) e entry → row_step cp0 b.tlb.rows (stretched b e steps).frames (stretched b e steps).cpu ≡ came_by entry
  comes_behind finds misses cp0 pid user left entry stands =
      let v = stretched b e steps in
      stands_so v e cp0 finds misses entry stands (runs_for v e cp0 (stretch_sound b e steps sound left) small pid user) (first_missing v.tlb.rows e (vpns_of v e)) refl

  -- where the next step misses, the address that the machine wants is of the page
  pub wants_behind : MissesRefill → (cp0 : Cp0) → current_pid cp0 ≡ e → is_user cp0 ≡ true → steps < left_of b.slots.runner → (wanted : Option ℕ)
      → ((exc : Exc) → end_of cp0 b.tlb.rows (outcome_of (row_step cp0 b.tlb.rows (stretched b e steps).frames (stretched b e steps).cpu)) ≡ ends.Refill exc → wanted ≡ Some exc.bad)
      → IsOfMiss (stretched b e steps) e wanted
  wants_behind misses cp0 pid user left wanted named = λ vpn missing.
      let v = stretched b e steps in
      let its = runs_for v e cp0 (stretch_sound b e steps sound left) small pid user in
      let r = misses (lookup_of v) e cp0 b.tlb.rows v.frames v.cpu vpn its missing in
      let end = ap (λ st. end_of cp0 b.tlb.rows (outcome_of st)) r.step ∙ r.end in
      ap (option_map (λ (x : ℕ). x / page_size)) (named r.exc end) ∙ ap Some r.at

-- Ticks, and whole runs.
use Rattle.std.proofs.Common.{arith, refl, sym, ◌∙◌, ap, subst, ◌≡◌, ◌<◌, ◌≤◌, ◌+◌, ◌%◌, inl, inr, ℕ, zero, suc, List, [], ◌∷◌, ◌++◌, append_assoc, map, Bool, true, false, Option, None, Some}
use Rattle.std.specs.Prelude.{◌==◌}
use Rattle.std.specs.Option.{option_map}
use Rattle.std.proofs.lemmas.Bool.{cases_eq, cond_both, eq-eqb, ne_eqb}
use Rattle.std.proofs.Math.Nat.{mod-lt}
use Rattle.external_event.specs.declared.event.Occurrence.{Occurrence}
use Rattle.revocation_book.specs.declared.revocation.Taking.{Taking}
use Rattle.boot_image.specs.ImageValue.{ImageValue}
use Rattle.boot_image.specs.Accepted.{IsAccepted}
use Rattle.kernel_journal.specs.declared.row.Row.{Row}
use Rattle.kernel_journal.specs.declared.row.Row.TheVariants as row
use Rattle.world_model.specs.declared.hold.Hold.{Hold}
use Rattle.world_model.specs.declared.slot.Phase.TheVariants as phase
use Rattle.world_model.specs.declared.slot.Runner.{Runner}
use Rattle.world_model.specs.declared.slot.Turn.{Turn}
use Rattle.world_model.specs.Book.{Book, WholeTurn, first_turn, is_idle_book, excess_after_forfeit, next_held_turn, owed, pays_first, turn_within, turn_from, whole_turn}
use Rattle.world_model.specs.Event.{Schedule, happen}
use Rattle.world_model.specs.Tick.{pay_row, phases_after, serve_phases, step, take_turn, tick_phases, timer, turn, turn_when}
use Rattle.world_model.specs.Deadlines.{settles, takes}
use Rattle.world_model.specs.World.{World, Reply, after, no_change, run_phases}
use Rattle.call_verdicts.specs.Granted.{GrantedMay}
use Rattle.run_model.specs.Boot.{boot_world}
use Rattle.run_model.specs.Excess.{GoesByRule, IsAccounted, TurnsGoByRule}
use Rattle.run_model.specs.NextTurn.{IsNextTurn}
use Rattle.run_model.specs.Run.{happens_in, next_phases, next_world, world_after_ticks, takings_next, world_after}
use Rattle.run_model.proofs.Balance.{boots_accounted, step_keeps, ticks_keep_accounts, turn_keeps}
use Rattle.run_model.proofs.Phases.{run_append}
use Rattle.ledger_audit.specs.LedgerState.{state_after}
use Rattle.ledger_law.specs.LedgerLaw.{RowsFit}
use Rattle.ledger_law.proofs.Told.{From, IsTold, SaysRunner, lives_before}
use Rattle.ledger_law.proofs.Events.{Ready, before_turn_ready}
use Rattle.ledger_law.proofs.Turning.{Turns, turn_fits, turn_has}
use Rattle.ledger_law.proofs.Stepping.{step_told}
use Rattle.ledger_law.proofs.Timing.{owes, timer_told, told_to}

-- what the laws of the next turn and of turns say
abbrev pub NextIs : Type 0
NextIs = (b : Book) → b.cursor < b.slot_count → IsNextTurn b (next_held_turn b)

-- A turn that nobody takes is one in which no slot is held.
none_held : (pays : List Turn) (b : Book) → GoesByRule b pays None → (k : ℕ) → k < b.slot_count → b.slots k ≡ None
none_held [] b (next, free) k below = next k below
none_held (p ∷ pays) b (next, owing, rest) k below = none_held pays (record b { cursor = p.slot; excess = excess_after_forfeit p.env b.excess }) rest k below

slot_below : (count cursor slot steps : ℕ) → cursor < count → slot ≡ (cursor + steps) % count → slot < count
slot_below count cursor slot steps below stands = let around : (cursor + steps) % count < count = mod-lt (cursor + steps) (omega arith) in omega (arith, stands)

no_turn : NextIs → TurnsGoByRule → (b : Book) → b.cursor < b.slot_count → (whole_turn b).runs ≡ None → next_held_turn b ≡ None
no_turn next goes b below none = by_next (next_held_turn b) (next b below)
  where
    empty : (k : ℕ) → k < b.slot_count → b.slots k ≡ None
    empty = none_held (whole_turn b).pays b (subst (λ (o : Option Turn). GoesByRule b (whole_turn b).pays o) none (goes b below))

    by_next : (o : Option Turn) → IsNextTurn b o → o ≡ None
    by_next None is = refl
    by_next (Some t) is =
        let there = slot_below b.slot_count b.cursor t.slot is.steps below is.stands in
        let never : None ≡ Some t.env = sym (ap (option_map (λ (h : Hold). h.holder)) (empty t.slot there)) ∙ is.held in cc

-- the cursor and the excess that a turn leaves
record Ends (told : WholeTurn) (before : ℕ → ℕ) : Type 0 where
  place : (t : Turn) → told.runs ≡ Some t → told.cursor ≡ t.slot
  least : (e : ℕ) → told.excess e ≤ before e

lowered_least : (e : ℕ) (excess : ℕ → ℕ) (i : ℕ) → excess_after_forfeit e excess i ≤ excess i
lowered_least e excess i =
    elim (cases_eq i e) [
      | inl same ↦ rw (eq-eqb i e same, same) (omega arith)
      | inr other ↦ rw (ne_eqb i e other) (omega arith)
    ]

ends_at : (rest : ℕ → (ℕ → ℕ) → WholeTurn) → ((cursor : ℕ) (excess : ℕ → ℕ) → Ends (rest cursor excess) excess) → (cursor : ℕ) (excess : ℕ → ℕ) (next : Option Turn) → Ends (turn_within rest cursor excess next) excess
ends_at rest each cursor excess None = record { place = λ t is. cc; least = λ e. omega arith }
ends_at rest each cursor excess (Some t) =
    cond_both (excess t.env == 0) (record { pays = []; runs = Some t; excess = excess; cursor = t.slot }) (pays_first t (rest t.slot (excess_after_forfeit t.env excess)))
    (λ (told : WholeTurn). Ends told excess)
    (λ free. record { place = λ u is. let same : t ≡ u = cc in ap (λ (v : Turn). v.slot) same; least = λ e. omega arith })
    (λ owing. let ends = each t.slot (excess_after_forfeit t.env excess) in record { place = ends.place; least = λ e. omega (arith, ends.least e, lowered_least t.env excess e) })

turn_ends : (slots : ℕ → Option Hold) (count n cursor : ℕ) (excess : ℕ → ℕ) → Ends (turn_from slots count n cursor excess) excess
turn_ends slots count zero cursor excess = record { place = λ t is. cc; least = λ e. omega arith }
turn_ends slots count (suc n) cursor excess = ends_at (turn_from slots count n) (turn_ends slots count n) cursor excess (first_turn slots count cursor count)

-- After a turn somebody runs.
pub record Runs (q : ℕ) (w : World) : Type 0 where
  pub told : IsTold q 0 0 1 w
  pub who : Runner
  pub is : w.book.runner ≡ Some who

rows_begin : (time gap : ℕ) (pays : List Turn) (t : Turn) (later : List Row) → From (time + 0) ((map (pay_row time) pays ++ row.Run time t.slot t.env ∷ []) ++ later)
rows_begin time gap [] t later = omega arith
rows_begin time gap (p ∷ pays) t later = omega arith

taken_runs : (q : ℕ) (w : World) (told : WholeTurn) → IsTold q 0 0 1 w → IsAccounted w → w.book.runner ≡ None → Ends told w.book.excess → (o : Option Turn) → told.runs ≡ o → (o ≡ None → ⊥)
    → GoesByRule w.book told.pays o → Runs q (after w (take_turn w told o))
taken_runs q w told is_told accounted nobody ends None is some goes = absurd (some refl)
taken_runs q w told is_told accounted nobody ends (Some t) is some goes =
    let s = state_after w.rows in
    let b = is_told.bound in
    let says = is_told.says in
    let reply = take_turn w told (Some t) in
    let idle : SaysRunner q 0 0 s w.book.cursor w.book.time None = subst (λ (o : Option Runner). SaysRunner q 0 0 s w.book.cursor w.book.time o) nobody says.runs in
    let now : Turns w s w.book.cursor w.book.excess = record {
      slots = says.slots;
      cursor = says.cursor;
      nobody = idle.0;
      turn = omega (arith, idle.1);
      time = says.time;
      owes = λ e lives. owes w accounted is_told.spares e lives;
    } in
    let has = turn_has q w b.least accounted.slots_live b.within b.most b.beyond told.pays t s w.book.cursor w.book.excess b.within now goes in
    record {
      told = told_to q 0 0 0 0 w (after w reply) reply.rows is_told refl refl
          (λ end later ends_by from. turn_fits q w b.least accounted.slots_live b.within b.most b.beyond told.pays t s w.book.cursor w.book.excess b.within now goes end later ends_by)
          (λ later from. rows_begin w.book.time 0 told.pays t later)
          (record {
            slots = has.slots;
            cursor = inl (has.runs.place ∙ sym (ends.place t is));
            time = has.time;
            runs = record {
              runner = has.runs.runner;
              place = has.runs.place ∙ sym (ends.place t is);
              phase = has.runs.phase;
              limit = omega (arith, has.runs.limit, b.same);
              left = omega (arith, b.same, b.least);
              at_boot = has.runs.at_boot;
            };
          })
          (record { beyond = b.beyond; within = below (has_below goes); most = b.most; same = b.same; least = b.least; modest = λ e. omega (arith, ends.least e, b.modest e) })
          (λ e lives. ap (λ (f : ℕ → Bool). f e) has.dead ∙ is_told.spares e (lives_before w reply e lives));
      who = record { env = t.env; left = w.book.quantum; phase = phase.Own };
      is = refl;
    }
  where
    has_below : GoesByRule w.book told.pays (Some t) → t.slot < w.book.slot_count
    has_below goes = last_below told.pays w.book is_told.bound.within goes
      where
        last_below : (pays : List Turn) (b : Book) → b.cursor < b.slot_count → GoesByRule b pays (Some t) → t.slot < b.slot_count
        last_below [] b within (next, free) = slot_below b.slot_count b.cursor t.slot next.steps within next.stands
        last_below (p ∷ pays) b within (next, owing, rest) =
            last_below pays (record b { cursor = p.slot; excess = excess_after_forfeit p.env b.excess }) (slot_below b.slot_count b.cursor p.slot next.steps within next.stands) rest

    below : t.slot < w.book.slot_count → told.cursor < w.book.slot_count
    below there = omega (arith, ends.place t is)

pub turn_runs : NextIs → TurnsGoByRule → (q : ℕ) (w : World) → Ready q w → (o : Option Runner) → w.book.runner ≡ o → Runs q (after w (turn_when w o))
turn_runs next goes q w ready (Some r) is =
    record { told = told_to q 0 0 0 0 w (after w (no_change w)) [] ready.told refl refl (λ end later ends from. refl) (λ later from. from) ready.told.says ready.told.bound ready.told.spares; who = r; is = is }
turn_runs next goes q w ready None is =
    let b = w.book in
    let told = whole_turn b in
    taken_runs q w told ready.told ready.accounted is (turn_ends b.slots b.slot_count (suc (owed b.excess b.slots b.slot_count)) b.cursor b.excess) told.runs refl
    (λ none.
    let empty = no_turn next goes b ready.told.bound.within none in
    let idle : is_idle_book b ≡ true = rw (is, empty) refl in
    let never : true ≡ false = sym idle ∙ ready.busy in cc)
    (goes b ready.told.bound.within)

-- A tick.
pub sooner : (q : ℕ) (w : World) → IsTold q 0 0 0 w → IsTold q 0 0 1 w
sooner q w told = record { says = told.says; bound = told.bound; spares = told.spares; fits = λ end later ends from. told.fits end later (omega arith) from }

abbrev pub behind : List (World → Reply)
behind = turn ∷ step ∷ timer ∷ []

tick_in_two : (xs : List Taking) → tick_phases xs ≡ serve_phases xs ++ behind
tick_in_two xs = sym (append_assoc (map takes xs) (settles ∷ []) behind)

pub phases_in_two : (happens : List Occurrence) (xs : List Taking) → phases_after happens xs ≡ (map happen happens ++ serve_phases xs) ++ behind
phases_in_two happens xs = ap (λ (phases : List (World → Reply)). map happen happens ++ phases) (tick_in_two xs) ∙ sym (append_assoc (map happen happens) (serve_phases xs) behind)

tick_told : GrantedMay → NextIs → TurnsGoByRule → (q : ℕ) (w : World) (happens : List Occurrence) (xs : List Taking) → Ready q w → IsTold q 0 0 0 (run_phases w (phases_after happens xs))
tick_told granted next goes q w happens xs ready =
    let early = map happen happens ++ serve_phases xs in
    let v = run_phases w early in
    let at = before_turn_ready q happens xs w ready in
    let t = after v (turn v) in
    let runs = turn_runs next goes q v at v.book.runner refl in
    let u = after t (step t) in
    let turned = turn_keeps v at.accounted in
    let stepped = step_told granted q t runs.who runs.is runs.told in
    subst (IsTold q 0 0 0) (sym (ap (run_phases w) (phases_in_two happens xs) ∙ run_append w early behind))
    (timer_told q u stepped (step_keeps granted t turned))

next_told : GrantedMay → NextIs → TurnsGoByRule → (q : ℕ) (schedule : Schedule) (w : World) → IsAccounted w → IsTold q 0 0 0 w → IsTold q 0 0 0 (next_world schedule w)
next_told granted next goes q schedule w accounted told =
    cond_both (is_idle_book w.book) w (run_phases w (next_phases schedule w)) (IsTold q 0 0 0) (λ idle. told)
    (λ busy. tick_told granted next goes q w (happens_in schedule w) (takings_next schedule w) (record { told = sooner q w told; busy = busy; accounted = accounted }))

pub run_told : GrantedMay → NextIs → TurnsGoByRule → (q : ℕ) (schedule : Schedule) (w : World) → IsAccounted w → IsTold q 0 0 0 w → (t : ℕ) → IsTold q 0 0 0 (world_after_ticks schedule w t)
run_told granted next goes q schedule w accounted told zero = told
run_told granted next goes q schedule w accounted told (suc t) =
    next_told granted next goes q schedule (world_after_ticks schedule w t) (ticks_keep_accounts granted schedule w accounted t) (run_told granted next goes q schedule w accounted told t)

pub rows_fit : GrantedMay → NextIs → TurnsGoByRule → ((image : ImageValue) → IsAccepted image → IsTold image.quantum 0 0 0 (boot_world image)) → RowsFit
rows_fit granted next goes boots system t accepted =
    let w = world_after system t in
    (run_told granted next goes system.image.quantum system.schedule (boot_world system.image) (boots_accounted system.image) (boots system.image accepted) t).fits w.book.time [] (omega arith) tt

-- The step: what the runner's act brings.
use Rattle.std.proofs.Common.{arith, refl, sym, ◌∙◌, ap, subst, ◌≡◌, ◌<◌, ◌≤◌, ◌+◌, inl, ℕ, List, [], ◌∷◌, ◌++◌, Bool, true, false, ◌&&◌, Option, None, Some}
use Rattle.std.specs.Prelude.{◌==◌, ◌||◌, not, nat_lt, if◌then◌else◌, unwrap_or}
use Rattle.std.specs.Option.{option_map}
use Rattle.std.proofs.lemmas.Bool.{and_parts, cond_both, eq-eqb, ne_eqb, eqb-false, le-leb, not-true}
use Rattle.aegis_limits.specs.Limits.{most_slots, excess_limit}
use Rattle.kernel_journal.specs.declared.row.Row.{Row}
use Rattle.kernel_journal.specs.declared.row.Row.TheVariants as row
use Rattle.mips_exec.specs.Step.{cpu_after}
use Rattle.env_frames.specs.declared.transfer.TransferKind.TheVariants as kind
use Rattle.world_model.specs.declared.call.Deed.{Deed}
use Rattle.world_model.specs.declared.call.Deed.TheVariants.{Answers, Own, Stops, Gives, Allocates, Frees, Recaps, Binds, Unbinds, Transfers, TakesSlot, DropsSlot, TakesLine, DropsLine, Claims, Unclaims, Downloads, Loads}
use Rattle.world_model.specs.declared.code.Code.TheVariants as code
use Rattle.world_model.specs.declared.life.Cause.{Cause}
use Rattle.world_model.specs.declared.life.Life.{Life}
use Rattle.world_model.specs.declared.life.Life.TheVariants.{Live, Dead}
use Rattle.world_model.specs.declared.hold.Hold.{Hold}
use Rattle.world_model.specs.declared.slot.Phase.{Phase}
use Rattle.world_model.specs.declared.slot.Runner.{Runner}
use Rattle.world_model.specs.declared.verdict.Verdict.{Verdict}
use Rattle.world_model.specs.declared.verdict.Verdict.TheVariants.{Refuse, Again, Grant}
use Rattle.world_model.specs.Table.{set_at}
use Rattle.world_model.specs.Book.{Book, hold_without, own_hold}
use Rattle.world_model.specs.Death.{death, released_rows}
use Rattle.world_model.specs.Item.{Step, absorb, deed_at}
use Rattle.world_model.specs.May.{May}
use Rattle.world_model.specs.SlotCalls.{dropped, gift_refusal, handed, held_by, holds, in_grace, is_other, may_hand_on, slot_row, turn_slot}
use Rattle.world_model.specs.Solo.{Solo, is_dead}
use Rattle.world_model.specs.Step.{Act, Nothing, Stores, Calls, Raises, Dies, act_of, acted, step_alone, stepped}
use Rattle.world_model.specs.Tick.{act_now, act_reply, step, step_when}
use Rattle.world_model.specs.Verdict.{asks_one, done, reply_by_verdict, verdict}
use Rattle.world_model.specs.World.{World, Reply, after, tells}
use Rattle.call_verdicts.specs.Granted.{GrantedMay}
use Rattle.run_model.specs.Excess.{Lives}
use Rattle.run_model.proofs.Phases.{in_turn_is_each}
use Rattle.run_model.proofs.Telling.{deed_may, told_named, told_own}
use Rattle.kernel_journal.specs.RowTable.{time_of}
use Rattle.ledger_audit.specs.LedgerState.{LedgerState, after_row, due_after, limit_in, slot_by, state_after, state_from}
use Rattle.ledger_audit.specs.RowRules.{are_fit, changed_row, is_by_limit, is_change, is_first, is_fit, is_fit_by_kind, is_gift, is_in_time, is_number, is_own_row, is_row, is_runners, may_change, stand_first}
use Rattle.ledger_law.proofs.Told.{Core, From, IsBound, IsRunning, IsTold, Says, SaysRunner, and_true, by_limit, core, in_time, lives_before, told_after}
use Rattle.ledger_law.proofs.Events.{asking_early}
use Rattle.ledger_law.proofs.Mute.{IsMute, mute_fits, mute_from, mute_says, mute_spares, mute_told}
use Rattle.ledger_law.proofs.Releasing.{Leaves, all_released, at_time_slot, due_fits, released_all, releases_at, slot_row_self, slot_said, slots_leave, stand_self}

-- The runner, as the state has it.
pub get_runs : (q ahead gap : ℕ) (s : LedgerState) (c : Core) (r : Runner) → c.runner ≡ Some r → Says q ahead gap s c → IsRunning q gap s c.cursor c.time r
get_runs q ahead gap s c r is says = subst (λ (o : Option Runner). SaysRunner q ahead gap s c.cursor c.time o) is says.runs

any_ahead : (q ahead more gap : ℕ) (s : LedgerState) (c : Core) (r : Runner) → c.runner ≡ Some r → Says q ahead gap s c → Says q more gap s c
any_ahead q ahead more gap s c r is says = record {
  slots = says.slots;
  cursor = says.cursor;
  time = says.time;
  runs = subst (λ (o : Option Runner). SaysRunner q more gap s c.cursor c.time o) (sym is) (get_runs q ahead gap s c r is says);
}

is_number_true : (e : ℕ) (o : Option ℕ) → o ≡ Some e → is_number e o ≡ true
is_number_true e o is = rw is (eq-eqb e e refl)

pub runners_true : (q gap : ℕ) (s : LedgerState) (cursor time : ℕ) (r : Runner) → IsRunning q gap s cursor time r → is_runners s cursor r.env ≡ true
runners_true q gap s cursor time r runs =
    and_true (is_number r.env s.runner) (cursor == s.cursor) (is_number_true r.env s.runner runs.runner) (eq-eqb cursor s.cursor (sym runs.place))

or_second : (x y : Bool) → y ≡ true → (x || y) ≡ true
or_second true y is = refl
or_second false y is = is

and_no : (x y : Bool) → y ≡ false → (x && y) ≡ false
and_no true y is = is
and_no false y is = refl

-- a slot with another hold
slot_set : (t k : ℕ) (hold : Option Hold) (u : LedgerState) (slots : ℕ → Option Hold) → u.slots ≡ slots → (after_row (slot_row t k hold) u).slots ≡ set_at k hold slots
slot_set t k hold u slots is = λ i j. at j i
  where
    by_slot : (b : Bool) (old : Option Hold) → unwrap_or (if b then Some hold else None) old ≡ (if b then hold else old)
    by_slot true old = refl
    by_slot false old = refl

    at : (j : ℕ) → unwrap_or (slot_by j (slot_row t k hold)) (u.slots j) ≡ (if j == k then hold else slots j)
    at j =
        ap (λ (o : Option (Option Hold)). unwrap_or o (u.slots j)) (slot_said t k hold j) ∙ by_slot (j == k) (u.slots j)
        ∙ ap (λ (f : ℕ → Option Hold). if j == k then hold else f j) is

-- another environment, which lives
pub record Other (w : World) (e to : ℕ) : Type 0 where
  pub differs : (to == e) ≡ false
  pub lives : Lives w to

-- What a deed adds.
pub record Deeds (q : ℕ) (w : World) (b : Book) (rows : List Row) : Type 0 where
  pub time : b.time ≡ w.book.time
  pub fits : (end : ℕ) (later : List Row) → w.book.time + 1 ≤ end → are_fit q end (state_after w.rows) rows later ≡ true
  pub first : (later : List Row) → From (w.book.time + 0) later → From (w.book.time + 0) (rows ++ later)
  pub says : Says q 1 0 (state_from (state_after w.rows) rows) (core b)
  pub bound : IsBound q (core b)
  pub spares : (e : ℕ) → (state_after w.rows).dead e ≡ false → (state_from (state_after w.rows) rows).dead e ≡ false

pub deeds_told : (q : ℕ) (w : World) (r : Reply) → IsTold q 0 0 1 w → Deeds q w r.book r.rows → IsTold q 1 0 1 (after w r)
deeds_told q w r told deeds = told_after q 0 0 1 1 0 w r (omega arith) told (record {
  time = deeds.time;
  fits = λ end later ends from. deeds.fits end later ends;
  first = deeds.first;
  says = deeds.says;
  bound = deeds.bound;
  spares = λ e lives. deeds.spares e (told.spares e (lives_before w r e lives));
})

module _ (q : ℕ) (w : World) (r : Runner) (is : w.book.runner ≡ Some r) (told : IsTold q 0 0 1 w) where
  abbrev s : LedgerState
  s = state_after w.rows

  abbrev c : Core
  c = core w.book

  runs : IsRunning q 0 s c.cursor c.time r
  runs = get_runs q 0 0 s c r is told.says

  within : is_by_limit q s c.time s.runner ≡ true
  within = by_limit q 0 s c.cursor c.time c.runner told.says.runs

  now : (end : ℕ) (x : Row) → is_own_row x ≡ false → time_of x ≡ c.time → c.time + 1 ≤ end → is_in_time q end s x ≡ true
  now end x other at ends =
      in_time q end s x (ap (λ (b : Bool). b && s.at_boot) other) (omega (arith, told.says.time)) (omega arith) (subst (λ (n : ℕ). is_by_limit q s n s.runner ≡ true) (sym at) within)

  one : (end : ℕ) (x : Row) (later : List Row) → is_in_time q end s x ≡ true → is_fit_by_kind q s x later ≡ true → are_fit q end s (x ∷ []) later ≡ true
  one end x later time kind = and_true (is_fit q end s x later) true (and_true (is_in_time q end s x) (is_fit_by_kind q s x later) time kind) refl

  -- nothing of slices
  pub mute_deeds : (b : Book) (rows : List Row) → core b ≡ core w.book → IsMute w.book.time rows → Deeds q w b rows
  mute_deeds b rows same mute = record {
    time = ap (λ (d : Core). d.time) same;
    fits = λ end later ends. mute_fits q 0 0 s c told.says rows mute within end later ends;
    first = λ later from. mute_from w.book.time rows later mute from;
    says = subst (λ (d : Core). Says q 1 0 (state_from s rows) d) (sym same) (any_ahead q 0 1 0 (state_from s rows) c r is (mute_says q 0 0 s c told.says rows mute));
    bound = subst (IsBound q) (sym same) told.bound;
    spares = λ e dead. mute_spares q 0 0 s c told.says rows mute e dead;
  }

  -- the runner is stopped
  pub stop_deeds : Deeds q w (record w.book { runner = None }) (row.Stop w.book.time w.book.cursor r.env ∷ [])
  stop_deeds = record {
    time = refl;
    fits = λ end later ends. let x = row.Stop w.book.time w.book.cursor r.env in one end x later (now end x refl refl ends) (runners_true q 0 s c.cursor c.time r runs);
    first = λ later from. omega arith;
    says = record { slots = told.says.slots; cursor = inl runs.place; time = omega arith; runs = (refl, refl) };
    bound = record { beyond = told.bound.beyond; within = told.bound.within; most = told.bound.most; same = told.bound.same; least = told.bound.least; modest = told.bound.modest };
    spares = λ e dead. dead;
  }

  -- the slice is handed on
  gift_true : (to : ℕ) → Other w r.env to → in_grace r.phase ≡ false → is_gift s c.cursor r.env to ≡ true
  gift_true to other own =
      let differs : not (r.env == to) ≡ true = ap not (ne_eqb r.env to (λ (same : r.env ≡ to). eqb-false to r.env other.differs (sym same))) in
      let spared : not (s.dead to) ≡ true = ap not (told.spares to other.lives) in
      let slice : not (in_grace s.phase) ≡ true = ap (λ (p : Phase). not (in_grace p)) runs.phase ∙ ap not own in
      and_true (is_runners s c.cursor r.env) (not (r.env == to) && (not (s.dead to) && not (in_grace s.phase))) (runners_true q 0 s c.cursor c.time r runs)
      (and_true (not (r.env == to)) (not (s.dead to) && not (in_grace s.phase)) differs
      (and_true (not (s.dead to)) (not (in_grace s.phase)) spared slice))

  handed_bound : (slots : ℕ → Option Hold) (runner : Option Runner) → ((k : ℕ) → w.book.slot_count ≤ k → slots k ≡ None) → IsBound q (core (record w.book { slots = slots; runner = runner }))
  handed_bound slots runner beyond = record { beyond = beyond; within = told.bound.within; most = told.bound.most; same = told.bound.same; least = told.bound.least; modest = told.bound.modest }

  handed_says : (to : ℕ) (slots : ℕ → Option Hold) (u : LedgerState) → u.slots ≡ slots → u.cursor ≡ s.cursor → u.time ≤ c.time → u.runner ≡ Some to → u.phase ≡ s.phase
      → limit_in q u ≡ limit_in q s → u.at_boot ≡ false → Says q 1 0 u (core (record w.book { slots = slots; runner = handed to w.book.runner }))
  handed_says to slots u same cursor time runner phase limit boot = record {
    slots = same;
    cursor = inl (cursor ∙ runs.place);
    time = time;
    runs = subst (λ (o : Option Runner). SaysRunner q 1 0 u c.cursor c.time (handed to o)) (sym is) (record {
      runner = runner;
      place = cursor ∙ runs.place;
      phase = phase ∙ runs.phase;
      limit = ap (λ (n : ℕ). n + 1) limit ∙ runs.limit;
      left = runs.left;
      at_boot = boot;
    });
  }

  pub give_deeds : (to : ℕ) → Other w r.env to → in_grace r.phase ≡ false
      → Deeds q w (record w.book { runner = handed to w.book.runner }) (row.Give w.book.time w.book.cursor r.env to ∷ [])
  give_deeds to other own = record {
    time = refl;
    fits = λ end later ends. let x = row.Give w.book.time w.book.cursor r.env to in one end x later (now end x refl refl ends) (gift_true to other own);
    first = λ later from. omega arith;
    says = handed_says to w.book.slots (after_row (row.Give w.book.time w.book.cursor r.env to) s) told.says.slots refl (omega arith) refl refl refl refl;
    bound = handed_bound w.book.slots (handed to w.book.runner) told.bound.beyond;
    spares = λ e dead. dead;
  }

  pub async_deeds : (to : ℕ) → Other w r.env to → in_grace r.phase ≡ false
      → Deeds q w (record w.book { runner = handed to w.book.runner }) (row.Async w.book.time w.book.cursor r.env to ∷ [])
  async_deeds to other own = record {
    time = refl;
    fits = λ end later ends. let x = row.Async w.book.time w.book.cursor r.env to in one end x later (now end x refl refl ends) (gift_true to other own);
    first = λ later from. omega arith;
    says = handed_says to w.book.slots (after_row (row.Async w.book.time w.book.cursor r.env to) s) told.says.slots refl (omega arith) refl refl refl refl;
    bound = handed_bound w.book.slots (handed to w.book.runner) told.bound.beyond;
    spares = λ e dead. dead;
  }

  set_beyond : (k : ℕ) (hold : Option Hold) → k < w.book.slot_count → (j : ℕ) → w.book.slot_count ≤ j → set_at k hold w.book.slots j ≡ None
  set_beyond k hold there j past = let differs : j ≡ k → ⊥ = λ (same : j ≡ k). omega arith in rw (ne_eqb j k differs) (told.bound.beyond j past)

  -- with the slot, too
  pub sync_deeds : (to : ℕ) → Other w r.env to → in_grace r.phase ≡ false → holds r.env (turn_slot w.book) ≡ true
      → (let hold = option_map (held_by to) (turn_slot w.book) in
      Deeds q w (record w.book { slots = set_at w.book.cursor hold w.book.slots; runner = handed to w.book.runner })
      (row.Sync w.book.time w.book.cursor r.env to ∷ slot_row w.book.time w.book.cursor hold ∷ []))
  sync_deeds to other own holding =
      let hold = option_map (held_by to) (turn_slot w.book) in
      let x = row.Sync w.book.time w.book.cursor r.env to in
      let rest = slot_row w.book.time w.book.cursor hold ∷ [] in
      let u = after_row x s in
      let at = at_time_slot w.book.time w.book.cursor hold in
      let due : due_after x s ≡ rest = ap (λ (f : ℕ → Option Hold). slot_row w.book.time w.book.cursor (option_map (held_by to) (f w.book.cursor)) ∷ []) told.says.slots in
      let leaves = slots_leave q w.book.time rest u at in
      record {
        time = refl;
        fits = λ end later ends.
            and_true (is_fit q end s x (rest ++ later)) (are_fit q end u rest later)
            (and_true (is_in_time q end s x) (is_fit_by_kind q s x (rest ++ later)) (now end x refl refl ends)
            (and_true (is_gift s c.cursor r.env to) (holds r.env (s.slots c.cursor) && stand_first (due_after x s) (rest ++ later)) (gift_true to other own)
            (and_true (holds r.env (s.slots c.cursor)) (stand_first (due_after x s) (rest ++ later))
            (ap (λ (f : ℕ → Option Hold). holds r.env (f c.cursor)) told.says.slots ∙ holding)
            (ap (λ (xs : List Row). stand_first xs (rest ++ later)) due ∙ stand_self w.book.time rest later at))))
            (due_fits q end w.book.time rest later u at due refl (le-leb c.time (limit_in q s) (omega (arith, runs.limit, runs.left))) (omega arith) ends);
        first = λ later from. omega arith;
        says = handed_says to (set_at w.book.cursor hold w.book.slots) (state_from u rest) (slot_set w.book.time w.book.cursor hold u w.book.slots told.says.slots)
            leaves.cursor (leaves.time (omega arith)) leaves.runner leaves.phase leaves.limit leaves.at_boot;
        bound = handed_bound (set_at w.book.cursor hold w.book.slots) (handed to w.book.runner) (set_beyond w.book.cursor hold told.bound.within);
        spares = λ e dead. ap (λ (f : ℕ → Bool). f e) leaves.dead ∙ dead;
      }

  -- a slot is taken or dropped
  own_kind : (k : ℕ) (hold : Option Hold) (later : List Row) → is_change s s.runner c.time k (slot_row c.time k hold) ≡ true → is_fit_by_kind q s (slot_row c.time k hold) later ≡ true
  own_kind k None later change = rw runs.at_boot (or_second (is_first s.due (slot_row c.time k None)) (is_change s s.runner c.time k (slot_row c.time k None)) change)
  own_kind k (Some hold) later change = rw runs.at_boot (or_second (is_first s.due (slot_row c.time k (Some hold))) (is_change s s.runner c.time k (slot_row c.time k (Some hold))) change)

  time_of_slot : (k : ℕ) (hold : Option Hold) → time_of (slot_row c.time k hold) ≡ c.time
  time_of_slot k None = refl
  time_of_slot k (Some hold) = refl

  pub slot_deeds : (k : ℕ) (hold : Option Hold) → k < w.book.slot_count → may_change r.env (w.book.slots k) ≡ true → changed_row c.time r.env k (w.book.slots k) ≡ slot_row c.time k hold
      → Deeds q w (record w.book { slots = set_at k hold w.book.slots }) (slot_row w.book.time k hold ∷ [])
  slot_deeds k hold there may changes =
      let x = slot_row c.time k hold in
      let at = at_time_slot w.book.time k hold in
      let leaves = slots_leave q w.book.time (x ∷ []) s at in
      let slot : s.slots k ≡ w.book.slots k = ap (λ (f : ℕ → Option Hold). f k) told.says.slots in
      let change : is_change s s.runner c.time k x ≡ true =
      ap (λ (o : Option ℕ). is_change s o c.time k x) runs.runner
      ∙ ap (λ (old : Option Hold). may_change r.env old && is_row (changed_row c.time r.env k old) x) slot
      ∙ and_true (may_change r.env (w.book.slots k)) (is_row (changed_row c.time r.env k (w.book.slots k)) x) may
      (ap (λ (y : Row). is_row y x) changes ∙ slot_row_self c.time k hold) in
      record {
        time = refl;
        fits = λ end later ends.
            one end x later (in_time q end s x (and_no (is_own_row x) s.at_boot runs.at_boot) (omega (arith, told.says.time, time_of_slot k hold)) (omega (arith, time_of_slot k hold))
            (subst (λ (n : ℕ). is_by_limit q s n s.runner ≡ true) (sym (time_of_slot k hold)) within)) (own_kind k hold later change);
        first = λ later from. omega (arith, time_of_slot k hold);
        says = record {
          slots = slot_set w.book.time k hold s w.book.slots told.says.slots;
          cursor = inl (leaves.cursor ∙ runs.place);
          time = leaves.time told.says.time;
          runs = subst (λ (o : Option Runner). SaysRunner q 1 0 (state_from s (x ∷ [])) c.cursor c.time o) (sym is) (record {
            runner = leaves.runner ∙ runs.runner;
            place = leaves.cursor ∙ runs.place;
            phase = leaves.phase ∙ runs.phase;
            limit = ap (λ (n : ℕ). n + 1) leaves.limit ∙ runs.limit;
            left = runs.left;
            at_boot = leaves.at_boot ∙ runs.at_boot;
          });
        };
        bound = handed_bound (set_at k hold w.book.slots) w.book.runner (set_beyond k hold there);
        spares = λ e dead. ap (λ (f : ℕ → Bool). f e) leaves.dead ∙ dead;
      }

-- Which deed does what.
living : (life : Life) → not (is_dead life) ≡ true → life ≡ Live
living Live alive = refl
living (Dead cause) alive = cc

other_of : (w : World) (e target : ℕ) → is_other w e target ≡ true → Other w e target
other_of w e target is =
    let alive = not (is_dead (w.solos target).life) in
    let rest : (alive && not (target == e)) ≡ true = (and_parts (nat_lt target w.count) (alive && not (target == e)) is).1 in
    let both = and_parts alive (not (target == e)) rest in
    record { differs = not-true (target == e) both.1; lives = living (w.solos target).life both.0 }

gift_own : (later : Bool) (r : Runner) (slot : Option Hold) → gift_refusal later (Some r) slot ≡ None → (in_grace r.phase ≡ false) × (may_hand_on later r.env slot ≡ true)
gift_own later r slot is = by_phase (in_grace r.phase) (may_hand_on later r.env slot) is
  where
    by_phase : (a b : Bool) → (if a then Some code.NoSlice else (if b then None else Some code.NotHolder)) ≡ None → (a ≡ false) × (b ≡ true)
    by_phase true b none = cc
    by_phase false true none = (refl, refl)
    by_phase false false none = cc

module _ (q : ℕ) (w : World) (r : Runner) (is : w.book.runner ≡ Some r) (told : IsTold q 0 0 1 w) where
  gift_may : (later : Bool) → gift_refusal later w.book.runner (turn_slot w.book) ≡ None → (in_grace r.phase ≡ false) × (may_hand_on later r.env (turn_slot w.book) ≡ true)
  gift_may later none = gift_own later r (turn_slot w.book) (subst (λ (o : Option Runner). gift_refusal later o (turn_slot w.book) ≡ None) is none)

  mute : (d : Deed) → core (done w r.env d).book ≡ core w.book → IsMute w.book.time (done w r.env d).rows → Deeds q w (done w r.env d).book (done w r.env d).rows
  mute d same quiet = mute_deeds q w r is told (done w r.env d).book (done w r.env d).rows same quiet

  deed_fits : (d : Deed) → May w r.env d → Deeds q w (done w r.env d).book (done w r.env d).rows
  deed_fits Answers may = mute Answers refl tt
  deed_fits (Own own) may = mute (Own own) refl tt
  deed_fits Stops may = stop_deeds q w r is told
  deed_fits (Gives target) may = give_deeds q w r is told target (other_of w r.env target may.other) (gift_may false may.gift).0
  deed_fits (Allocates page words) may = mute (Allocates page words) refl tt
  deed_fits (Frees page) may = mute (Frees page) refl tt
  deed_fits (Recaps page words) may = mute (Recaps page words) refl tt
  deed_fits (Binds binding word) may = mute (Binds binding word) refl tt
  deed_fits (Unbinds vpn) may = mute (Unbinds vpn) refl tt
  deed_fits (Transfers target kind.Asynchronous) may = async_deeds q w r is told target (other_of w r.env target may.reach.other) (gift_may false may.reach.gift).0
  deed_fits (Transfers target kind.Synchronous) may =
      let gift = gift_may true may.reach.gift in
      sync_deeds q w r is told target (other_of w r.env target may.reach.other) gift.0 gift.1
  deed_fits (TakesSlot k) may =
      slot_deeds q w r is told k (Some (own_hold r.env)) may.there (ap (may_change r.env) may.empty) (ap (changed_row w.book.time r.env k) may.empty)
  deed_fits (DropsSlot k) may =
      slot_deeds q w r is told k (dropped r.env (w.book.slots k)) may.there
      (ap (may_change r.env) may.stands ∙ eq-eqb may.hold.holder r.env may.holder)
      (ap (changed_row w.book.time r.env k) may.stands ∙ ap (λ (old : Option Hold). slot_row w.book.time k (dropped r.env old)) (sym may.stands))
  deed_fits (TakesLine line) may = mute (TakesLine line) refl tt
  deed_fits (DropsLine line) may = mute (DropsLine line) refl tt
  deed_fits (Claims claim address atoms page) may = mute (Claims claim address atoms page) refl tt
  deed_fits (Unclaims claim) may = mute (Unclaims claim) refl tt
  deed_fits (Downloads claim address words) may = mute (Downloads claim address words) refl tt
  deed_fits (Loads page) may = mute (Loads page) refl tt

  reply_told : (v : Verdict) → ((value : ℕ) → v ≡ Grant value → May w r.env (deed_at (w.solos r.env) value)) → IsTold q 1 0 1 (after w (reply_by_verdict w r.env v))
  reply_told (Refuse code value) may =
      deeds_told q w (reply_by_verdict w r.env (Refuse code value)) told (mute_deeds q w r is told w.book [] refl tt)
  reply_told (Again who) may =
      let early = asking_early who w in
      deeds_told q w (reply_by_verdict w r.env (Again who)) told (mute_deeds q w r is told (asks_one who w).book (asks_one who w).rows early.same early.mute)
  reply_told (Grant value) may =
      let d = deed_at (w.solos r.env) value in
      deeds_told q w (reply_by_verdict w r.env (Grant value)) told (deed_fits d (may value refl))

-- A death.
death_state : (q : ℕ) (w : World) (e : ℕ) (t : LedgerState) → t.slots ≡ w.book.slots → ((k : ℕ) → w.book.slot_count ≤ k → w.book.slots k ≡ None) → w.book.slot_count ≤ most_slots
    → (let u = after_row (row.Dead w.book.time w.book.cursor e) t in
    let rows = released_rows w.book.time e w.book.slots w.book.slot_count in
    (u.due ≡ rows) × ((state_from u rows).slots ≡ (λ k. hold_without e (w.book.slots k))) × Leaves q w.book.time u (state_from u rows))
death_state q w e t same beyond few =
    let u = after_row (row.Dead w.book.time w.book.cursor e) t in
    let rows = released_rows w.book.time e w.book.slots w.book.slot_count in (
      ap (λ (f : ℕ → Option Hold). due_after (row.Dead w.book.time w.book.cursor e) (record t { slots = f })) same ∙ released_all w.book.time e w.book.slots w.book.slot_count beyond few,
      all_released w.book.time e w.book.slots u same w.book.slot_count beyond,
      slots_leave q w.book.time rows u (releases_at w.book.time e w.book.slots w.book.slot_count),
    )

-- the rows of a death of the runner fit, where it is the runner by the state
pub death_fits : (q : ℕ) (w : World) (e : ℕ) (t : LedgerState) → t.slots ≡ w.book.slots → ((k : ℕ) → w.book.slot_count ≤ k → w.book.slots k ≡ None) → w.book.slot_count ≤ most_slots → is_runners t w.book.cursor e ≡ true
    → (end : ℕ) (later : List Row) → is_in_time q end t (row.Dead w.book.time w.book.cursor e) ≡ true → w.book.time + 1 ≤ end → are_fit q end t (death w e).rows later ≡ true
death_fits q w e t same beyond few runs end later time ends =
    let x = row.Dead w.book.time w.book.cursor e in
    let u = after_row x t in
    let rows = released_rows w.book.time e w.book.slots w.book.slot_count in
    let at = releases_at w.book.time e w.book.slots w.book.slot_count in
    let state = death_state q w e t same beyond few in
    and_true (is_fit q end t x (rows ++ later)) (are_fit q end u rows later)
    (and_true (is_in_time q end t x) (is_fit_by_kind q t x (rows ++ later)) time
    (and_true (is_runners t w.book.cursor e) (stand_first (due_after x t) (rows ++ later)) runs
    (ap (λ (xs : List Row). stand_first xs (rows ++ later)) state.0 ∙ stand_self w.book.time rows later at)))
    (due_fits q end w.book.time rows later u at state.0 refl refl (omega arith) ends)

pub death_says : (q gap : ℕ) (w : World) (e : ℕ) (t : LedgerState) → t.slots ≡ w.book.slots → ((k : ℕ) → w.book.slot_count ≤ k → w.book.slots k ≡ None) → w.book.slot_count ≤ most_slots → t.cursor ≡ w.book.cursor
    → Says q 1 gap (state_from t (death w e).rows) (core (death w e).book)
death_says q gap w e t same beyond few cursor =
    let state = death_state q w e t same beyond few in
    record { slots = state.1; cursor = inl (state.2.cursor ∙ cursor); time = state.2.time (omega arith); runs = (state.2.runner, state.2.turn) }

modest_set : (e : ℕ) (excess : ℕ → ℕ) → ((i : ℕ) → excess i ≤ excess_limit) → (i : ℕ) → set_at e 0 excess i ≤ excess_limit
modest_set e excess each i = by_test (i == e)
  where
    by_test : (b : Bool) → (if b then 0 else excess i) ≤ excess_limit
    by_test true = omega arith
    by_test false = each i

pub death_bound : (q : ℕ) (w : World) (e : ℕ) → ((i : ℕ) → set_at e 0 w.book.excess i ≤ excess_limit) → ((k : ℕ) → w.book.slot_count ≤ k → w.book.slots k ≡ None) → w.book.cursor < w.book.slot_count
    → w.book.slot_count ≤ most_slots → w.book.quantum ≡ q → 1 ≤ q → IsBound q (core (death w e).book)
death_bound q w e modest beyond within most same least =
    record { beyond = λ k past. ap (hold_without e) (beyond k past); within = within; most = most; same = same; least = least; modest = modest }

pub death_dead : (q : ℕ) (w : World) (e : ℕ) (t : LedgerState) → t.slots ≡ w.book.slots → ((k : ℕ) → w.book.slot_count ≤ k → w.book.slots k ≡ None) → w.book.slot_count ≤ most_slots → (i : ℕ) → (i ≡ e → ⊥) → t.dead i ≡ false
    → (state_from t (death w e).rows).dead i ≡ false
death_dead q w e t same beyond few i other spared =
    ap (λ (f : ℕ → Bool). f i) (death_state q w e t same beyond few).2.dead ∙ rw (ne_eqb i e other) spared

-- the runner's step that is its death
stepped_dies : (s : Solo) (cause : Cause) → act_of s (step_alone s) ≡ Dies cause → (absorb s Step).life ≡ Live → ⊥
stepped_dies s cause is =
    cond_both (is_dead s.life) s (stepped s (step_alone s)) (λ (t : Solo). t.life ≡ Live → ⊥)
    (λ gone lives. let never : true ≡ false = sym gone ∙ ap is_dead lives in cc)
    (λ alive lives. let never : Dead cause ≡ Live = sym (ap (λ (act : Act). (acted act (record s { cpu = cpu_after s.cpu (step_alone s) })).life) is) ∙ lives in cc)

death_told : (q : ℕ) (w : World) (r : Runner) → w.book.runner ≡ Some r → IsTold q 0 0 1 w → (Lives w r.env → ⊥) → IsTold q 1 0 1 (after w (death w r.env))
death_told q w r is told gone =
    let s = state_after w.rows in
    let c = core w.book in
    let e = r.env in
    let runs = get_runs q 0 0 s c r is told.says in
    let x = row.Dead w.book.time w.book.cursor e in
    told_after q 0 0 1 1 0 w (death w e) (omega arith) told (record {
      time = refl;
      fits = λ end later ends from.
          death_fits q w e s told.says.slots told.bound.beyond told.bound.most (runners_true q 0 s c.cursor c.time r runs) end later
          (in_time q end s x refl told.says.time (omega arith) (by_limit q 0 s c.cursor c.time c.runner told.says.runs)) ends;
      first = λ later from. omega arith;
      says = death_says q 0 w e s told.says.slots told.bound.beyond told.bound.most runs.place;
      bound = death_bound q w e (modest_set e w.book.excess told.bound.modest) told.bound.beyond told.bound.within told.bound.most told.bound.same told.bound.least;
      spares = λ i lives.
          let before = lives_before w (death w e) i lives in
          death_dead q w e s told.says.slots told.bound.beyond told.bound.most i (λ (same : i ≡ e). gone (subst (Lives w) same before)) (told.spares i before);
    })

-- The step.
abbrev stepping : ℕ → Act → List (World → Reply)
stepping e act = tells e Step ∷ act_reply e act ∷ []

pub act_told : GrantedMay → (q : ℕ) (w : World) (r : Runner) → w.book.runner ≡ Some r → IsTold q 0 0 1 w → (act : Act) → act_now w r.env ≡ act
    → (let v = after w (tells r.env Step w) in IsTold q 1 0 1 (after v (act_reply r.env act v)))
act_told granted q w r is told Nothing acts =
    let v = after w (tells r.env Step w) in
    let at = mute_told q 1 w (tells r.env Step w) (omega arith) told refl tt in
    deeds_told q v (act_reply r.env Nothing v) at (mute_deeds q v r is at v.book [] refl tt)
act_told granted q w r is told (Stores x) acts =
    let v = after w (tells r.env Step w) in
    let at = mute_told q 1 w (tells r.env Step w) (omega arith) told refl tt in
    deeds_told q v (act_reply r.env (Stores x) v) at (mute_deeds q v r is at v.book [] refl tt)
act_told granted q w r is told (Calls call) acts =
    let v = after w (tells r.env Step w) in
    let at = mute_told q 1 w (tells r.env Step w) (omega arith) told refl tt in
    reply_told q v r is at (verdict v r.env call) (deed_may granted v r.env call (told_named w r.env call acts))
act_told granted q w r is told (Raises exc) acts =
    let v = after w (tells r.env Step w) in
    let at = mute_told q 1 w (tells r.env Step w) (omega arith) told refl tt in
    deeds_told q v (act_reply r.env (Raises exc) v) at (mute_deeds q v r is at v.book [] refl tt)
act_told granted q w r is told (Dies cause) acts =
    let v = after w (tells r.env Step w) in
    let at = mute_told q 1 w (tells r.env Step w) (omega arith) told refl tt in
    death_told q v r is at (λ lives. stepped_dies (w.solos r.env) cause acts (subst (λ (s : Solo). s.life ≡ Live) (told_own w r.env Step) lives))

pub step_told : GrantedMay → (q : ℕ) (w : World) (r : Runner) → w.book.runner ≡ Some r → IsTold q 0 0 1 w → IsTold q 1 0 1 (after w (step w))
step_told granted q w r is told =
    let phases = stepping r.env (act_now w r.env) in
    subst (λ (o : Option Runner). IsTold q 1 0 1 (after w (step_when w o))) (sym is)
    (subst (IsTold q 1 0 1) (sym (in_turn_is_each w phases)) (act_told granted q w r is told (act_now w r.env) refl))

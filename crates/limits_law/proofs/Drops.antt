-- A packet that is dropped is one of the schedule.
use Rattle.std.proofs.Common.{◌≡◌, ◌+◌, ℕ, zero, suc, List, [], ◌∷◌, ◌++◌, length, map, Bool, true, ◌&&◌, Option, Some, None, is_none, refl, sym, ◌∙◌, ap, subst}
use Rattle.std.specs.Prelude.{◌*◌, slice_get}
use Rattle.std.specs.List.{list_all}
use Rattle.std.proofs.lemmas.Bool.{cond_both}
use Rattle.std.proofs.lemmas.List.Folds.{list_all-append}
use Rattle.external_event.specs.declared.event.Occurrence.{Occurrence}
use Rattle.external_event.specs.declared.event.Occurrence.TheVariants as outside
use Rattle.external_event.specs.EventValue.{is_occurrence}
use Rattle.external_event.specs.Packet.{is_packet}
use Rattle.env_frames.specs.declared.transfer.TransferKind.TheVariants as kind
use Rattle.filter_tree.specs.ClaimBook.{ClaimValue}
use Rattle.kernel_journal.specs.declared.row.Row.{Row}
use Rattle.kernel_journal.specs.declared.row.Row.TheVariants as row
use Rattle.revocation_book.specs.declared.revocation.Pending.{Pending}
use Rattle.revocation_book.specs.declared.revocation.Taking.{Taking}
use Rattle.revocation_book.specs.Pending.{asked}
use Rattle.world_model.specs.declared.call.Deed.{Deed}
use Rattle.world_model.specs.declared.call.Deed.TheVariants.{Answers, Own, Stops, Gives, Allocates, Frees, Recaps, Binds, Unbinds, Transfers, TakesSlot, DropsSlot, TakesLine, DropsLine, Claims, Unclaims, Downloads, Loads}
use Rattle.world_model.specs.declared.hold.Hold.{Hold}
use Rattle.world_model.specs.declared.slot.Runner.{Runner}
use Rattle.world_model.specs.declared.slot.Turn.{Turn}
use Rattle.world_model.specs.declared.timer.Timer.{Timer}
use Rattle.world_model.specs.declared.timer.Timer.TheVariants as answer
use Rattle.world_model.specs.declared.verdict.Verdict.{Verdict}
use Rattle.world_model.specs.declared.verdict.Verdict.TheVariants.{Refuse, Again, Grant}
use Rattle.world_model.specs.Book.{has_part, hold_without, own_hold, whole_turn}
use Rattle.world_model.specs.ClaimCalls.{claim_of}
use Rattle.world_model.specs.Deadlines.{settles, takes}
use Rattle.world_model.specs.Death.{death, released_row, released_rows}
use Rattle.world_model.specs.Event.{arrives, asks, happen, revokes, signals}
use Rattle.world_model.specs.Item.{Killed, Step, deed_at}
use Rattle.world_model.specs.SlotCalls.{dropped, held_by, slot_row, turn_slot}
use Rattle.world_model.specs.Step.{Act, Nothing, Stores, Calls, Raises, Dies}
use Rattle.world_model.specs.Tick.{act_now, act_reply, count_when, owes_more, pay_row, phases_after, step, step_when, take_turn, tick_phases, timer, timer_now, timer_reply, turn, turn_when}
use Rattle.world_model.specs.Verdict.{done, reply_by_verdict, verdict}
use Rattle.world_model.specs.World.{World, Reply, after, is_living, no_change, tells}
use Rattle.std.specs.Option.{option_map}
use Rattle.run_model.specs.Boot.{boot_slot, own_row, own_rows}
use Rattle.run_model.specs.Run.{System, happens_in, moment, next_phases, takings_in, world_after}
use Rattle.run_model.proofs.Phases.{next_moment, once_more}
use Rattle.sharing_law.specs.Whole.{AreEventsWithinLimits}
use Rattle.sharing_law.proofs.Moments.{each_moment}
use Rattle.limits_law.specs.Packets.{DropsAreWithin, is_drop_within}

abbrev Fine : List Row → Type 0
Fine rows = list_all is_drop_within rows ≡ true

both : (xs ys : List Row) → Fine xs → Fine ys → Fine (xs ++ ys)
both xs ys first next = list_all-append is_drop_within xs ys ∙ ap (λ (b : Bool). b && list_all is_drop_within ys) first ∙ next

-- rows of slots
slot_fine : (t k : ℕ) (hold : Option Hold) → Fine (slot_row t k hold ∷ [])
slot_fine t k None = refl
slot_fine t k (Some hold) = refl

released_fine : (t e : ℕ) (slots : ℕ → Option Hold) (count : ℕ) → Fine (released_rows t e slots count)
released_fine t e slots zero = refl
released_fine t e slots (suc k) =
    both (released_rows t e slots k) (released_row t e k (slots k)) (released_fine t e slots k)
    (cond_both (has_part e (slots k)) (slot_row t k (hold_without e (slots k)) ∷ []) [] Fine (λ part. slot_fine t k (hold_without e (slots k))) (λ none. refl))

-- ---- phases
asks_fine : (e : ℕ) (o : Option Pending) (w : World) → Fine (asks e o w).rows
asks_fine e None w = refl
asks_fine e (Some p) w = refl

revokes_fine : (e count until : ℕ) (w : World) → Fine (revokes e count until w).rows
revokes_fine e count until w =
    let pending = asked count until (w.book.pending e) in
    cond_both (is_living w e) (asks e pending w) (no_change w) (λ (r : Reply). Fine r.rows) (λ lives. asks_fine e pending w) (λ gone. refl)

signals_fine : (line : ℕ) (o : Option ℕ) (w : World) → Fine (signals line o w).rows
signals_fine line None w = refl
signals_fine line (Some owner) w = refl

arrives_fine : (packet : List ℕ) (o : Option ClaimValue) (w : World) → is_packet packet ≡ true → Fine (arrives packet o w).rows
arrives_fine packet None w its = ap (λ (b : Bool). b && true) its
arrives_fine packet (Some c) w its = refl

happen_fine : (what : Occurrence) (w : World) → is_occurrence what ≡ true → Fine (happen what w).rows
happen_fine (outside.Packet packet) w its = arrives_fine packet (claim_of w.book packet) w its
happen_fine (outside.Line line) w its = signals_fine line (w.book.lines line) w
happen_fine (outside.Revoke env count grace) w its = revokes_fine env count (w.book.time + grace) w

paid_fine : (time slot env : ℕ) (turns : List Turn) → Fine (map (pay_row time) turns ++ row.Run time slot env ∷ [])
paid_fine time slot env [] = refl
paid_fine time slot env (t ∷ turns) = paid_fine time slot env turns

taken_fine : (w : World) (o : Option Turn) → Fine (take_turn w (whole_turn w.book) o).rows
taken_fine w None = refl
taken_fine w (Some t) = paid_fine w.book.time t.slot t.env (whole_turn w.book).pays

turned_fine : (w : World) (o : Option Runner) → Fine (turn_when w o).rows
turned_fine w None = taken_fine w (whole_turn w.book).runs
turned_fine w (Some r) = refl

deed_fine : (w : World) (e : ℕ) (d : Deed) → Fine (done w e d).rows
deed_fine w e (TakesSlot k) = slot_fine w.book.time k (Some (own_hold e))
deed_fine w e (DropsSlot k) = slot_fine w.book.time k (dropped e (w.book.slots k))
deed_fine w e (Transfers target kind.Asynchronous) = refl
deed_fine w e (Transfers target kind.Synchronous) = slot_fine w.book.time w.book.cursor (option_map (held_by target) (turn_slot w.book))
deed_fine w e Answers = refl
deed_fine w e (Own own) = refl
deed_fine w e Stops = refl
deed_fine w e (Gives target) = refl
deed_fine w e (Allocates page words) = refl
deed_fine w e (Frees page) = refl
deed_fine w e (Recaps page words) = refl
deed_fine w e (Binds b word) = refl
deed_fine w e (Unbinds vpn) = refl
deed_fine w e (TakesLine line) = refl
deed_fine w e (DropsLine line) = refl
deed_fine w e (Claims claim address atoms page) = refl
deed_fine w e (Unclaims claim) = refl
deed_fine w e (Downloads claim address words) = refl
deed_fine w e (Loads page) = refl

reply_fine : (w : World) (e : ℕ) (v : Verdict) → Fine (reply_by_verdict w e v).rows
reply_fine w e (Refuse code value) = refl
reply_fine w e (Again who) =
    let until = w.book.time + 2 * w.book.quantum in
    cond_both (is_none (w.book.pending who)) (revokes who 1 until w) (no_change w) (λ (r : Reply). Fine r.rows) (λ nothing. revokes_fine who 1 until w) (λ pending. refl)
reply_fine w e (Grant value) = deed_fine w e (deed_at (w.solos e) value)

dies_fine : (w : World) (e : ℕ) → Fine (death w e).rows
dies_fine w e = released_fine w.book.time e w.book.slots w.book.slot_count

act_fine : (w : World) (e : ℕ) (act : Act) → Fine (act_reply e act w).rows
act_fine w e Nothing = refl
act_fine w e (Stores x) = refl
act_fine w e (Calls c) = reply_fine w e (verdict w e c)
act_fine w e (Raises exc) = refl
act_fine w e (Dies cause) = dies_fine w e

step_fine : (w : World) (o : Option Runner) → Fine (step_when w o).rows
step_fine w None = refl
step_fine w (Some r) = let v = after w (tells r.env Step w) in both (act_reply r.env (act_now w r.env) v).rows [] (act_fine v r.env (act_now w r.env)) refl

answer_fine : (w : World) (r : Runner) (a : Timer) → Fine (timer_reply r a w).rows
answer_fine w r answer.Nothing = refl
answer_fine w r answer.End = refl
answer_fine w r answer.Stop = refl
answer_fine w r (answer.Over excess) = refl
answer_fine w r answer.Kill =
    let v = after w (owes_more r.env w) in
    let u = after v (tells r.env Killed v) in
    both ((death u r.env).rows ++ []) [] (both (death u r.env).rows [] (dies_fine u r.env) refl) refl

timer_fine : (w : World) (o : Option Runner) → Fine ((count_when o w).rows ++ ([] ++ []))
timer_fine w None = refl
timer_fine w (Some r) = both (timer_reply r (timer_now w r) w).rows [] (answer_fine w r (timer_now w r)) refl

abbrev PhaseFine : (World → Reply) → Type 0
PhaseFine phase = (w : World) → Fine (phase w).rows

same_phase : (p q : World → Reply) → PhaseFine p → Some p ≡ Some q → PhaseFine q
same_phase p q its same = let is : p ≡ q = cc in subst PhaseFine is its

behind_fine : (xs : List Taking) (k : ℕ) (phase : World → Reply) → slice_get (tick_phases xs) k ≡ Some phase → PhaseFine phase
behind_fine [] zero phase is = same_phase settles phase (λ w. refl) is
behind_fine [] (suc zero) phase is = same_phase turn phase (λ w. turned_fine w w.book.runner) is
behind_fine [] (suc (suc zero)) phase is = same_phase step phase (λ w. step_fine w w.book.runner) is
behind_fine [] (suc (suc (suc zero))) phase is = same_phase timer phase (λ w. timer_fine w w.book.runner) is
behind_fine [] (suc (suc (suc (suc k)))) phase is = cc
behind_fine (x ∷ xs) zero phase is = same_phase (takes x) phase (λ w. refl) is
behind_fine (x ∷ xs) (suc k) phase is = behind_fine xs k phase is

phase_fine : (happens : List Occurrence) (xs : List Taking) (k : ℕ) (phase : World → Reply) → ((n : ℕ) (what : Occurrence) → slice_get happens n ≡ Some what → is_occurrence what ≡ true)
    → slice_get (phases_after happens xs) k ≡ Some phase → PhaseFine phase
phase_fine [] xs k phase within is = behind_fine xs k phase is
phase_fine (what ∷ happens) xs zero phase within is = same_phase (happen what) phase (λ w. happen_fine what w (within 0 what refl)) is
phase_fine (what ∷ happens) xs (suc k) phase within is = phase_fine happens xs k phase (λ n x there. within (suc n) x there) is

-- ---- runs
own_fine : (k : ℕ) (hold : Option Hold) → Fine (own_row k hold)
own_fine k None = refl
own_fine k (Some hold) = refl

boot_fine : (owners : List (Option ℕ)) (n : ℕ) → Fine (own_rows owners n)
boot_fine owners zero = refl
boot_fine owners (suc k) = both (own_rows owners k) (own_row k (boot_slot owners k)) (boot_fine owners k) (own_fine k (boot_slot owners k))

module _ (system : System) (within : AreEventsWithinLimits system.schedule) where
  more : (w : World) (o : Option (World → Reply)) → ((phase : World → Reply) → o ≡ Some phase → PhaseFine phase) → Fine w.rows → Fine (once_more w o).rows
  more w None fine was = was
  more w (Some phase) fine was = both w.rows (phase w).rows was (fine phase refl w)

  next : (t k : ℕ) → Fine (moment system t k).rows → Fine (moment system t (suc k)).rows
  next t k was =
      let w = world_after system t in
      subst (λ (v : World). Fine v.rows) (sym (next_moment system t k))
      (more (moment system t k) (slice_get (next_phases system.schedule w) k) (λ phase is. phase_fine (happens_in system.schedule w) (takings_in system t) k phase (within w.book.time) is) was)

pub drops_are_within : DropsAreWithin
drops_are_within system t k within = each_moment (λ w. Fine w.rows) system (next system within) (boot_fine system.image.slots (length system.image.slots)) t k

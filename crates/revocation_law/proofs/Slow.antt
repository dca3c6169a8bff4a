-- Pressure asks for one page at a time, until two quanta later; so pages are taken slowly.
use Rattle.std.proofs.Common.{arith, ◌≡◌, ◌≢◌, ◌<◌, ◌≤◌, ◌+◌, ℕ, zero, suc, List, [], ◌∷◌, ◌++◌, take, Bool, true, false, Option, None, Some, refl, sym, ◌∙◌, ap, subst, inl, inr}
use Rattle.std.specs.Prelude.{◌==◌, ◌*◌, if◌then◌else◌, slice_get}
use Rattle.std.specs.Option.{option_map}
use Rattle.std.specs.List.{list_all}
use Rattle.std.proofs.lemmas.Bool.{and_parts, cases_eq}
use Rattle.aegis_limits.specs.declared.version.Version.{Version}
use Rattle.boot_image.specs.ImageValue.{ProgramValue}
use Rattle.external_event.specs.declared.event.Occurrence.{Occurrence}
use Rattle.external_event.specs.declared.event.Occurrence.TheVariants as outside
use Rattle.revocation_book.specs.declared.revocation.Pending.{Pending}
use Rattle.revocation_book.specs.declared.revocation.Taking.{Taking}
use Rattle.world_model.specs.Book.{is_idle_book}
use Rattle.world_model.specs.Deadlines.{copy_left, settles, takes}
use Rattle.world_model.specs.Event.{happen}
use Rattle.world_model.specs.Item.{Item, Asked, Taken}
use Rattle.world_model.specs.PageCalls.{lost_bindings}
use Rattle.world_model.specs.Tick.{phases_after, step, tick_phases, timer, turn}
use Rattle.world_model.specs.World.{World, after, in_turn}
use Rattle.run_model.specs.Boot.{record_items}
use Rattle.run_model.specs.Run.{System, TimeIsTick, feed, happens_in, items_in, next_phases, takings_next, world_after}
use Rattle.revocation_law.specs.Pressure.{IsUnasked, Precedes, PressureIsSlow}
use Rattle.revocation_law.specs.Request.{IsDueNow, TakenWasAsked, one_fewer, request_after, request_in}
use Rattle.revocation_law.proofs.Changes.{Change, Dealt, Ended, Given, Died, Lapse, Lapsed, Pressed, Stays, step_change, timer_lapses, turn_leaves}
use Rattle.revocation_law.proofs.Fixed.{Pace, happen_pace, pace, turn_pace}
use Rattle.revocation_law.proofs.Happening.{Happens, Named, Passed, event_happens}
use Rattle.revocation_law.proofs.Plain.{ArePlain, breaks_plain, copy_left_plain, is_plain, plain_both}
use Rattle.revocation_law.proofs.Requests.{AsksFor, request_both, request_from}
use Rattle.revocation_law.proofs.Unasked.{UnaskedIn, at_pace, sooner, unasked_now}

-- Items that ask for one page at most, until a tick or later.
abbrev IsSingleIf : ℕ → Item → Type 0
IsSingleIf until (Asked outstanding deadline) = (outstanding ≤ 1) × (until ≤ deadline)
IsSingleIf until item = Unit {0}

abbrev AreSingle : ℕ → List Item → Type 0
AreSingle until [] = Unit {0}
AreSingle until (item ∷ items) = IsSingleIf until item × AreSingle until items

single_both : (until : ℕ) (xs ys : List Item) → AreSingle until xs → AreSingle until ys → AreSingle until (xs ++ ys)
single_both until [] ys first second = second
single_both until (x ∷ xs) ys (here, rest) second = (here, single_both until xs ys rest second)

single_take : (until n : ℕ) (items : List Item) → AreSingle until items → AreSingle until (take n items)
single_take until zero items are = tt
single_take until (suc n) [] are = tt
single_take until (suc n) (item ∷ items) (here, rest) = (here, single_take until n items rest)

plain_item_single : (until : ℕ) (item : Item) → is_plain item ≡ true → IsSingleIf until item
plain_item_single until (Asked outstanding deadline) plain = cc
plain_item_single until item plain = tt

plain_single : (until : ℕ) (items : List Item) → ArePlain items → AreSingle until items
plain_single until [] plain = tt
plain_single until (item ∷ items) plain =
    let parts = and_parts (is_plain item) (list_all is_plain items) plain in
    (plain_item_single until item parts.0, plain_single until items parts.1)

asks_single : (until deadline : ℕ) (items : List Item) → until ≤ deadline → AsksFor 1 deadline items → AreSingle until items
asks_single until deadline items early asks =
    subst (AreSingle until) (sym asks.its)
    (single_both until asks.before (Asked 1 deadline ∷ asks.behind) (plain_single until asks.before asks.first) ((omega arith, early), plain_single until asks.behind asks.last))

-- What they make of a request that has a page at most, or that has none before a tick.
abbrev IsOne : Option Pending → Type 0
IsOne None = Unit {0}
IsOne (Some p) = p.outstanding ≤ 1

abbrev IsLate : ℕ → Option Pending → Type 0
IsLate least None = Unit {0}
IsLate least (Some p) = 0 < p.outstanding → least ≤ p.deadline

one_item : (until : ℕ) (last : Option Pending) (item : Item) → IsSingleIf until item → IsOne last → IsOne (request_after last item)
one_item until last (Asked outstanding deadline) single one = single.0
one_item until None (Taken page backup) single one = tt
one_item until (Some p) (Taken page backup) single one = omega (arith, one)
one_item until last item single one = one

one_all : (until : ℕ) (last : Option Pending) (items : List Item) → AreSingle until items → IsOne last → IsOne (request_from last items)
one_all until last [] are one = one
one_all until last (item ∷ items) (here, rest) one = one_all until (request_after last item) items rest (one_item until last item here one)

late_item : (least until : ℕ) (last : Option Pending) (item : Item) → least ≤ until → IsSingleIf until item → IsLate least last → IsLate least (request_after last item)
late_item least until last (Asked outstanding deadline) early single late = λ some. omega (arith, single.1, early)
late_item least until None (Taken page backup) early single late = tt
late_item least until (Some p) (Taken page backup) early single late = λ some. late (omega (arith, some))
late_item least until last item early single late = late

late_all : (least until : ℕ) (last : Option Pending) (items : List Item) → least ≤ until → AreSingle until items → IsLate least last → IsLate least (request_from last items)
late_all least until last [] early are late = late
late_all least until last (item ∷ items) early (here, rest) late =
    late_all least until (request_after last item) items early rest (late_item least until last item early here late)

-- after a taking it has none
taken_late : (least : ℕ) (last : Option Pending) → IsOne last → IsLate least (option_map one_fewer last)
taken_late least None one = tt
taken_late least (Some p) one = λ some. absurd (omega (arith, one, some))

taken_item : (least : ℕ) (last : Option Pending) (item : Item) (page : ℕ) (backup : Option ℕ) → item ≡ Taken page backup → IsOne last → IsLate least (request_after last item)
taken_item least last item page backup is one = subst (λ (i : Item). IsLate least (request_after last i)) (sym is) (taken_late least last one)

module _ (least until page : ℕ) (backup : Option ℕ) (early : least ≤ until) where
  late_end : (last : Option Pending) (items : List Item) (n : ℕ) → AreSingle until items → IsOne last → slice_get items n ≡ Some (Taken page backup) → IsLate least (request_from last items)
  late_end last [] n are one is = cc
  late_end last (item ∷ items) zero (here, rest) one is =
      let same : item ≡ Taken page backup = cc in
      late_all least until (request_after last item) items early rest (taken_item least last item page backup same one)
  late_end last (item ∷ items) (suc n) (here, rest) one is = late_end (request_after last item) items n rest (one_item until last item here one) is

  late_behind : (last : Option Pending) (items : List Item) (n k : ℕ) → AreSingle until items → IsOne last → slice_get items n ≡ Some (Taken page backup) → n < k
      → IsLate least (request_from last (take k items))
  late_behind last [] n k are one is below = cc
  late_behind last (item ∷ items) n zero are one is below = absurd (omega (arith, below))
  late_behind last (item ∷ items) zero (suc k) (here, rest) one is below =
      let same : item ≡ Taken page backup = cc in
      late_all least until (request_after last item) (take k items) early (single_take until k items rest) (taken_item least last item page backup same one)
  late_behind last (item ∷ items) (suc n) (suc k) (here, rest) one is below =
      late_behind (request_after last item) items n k rest (one_item until last item here one) is (omega (arith, below))

-- The items of a tick.
module _ (q tick e : ℕ) where
  abbrev until : ℕ
  until = tick + 2 * q

  change_single : (w : World) (becomes : Option Pending) (items : List Item) → pace w.book ≡ (tick, q) → Change w e becomes items → AreSingle until items
  change_single w becomes items is (Dealt (Stays leaves)) = plain_single until items leaves.plain
  change_single w becomes items is (Dealt (Given gives)) = plain_single until items gives.plain
  change_single w becomes items is (Dealt (Pressed presses)) =
      let time : w.book.time ≡ tick = ap (λ (p : Pace). p.0) is in
      let quantum : w.book.quantum ≡ q = ap (λ (p : Pace). p.1) is in
      asks_single until (w.book.time + 2 * w.book.quantum) items (omega (arith, time, quantum)) presses.told
  change_single w becomes items is (Ended ends) = plain_single until items ends.plain

  lapse_single : (w : World) (becomes : Option Pending) (items : List Item) → Lapse w e becomes items → AreSingle until items
  lapse_single w becomes items (Lapsed leaves) = plain_single until items leaves.plain
  lapse_single w becomes items (Died ends) = plain_single until items ends.plain

  event_single : (what : Occurrence) (w : World) (becomes : Option Pending) (items : List Item) → ((count grace : ℕ) → what ≢ outside.Revoke e count grace) → Happens what w e becomes items
      → AreSingle until items
  event_single what w becomes items unasked (Passed leaves) = plain_single until items leaves.plain
  event_single what w becomes items unasked (Named names) = absurd (unasked names.count names.grace names.named)

  taking_single : (w : World) (x : Taking) (mine : Bool) → AreSingle until (if mine then Taken x.page x.backup ∷ [] else copy_left w x x.backup e ++ lost_bindings w.book x.page e)
  taking_single w x true = (tt, tt)
  taking_single w x false =
      plain_single until (copy_left w x x.backup e ++ lost_bindings w.book x.page e)
      (plain_both (copy_left w x x.backup e) (lost_bindings w.book x.page e) (copy_left_plain w x x.backup e) (breaks_plain w.book x.page e))

  tick_single : (happens : List Occurrence) (xs : List Taking) (w : World) → pace w.book ≡ (tick, q) → UnaskedIn e happens → AreSingle until ((in_turn (phases_after happens xs) w).items e)
  tick_single [] [] w is unasked =
      let s = after w (settles w) in
      let t = after s (turn s) in
      let u = after t (step t) in
      single_both until ((turn s).items e) ((step t).items e ++ ((timer u).items e ++ [])) (plain_single until ((turn s).items e) (turn_leaves s e s.book.runner).plain)
      (single_both until ((step t).items e) ((timer u).items e ++ []) (change_single t ((step t).book.pending e) ((step t).items e) (turn_pace s ∙ is) (step_change t e t.book.runner refl))
      (single_both until ((timer u).items e) [] (lapse_single u ((timer u).book.pending e) ((timer u).items e) (timer_lapses u e)) tt))
  tick_single [] (x ∷ xs) w is unasked =
      let v = after w (takes x w) in
      single_both until ((takes x w).items e) ((in_turn (tick_phases xs) v).items e) (taking_single w x (e == x.env)) (tick_single [] xs v is unasked)
  tick_single (what ∷ happens) xs w is unasked =
      let r = happen what w in
      let v = after w r in
      single_both until (r.items e) ((in_turn (phases_after happens xs) v).items e)
      (event_single what w (r.book.pending e) (r.items e) (λ count grace same. unasked 0 count grace (ap Some same)) (event_happens what w e))
      (tick_single happens xs v (happen_pace what w ∙ is) (λ k count grace. unasked (suc k) count grace))

-- Whole runs.
module _ (times : TimeIsTick) (system : System) (e : ℕ) where
  abbrev quantum : ℕ
  quantum = system.image.quantum

  given_single : (t : ℕ) → IsUnasked system.schedule e t → (idle : Bool) → is_idle_book (world_after system t).book ≡ idle
      → (let w = world_after system t in AreSingle (t + 2 * quantum) (if idle then [] else (in_turn (next_phases system.schedule w) w).items e))
  given_single t unasked true idle = tt
  given_single t unasked false busy =
      let w = world_after system t in
      tick_single quantum t e (happens_in system.schedule w) (takings_next system.schedule w) w (at_pace times system t busy) (unasked_now times system e t busy unasked)

  items_single : (t : ℕ) → IsUnasked system.schedule e t → AreSingle (t + 2 * quantum) (items_in system t e)
  items_single t unasked = given_single t unasked (is_idle_book (world_after system t).book) refl

  boot_one : (v : Version) (o : Option ProgramValue) → IsOne (request_in (record_items v e o))
  boot_one v None = tt
  boot_one v (Some p) = tt

  one_run : (t : ℕ) → IsUnasked system.schedule e t → IsOne (request_in (feed system e t))
  one_run zero unasked = boot_one system.image.version (slice_get system.image.programs e)
  one_run (suc t) unasked =
      let before = sooner system.schedule e t (suc t) (omega arith) unasked in
      subst IsOne (sym (request_both None (feed system e t) (items_in system t e)))
      (one_all (t + 2 * quantum) (request_in (feed system e t)) (items_in system t e) (items_single t before) (one_run t before))

  module _ (t n page : ℕ) (backup : Option ℕ) (is : slice_get (items_in system t e) n ≡ Some (Taken page backup)) where
    abbrev least : ℕ
    least = t + 2 * quantum

    late_run : (u : ℕ) → t < u → IsUnasked system.schedule e u → IsLate least (request_in (feed system e u))
    late_run zero below unasked = absurd (omega (arith, below))
    late_run (suc u) below unasked =
        let before = sooner system.schedule e u (suc u) (omega arith) unasked in
        elim (cases_eq t u) [
          | inl same ↦
              let here : IsUnasked system.schedule e t = sooner system.schedule e t u (omega (arith, same)) before in
              subst (λ (k : ℕ). IsLate least (request_in (feed system e (suc k)))) same
              (subst (IsLate least) (sym (request_both None (feed system e t) (items_in system t e)))
              (late_end least least page backup (omega arith) (request_in (feed system e t)) (items_in system t e) n (items_single t here) (one_run t here) is))
          | inr other ↦
              subst (IsLate least) (sym (request_both None (feed system e u) (items_in system u e)))
              (late_all least (u + 2 * quantum) (request_in (feed system e u)) (items_in system u e) (omega (arith, other, below)) (items_single u before)
              (late_run u (omega (arith, other, below)) before))
        ]

    late_at : (u m : ℕ) → IsUnasked system.schedule e u → Precedes t n u m → IsLate least (request_in (feed system e u ++ take m (items_in system u e)))
    late_at u m unasked (inl below) =
        subst (IsLate least) (sym (request_both None (feed system e u) (take m (items_in system u e))))
        (late_all least (u + 2 * quantum) (request_in (feed system e u)) (take m (items_in system u e)) (omega (arith, below)) (single_take (u + 2 * quantum) m (items_in system u e) (items_single u unasked))
        (late_run u below unasked))
    late_at u m unasked (inr (same, below)) =
        let here : IsUnasked system.schedule e t = sooner system.schedule e t u (omega (arith, same)) unasked in
        subst (λ (k : ℕ). IsLate least (request_in (feed system e k ++ take m (items_in system k e)))) same
        (subst (IsLate least) (sym (request_both None (feed system e t) (take m (items_in system t e))))
        (late_behind least least page backup (omega arith) (request_in (feed system e t)) (items_in system t e) n m (items_single t here) (one_run t here) is below))

due_late : (least u : ℕ) (request : Option Pending) → IsDueNow u request → IsLate least request → least ≤ u
due_late least u request due late =
    let least_is : 0 < due.p.outstanding → least ≤ due.p.deadline = subst (IsLate least) due.its late in
    omega (arith, least_is due.some, due.now)

precedes_early : (t n u m : ℕ) → Precedes t n u m → t ≤ u
precedes_early t n u m (inl below) = omega (arith, below)
precedes_early t n u m (inr (same, below)) = omega (arith, same)

pub pressure_is_slow : TimeIsTick → TakenWasAsked → PressureIsSlow
pressure_is_slow times taken system t n u m e page other backup copy unasked first second precedes =
    elim (cases_eq system.image.quantum 0) [
      | inl none ↦ omega (arith, none, precedes_early t n u m precedes)
      | inr some ↦
          due_late (t + 2 * system.image.quantum) u (request_in (feed system e u ++ take m (items_in system u e)))
          (taken system u e m other copy (omega (arith, some)) second)
          (late_at times system e t n page backup first u m unasked precedes)
    ]

-- The law of quiet environments in one system: at the ends of slices, and at each tick.
use Rattle.std.proofs.Common.{◌≡◌, ◌<◌, ◌++◌, ℕ, zero, suc, List, Bool, true, false, refl, sym, ◌∙◌, ap, subst, append_assoc, arith}
use Rattle.std.proofs.lemmas.List.{append_cancel_left}
use Rattle.revocation_book.specs.Richest.{RichestHasMost}
use Rattle.revocation_book.specs.Takings.{TakingsAreTakable}
use Rattle.call_verdicts.specs.Granted.{AgainAsks, GrantedMay}
use Rattle.world_model.specs.Item.{Item}
use Rattle.run_model.specs.Boot.{boot_items}
use Rattle.run_model.specs.Run.{IsFoldOfFeed, System, TimeIsTick, feed, items_in, world_after}
use Rattle.quiet_law.specs.Alone.{Alone, quiet_course}
use Rattle.quiet_law.specs.Beginning.{IsBeginning}
use Rattle.quiet_law.specs.EachTick.{AreOwnItems, QuietHasSlices, QuietIsBeginning, QuietIsGivenOwn, QuietRests}
use Rattle.quiet_law.specs.Quiet.{IsQuiet, QuietHasOwnPagesAlone, QuietIsAlone, QuietOwesAlone}
use Rattle.run_model.specs.Slices.{IsEndOf, SlicesEndLast, SlicesEndStopped, runs_after, slices}
use Rattle.quiet_law.proofs.Beginnings.{begins_further, begins_more, begins_same}
use Rattle.quiet_law.proofs.OwnItems.{course_gives, next_begins, own_front, ticks_give}
use Rattle.quiet_law.proofs.Rest.{alone_in}
use Rattle.quiet_law.proofs.Slicing.{IsAlone, alone, at_slice_end, ready}

-- every feed begins with what is given at boot
pub boot_begins : (system : System) (e t : ℕ) → IsBeginning (boot_items system.image e) (feed system e t)
boot_begins system e zero = begins_same (boot_items system.image e) (feed system e 0) refl
boot_begins system e (suc t) = begins_more (boot_items system.image e) (feed system e t) (boot_begins system e t) (items_in system t e)

module _ (granted : GrantedMay) (again : AgainAsks) (rich : RichestHasMost) (takable : TakingsAreTakable) (time : TimeIsTick) (fold : IsFoldOfFeed) where
  pub quiet_has_own_pages_alone : QuietHasOwnPagesAlone
  quiet_has_own_pages_alone system e t some quiet =
      let still = (ready granted again rich takable time system e t some quiet t (omega arith)).still in
      record { accepts_nobody = still.nothing.deaf; owns_none = still.clear.owned; sees_none = still.nothing.sees }

  -- at each tick
  module _ (system : System) (e t : ℕ) (some : 0 < system.image.quantum) (quiet : IsQuiet system e t) where
    abbrev course : ℕ → Alone
    course n = quiet_course e (boot_items system.image e) system.image.quantum n

    abbrev n : ℕ
    n = slices system e t

    is_alone : IsAlone granted again rich takable time system e t some quiet t
    is_alone = alone granted again rich takable time system e t some quiet fold t (omega arith)

    rests : runs_after system e t ≡ false → feed system e t ≡ (course n).items
    rests off = ap (λ (a : Alone). a.items) (is_alone.waits off)

    -- what is left of a slice is only added
    runs_begins : runs_after system e t ≡ true → IsBeginning (feed system e t) (course (suc n)).items
    runs_begins on =
        let q = system.image.quantum in
        let here = alone_in e (world_after system t) (feed system e t) in
        let its = ticks_give q _ here in
        record { rest = its.more; is = its.is ∙ ap (λ (a : Alone). a.items) (is_alone.runs on) }

    waits_begins : runs_after system e t ≡ false → IsBeginning (feed system e t) (course (suc n)).items
    waits_begins off =
        begins_further (feed system e t) (course n).items (course (suc n)).items (begins_same (feed system e t) (course n).items (rests off))
        (next_begins e (boot_items system.image e) system.image.quantum n)

    by_runs : (runs : Bool) → runs_after system e t ≡ runs → IsBeginning (feed system e t) (course (suc n)).items
    by_runs true on = runs_begins on
    by_runs false off = waits_begins off

    begins : IsBeginning (feed system e t) (course (suc n)).items
    begins = by_runs (runs_after system e t) refl

  pub quiet_is_beginning : QuietIsBeginning
  quiet_is_beginning system e t some quiet = begins system e t some quiet

  pub quiet_has_slices : QuietHasSlices
  quiet_has_slices system e t some quiet = (is_alone system e t some quiet).since

  pub quiet_rests : QuietRests
  quiet_rests system e t some quiet off = rests system e t some quiet off

  pub quiet_is_given_own : QuietIsGivenOwn
  quiet_is_given_own system e t some quiet =
      let boot = boot_items system.image e in
      let first = boot_begins system e t in
      let whole = begins system e t some quiet in
      let its = course_gives e boot system.image.quantum (suc (slices system e t)) in
      let more : first.rest ++ whole.rest ≡ its.more =
      append_cancel_left boot (first.rest ++ whole.rest) its.more
      (sym (append_assoc boot first.rest whole.rest) ∙ ap (λ (xs : List Item). xs ++ whole.rest) first.is ∙ whole.is ∙ sym its.is) in
      record { more = first.rest; is = first.is; own = own_front first.rest whole.rest (subst AreOwnItems (sym more) its.own) }

  -- at the ends of slices
  module _ (stopped : SlicesEndStopped) (last : SlicesEndLast) where
    given_alone : (system : System) (e n t : ℕ) → 0 < system.image.quantum → IsQuiet system e t → IsEndOf system e n t
        → alone_in e (world_after system t) (feed system e t) ≡ quiet_course e (boot_items system.image e) system.image.quantum n
    given_alone system e n t some quiet ends = at_slice_end granted again rich takable time system e t some quiet fold stopped last n t (omega arith) ends

    pub quiet_is_alone : QuietIsAlone
    quiet_is_alone system e n t some quiet ends = ap (λ (a : Alone). a.items) (given_alone system e n t some quiet ends)

    pub quiet_owes_alone : QuietOwesAlone
    quiet_owes_alone system e n t some quiet ends = ap (λ (a : Alone). a.excess) (given_alone system e n t some quiet ends)

-- The law of quiet environments in two systems.
use Rattle.std.proofs.Common.{◌≡◌, ◌<◌, ◌+◌, ◌++◌, ℕ, suc, List, inl, inr, sym, ◌∙◌, ap, subst, append_assoc, arith}
use Rattle.std.specs.Prelude.{◌⊎◌}
use Rattle.std.proofs.lemmas.List.{append_cancel_left}
use Rattle.world_model.specs.Item.{Item, absorb_all}
use Rattle.world_model.specs.Solo.{Solo, absent}
use Rattle.run_model.specs.Boot.{boot_items}
use Rattle.run_model.specs.Run.{IsFoldOfFeed, System, feed, world_after}
use Rattle.run_model.specs.Slices.{IsEndOf, slices}
use Rattle.quiet_law.specs.Alone.{Alone, quiet_course}
use Rattle.quiet_law.specs.Beginning.{IsBeginning, NeverDiffer}
use Rattle.quiet_law.specs.EachTick.{AreOwnItems, IsOwnAfter, QuietIsBeginning, QuietIsGivenOwn, QuietNeverDiffers}
use Rattle.quiet_law.specs.Quiet.{IsQuietInBoth, QuietIsAlone, QuietIsSame, QuietOwesAlone, QuietOwesSame}
use Rattle.quiet_law.specs.Writing.{QuietWritesAlike, WroteOn}
use Rattle.quiet_law.proofs.Beginnings.{begins_further, never_differ}
use Rattle.quiet_law.proofs.OwnItems.{course_begins, own_back}
use Rattle.quiet_law.proofs.Written.{absorb_both, items_write}

module _ (left right : System) (e t u : ℕ) (both : IsQuietInBoth left right e t u) where
  right_some : 0 < right.image.quantum
  right_some = subst (λ q. 0 < q) both.quantum_same both.quantum_some

  abbrev course_of : System → ℕ → Alone
  course_of system n = quiet_course e (boot_items system.image e) system.image.quantum n

  same_course : (n : ℕ) → course_of left n ≡ course_of right n
  same_course n =
      ap (λ boot. quiet_course e boot left.image.quantum n) both.record_same
      ∙ ap (λ q. quiet_course e (boot_items right.image e) q n) both.quantum_same

  -- at the end of a slice
  module _ (n : ℕ) (left_end : IsEndOf left e n t) (right_end : IsEndOf right e n u) where
    same_feed : QuietIsAlone → feed left e t ≡ feed right e u
    same_feed alone =
        alone left e n t both.quantum_some both.left_quiet left_end
        ∙ ap (λ (a : Alone). a.items) (same_course n)
        ∙ sym (alone right e n u right_some both.right_quiet right_end)

    same_excess : QuietOwesAlone → (world_after left t).book.excess e ≡ (world_after right u).book.excess e
    same_excess owes =
        owes left e n t both.quantum_some both.left_quiet left_end
        ∙ ap (λ (a : Alone). a.excess) (same_course n)
        ∙ sym (owes right e n u right_some both.right_quiet right_end)

  -- At each tick both feeds begin what it makes alone of as many slices as both begin.
  module _ (begin : QuietIsBeginning) where
    abbrev most : ℕ
    most = suc (slices left e t) + suc (slices right e u)

    left_begins : IsBeginning (feed left e t) (course_of left most).items
    left_begins =
        begins_further (feed left e t) (course_of left (suc (slices left e t))).items (course_of left most).items
        (begin left e t both.quantum_some both.left_quiet) (course_begins e (boot_items left.image e) left.image.quantum (suc (slices left e t)) most (omega arith))

    right_begins : IsBeginning (feed right e u) (course_of right most).items
    right_begins =
        begins_further (feed right e u) (course_of right (suc (slices right e u))).items (course_of right most).items
        (begin right e u right_some both.right_quiet) (course_begins e (boot_items right.image e) right.image.quantum (suc (slices right e u)) most (omega arith))

    differ_never : NeverDiffer (feed left e t) (feed right e u)
    differ_never =
        never_differ (feed left e t) (feed right e u) left_begins.rest right_begins.rest
        (left_begins.is ∙ ap (λ (a : Alone). a.items) (same_course most) ∙ sym right_begins.is)

-- One feed that begins another adds own items alone.
rest_is_own : (boot xs ys : List Item) → IsOwnAfter boot xs → IsOwnAfter boot ys → (b : IsBeginning xs ys) → AreOwnItems b.rest
rest_is_own boot xs ys first next b =
    let more : first.more ++ b.rest ≡ next.more =
    append_cancel_left boot (first.more ++ b.rest) next.more
    (sym (append_assoc boot first.more b.rest) ∙ ap (λ (zs : List Item). zs ++ b.rest) first.is ∙ b.is ∙ sym next.is) in
    own_back first.more b.rest (subst AreOwnItems (sym more) next.own)

writes_on : (e : ℕ) (boot xs ys : List Item) (s t : Solo) → s ≡ absorb_all (absent e) xs → t ≡ absorb_all (absent e) ys → IsOwnAfter boot xs → IsOwnAfter boot ys → IsBeginning xs ys → WroteOn s t
writes_on e boot xs ys s t is_s is_t first next b =
    let is : absorb_all s b.rest ≡ t =
    ap (λ (r : Solo). absorb_all r b.rest) is_s ∙ sym (absorb_both xs b.rest (absent e)) ∙ ap (absorb_all (absent e)) b.is ∙ sym is_t in
    subst (WroteOn s) is (items_write b.rest s (rest_is_own boot xs ys first next b))

pub quiet_is_same : QuietIsAlone → QuietIsSame
quiet_is_same alone left right e n t u both left_end right_end = same_feed left right e t u both n left_end right_end alone

pub quiet_owes_same : QuietOwesAlone → QuietOwesSame
quiet_owes_same owes left right e n t u both left_end right_end = same_excess left right e t u both n left_end right_end owes

pub quiet_never_differs : QuietIsBeginning → QuietNeverDiffers
quiet_never_differs begin left right e t u both = differ_never left right e t u both begin

pub quiet_writes_alike : QuietNeverDiffers → QuietIsGivenOwn → IsFoldOfFeed → QuietWritesAlike
quiet_writes_alike never own fold left right e t u both = by_side (never left right e t u both)
  where
    one : Solo
    one = (world_after left t).solos e

    other : Solo
    other = (world_after right u).solos e

    left_own : IsOwnAfter (boot_items left.image e) (feed left e t)
    left_own = own left e t both.quantum_some both.left_quiet

    right_own : IsOwnAfter (boot_items left.image e) (feed right e u)
    right_own = subst (λ boot. IsOwnAfter boot (feed right e u)) (sym both.record_same) (own right e u (right_some left right e t u both) both.right_quiet)

    by_side : NeverDiffer (feed left e t) (feed right e u) → WroteOn one other ⊎ WroteOn other one
    by_side (inl b) = inl (writes_on e (boot_items left.image e) (feed left e t) (feed right e u) one other (fold left t e) (fold right u e) left_own right_own b)
    by_side (inr b) = inr (writes_on e (boot_items left.image e) (feed right e u) (feed left e t) other one (fold right u e) (fold left t e) right_own left_own b)

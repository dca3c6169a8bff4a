-- What comes next in a run, and what its feed has there at the end of a slice.
use Rattle.std.proofs.Common.{◌≡◌, ◌<◌, ◌≤◌, ◌+◌, ◌-◌, ◌∙◌, ℕ, List, [], ◌∷◌, false, Option, Some, None, ap, arith, length, refl, subst, sym, inl, inr}
use Rattle.std.specs.Prelude.{slice_get}
use Rattle.std.proofs.lemmas.Bool.{cases_lt}
use Rattle.std.proofs.lemmas.List.{length-append, length-drop}
use Rattle.aegis_limits.specs.Limits.{most_run_ticks}
use Rattle.world_model.specs.Item.{Item}
use Rattle.run_model.specs.Run.{System, feed}
use Rattle.run_model.specs.Slices.{IsEndOf}
use Rattle.feed_log.specs.Views.{item_seen}
use Rattle.feed_log.specs.Progress.{Progress, ended, told, unread}
use Rattle.twin_run.specs.declared.difference.Difference.{Difference}
use Rattle.twin_run.specs.Answer.{text_or_none}
use Rattle.twin_run.specs.Course.{AreEnds, AreNextSame, AreSameBelow, CameApart, CameToItem, HasNext, IsDifference, IsDone, IsUnderWay, Reads, difference_at, difference_of, front, items_within, settled}
use Rattle.twin_run.specs.ItemText.{is_alike}
use Rattle.twin_run.specs.Law.{IsSameWhereEqual}
use Rattle.twin_run.proofs.Differences.{IsApart, difference_nowhere, difference_there}
use Rattle.twin_run.proofs.Ends.{is_end}
use Rattle.twin_run.proofs.Feeds.{grows}
use Rattle.twin_run.proofs.Places.{get_drop, get_first, same_lists}
use Rattle.twin_run.proofs.Runs.{over_still}

-- a run under way to the end of a slice isn't behind it
until_end : (n : ℕ) (p : Progress) (t : ℕ) → IsUnderWay n p → IsEndOf p.system p.env n t → p.ticks ≤ t
until_end n p t on is = elim (cases_lt t p.ticks) as (λ w. p.ticks ≤ t) [
  | inl before ↦ let fewer = on.fewer t before in absurd (omega (arith, fewer, is.reached))
  | inr later ↦ later
]

place_at : (p : Progress) (t j : ℕ) → p.ticks ≤ t → j < length (unread p) → slice_get (feed p.system p.env t) (p.read + j) ≡ slice_get (unread p) j
place_at p t j later less =
    let more = grows p.system p.env p.ticks t later in
    let all = told p in
    let left : length (unread p) ≡ length all - p.read = length-drop p.read all in
    ap (λ (xs : List Item). slice_get xs (p.read + j)) more.1
    ∙ get_first all more.0 (p.read + j) (omega (arith, left, less)) ∙ sym (get_drop p.read j all)

-- what is left stands in the feed at the end, behind what was read
pub places : (n : ℕ) (start : Progress) (index : ℕ) (p : Progress) → Reads n start index p → (t : ℕ) → IsEndOf start.system start.env n t
    → (j : ℕ) → j < length (unread p) → slice_get (feed start.system start.env t) (index + j) ≡ slice_get (unread p) j
places n start index p reads =
    subst (λ (s : System). (t : ℕ) → IsEndOf s start.env n t → (j : ℕ) → j < length (unread p) → slice_get (feed s start.env t) (index + j) ≡ slice_get (unread p) j) reads.system
    (subst (λ (e : ℕ). (t : ℕ) → IsEndOf p.system e n t → (j : ℕ) → j < length (unread p) → slice_get (feed p.system e t) (index + j) ≡ slice_get (unread p) j) reads.env
    (subst (λ (r : ℕ). (t : ℕ) → IsEndOf p.system p.env n t → (j : ℕ) → j < length (unread p) → slice_get (feed p.system p.env t) (r + j) ≡ slice_get (unread p) j) reads.read
    (λ t is j less. place_at p t j (until_end n p t reads.under_way is) less)))

-- a run that has nothing more to come is at the end
at_end : (n : ℕ) (p : Progress) (t : ℕ) → IsUnderWay n p → IsDone n p → IsEndOf p.system p.env n t → t ≤ most_run_ticks → t ≡ p.ticks
at_end n p t on done is within =
    let later = until_end n p t on is in
    let all : ended p ≡ n = by_done done later in
    elim (cases_lt p.ticks t) as (λ w. t ≡ p.ticks) [
      | inl before ↦ let fewer = is.fewest p.ticks before in absurd (omega (arith, fewer, all))
      | inr here ↦ omega (arith, later, here)
    ]
  where
    by_done : IsDone n p → p.ticks ≤ t → ended p ≡ n
    by_done (inl all) later = all
    by_done (inr over) later = sym (over_still most_run_ticks p over t later within) ∙ is.reached

front_at : (n : ℕ) (p : Progress) (t : ℕ) → IsUnderWay n p → HasNext n p → IsEndOf p.system p.env n t → t ≤ most_run_ticks → slice_get (feed p.system p.env t) p.read ≡ front p
front_at n p t on next is within = by_left (unread p) refl next
  where
    same_place : p.read + 0 ≡ p.read
    same_place = omega arith

    by_left : (xs : List Item) → unread p ≡ xs → HasNext n p → slice_get (feed p.system p.env t) p.read ≡ front p
    by_left (x ∷ xs) left next =
        let some : 0 < length (unread p) = omega (arith, ap length left) in
        ap (slice_get (feed p.system p.env t)) (sym same_place) ∙ place_at p t 0 (until_end n p t on is) some
    by_left [] left (inl some) = absurd (some left)
    by_left [] left (inr done) =
        ap (λ (u : ℕ). slice_get (feed p.system p.env u) p.read) (at_end n p t on done is within)
        ∙ ap (slice_get (told p)) (sym same_place) ∙ sym (get_drop p.read 0 (told p))

pub fronts : (n : ℕ) (start : Progress) (index : ℕ) (p : Progress) → Reads n start index p → HasNext n p → (t : ℕ) → IsEndOf start.system start.env n t → t ≤ most_run_ticks
    → slice_get (feed start.system start.env t) index ≡ front p
fronts n start index p reads next =
    subst (λ (s : System). (t : ℕ) → IsEndOf s start.env n t → t ≤ most_run_ticks → slice_get (feed s start.env t) index ≡ front p) reads.system
    (subst (λ (e : ℕ). (t : ℕ) → IsEndOf p.system e n t → t ≤ most_run_ticks → slice_get (feed p.system e t) index ≡ front p) reads.env
    (subst (λ (r : ℕ). (t : ℕ) → IsEndOf p.system p.env n t → t ≤ most_run_ticks → slice_get (feed p.system p.env t) r ≡ front p) reads.read
    (λ t is within. front_at n p t reads.under_way next is within)))

-- items that were read of both and are the same
pub same_more : (n : ℕ) (left right p q : Progress) (index count : ℕ) → Reads n left index p → Reads n right index q → right.env ≡ left.env → AreNextSame p q count
    → AreSameBelow left.system right.system left.env n index → AreSameBelow left.system right.system left.env n (index + count)
same_more n left right p q index count first next envs same below t u ends i less = elim (cases_lt i index) as (λ w. slice_get (feed left.system left.env t) i ≡ slice_get (feed right.system left.env u) i) [
  | inl before ↦ below t u ends i before
  | inr past ↦
      let j = i - index in
      let place : index + j ≡ i = omega (arith, past) in
      let few : j < count = omega (arith, place, less) in
      let left_is = places n left index p first t ends.left_end j (omega (arith, few, same.left_has)) in
      let right_is = places n right index q next u (subst (λ (e : ℕ). IsEndOf right.system e n u) (sym envs) ends.right_end) j (omega (arith, few, same.right_has)) in
      ap (slice_get (feed left.system left.env t)) (sym place) ∙ left_is ∙ same.same j few ∙ sym right_is
      ∙ ap (λ (e : ℕ). slice_get (feed right.system e u) (index + j)) envs ∙ ap (slice_get (feed right.system left.env u)) place
]

-- a run that came to an item reads as before
pub reads_on : (n : ℕ) (start : Progress) (index : ℕ) (p q : Progress) → Reads n start index p → CameToItem n p q → Reads n start index q
reads_on n start index p q reads came = record {
  system = ap (λ (r : Progress). r.system) came.same ∙ reads.system;
  env = ap (λ (r : Progress). r.env) came.same ∙ reads.env;
  read = ap (λ (r : Progress). r.read) came.same ∙ reads.read;
  under_way = came.under_way;
}

-- and so it does where it skips some
pub reads_more : (n : ℕ) (start : Progress) (index count : ℕ) (p q : Progress) → Reads n start index p → q ≡ record p { read = p.read + count } → Reads n start (index + count) q
reads_more n start index count p q reads skips = record {
  system = ap (λ (r : Progress). r.system) skips ∙ reads.system;
  env = ap (λ (r : Progress). r.env) skips ∙ reads.env;
  read = ap (λ (r : Progress). r.read) skips ∙ ap (λ (m : ℕ). m + count) reads.read;
  under_way = subst (IsUnderWay n) (sym skips) (record { within = reads.under_way.within; fewer = reads.under_way.fewer });
}

-- as many items as are left are read at most
within_all : (s : System) (e t most : ℕ) → t ≤ most → length (feed s e t) ≤ items_within s e most
unfolding items_within
within_all s e t most within =
    let more = grows s e t most within in
    let all : length (feed s e most) ≡ length (feed s e t) + length more.0 = ap length more.1 ∙ length-append (feed s e t) more.0 in
    omega (arith, all)

pub few_left : (n : ℕ) (start : Progress) (index count most : ℕ) (p : Progress) → Reads n start index p → p.ticks ≤ most → count ≤ length (unread p) → 0 < count
    → index + count ≤ items_within start.system start.env most
few_left n start index count most p reads within has some =
    let left : length (unread p) ≡ length (told p) - p.read = length-drop p.read (told p) in
    let few = within_all p.system p.env p.ticks most within in
    let same : items_within p.system p.env most ≡ items_within start.system start.env most =
    ap (λ (s : System). items_within s p.env most) reads.system ∙ ap (λ (e : ℕ). items_within start.system e most) reads.env in
    omega (arith, left, few, same, reads.read, has, some)

shown_at : (xs ys : List Item) (k : ℕ) (o p : Option Item) → ((i : ℕ) → i < k → slice_get xs i ≡ slice_get ys i) → slice_get xs k ≡ o → slice_get ys k ≡ p → IsApart o p
    → difference_of xs ys ≡ Some (record { index = k; left = text_or_none o; right = text_or_none p })
shown_at xs ys k o p below left right apart =
    difference_there xs ys k below (subst (λ (x : Option Item). IsApart x (slice_get ys k)) (sym left) (subst (IsApart o) (sym right) apart))
    ∙ ap (λ (x : Option Item). Some (record { index = k; left = text_or_none x; right = text_or_none (slice_get ys k) })) left
    ∙ ap (λ (y : Option Item). Some (record { index = k; left = text_or_none o; right = text_or_none y })) right

-- what is said of the items at which two runs came apart
decided : (xs ys : List Item) (k : ℕ) (o p : Option Item) → ((i : ℕ) → i < k → slice_get xs i ≡ slice_get ys i) → slice_get xs k ≡ o → slice_get ys k ≡ p
    → ((x y : Item) → o ≡ Some x → p ≡ Some y → is_alike (item_seen x) (item_seen y) ≡ false)
    → (difference_at k o p ≡ difference_of xs ys) × (difference_at k o p ≡ None → xs ≡ ys)
decided xs ys k None None below left right apart =
    let same = same_lists xs ys k below left right in (sym (difference_nowhere xs ys same), λ none. same)
decided xs ys k None (Some y) below left right apart = (sym (shown_at xs ys k None (Some y) below left right tt), λ none. absurd (cc))
decided xs ys k (Some x) None below left right apart = (sym (shown_at xs ys k (Some x) None below left right tt), λ none. absurd (cc))
decided xs ys k (Some x) (Some y) below left right apart = (sym (shown_at xs ys k (Some x) (Some y) below left right (apart x y refl refl)), λ none. absurd (cc))

pub is_difference : (n : ℕ) (left right p q : Progress) (index : ℕ) → CameApart n left right p q index → right.env ≡ left.env
    → IsDifference left.system right.system left.env n (difference_at index (front p) (front q))
is_difference n left right p q index apart envs = record { first = λ t u ends. (both t u ends).0; none = λ t u ends. (both t u ends).1 }
  where
    both : (t u : ℕ) → AreEnds left.system right.system left.env n t u
        → (difference_at index (front p) (front q) ≡ difference_of (feed left.system left.env t) (feed right.system left.env u))
        × (difference_at index (front p) (front q) ≡ None → feed left.system left.env t ≡ feed right.system left.env u)
    both t u ends =
        decided (feed left.system left.env t) (feed right.system left.env u) index (front p) (front q) (apart.same t u ends)
        (fronts n left index p apart.left_reads apart.left_next t ends.left_end ends.left_within)
        (ap (λ (e : ℕ). slice_get (feed right.system e u) index) (sym envs)
        ∙ fronts n right index q apart.right_reads apart.right_next u (subst (λ (e : ℕ). IsEndOf right.system e n u) (sym envs) ends.right_end) ends.right_within)
        apart.apart

-- The answer is Same exactly where there is no difference.
pub same_where_equal : (ls rs : System) (e n : ℕ) (lines : List ℕ) (d : Option Difference) → IsDifference ls rs e n d → IsSameWhereEqual ls rs e n (settled lines d)
same_where_equal ls rs e n lines None is t u left right =
    let first = is_end ls e n most_run_ticks t left in
    let second = is_end rs e n most_run_ticks u right in
    let ends : AreEnds ls rs e n t u = record { left_end = first.0; left_within = first.1; right_end = second.0; right_within = second.1 } in
    (λ same. is.none t u ends refl, λ equal. refl)
same_where_equal ls rs e n lines (Some x) is t u left right =
    let first = is_end ls e n most_run_ticks t left in
    let second = is_end rs e n most_run_ticks u right in
    let ends : AreEnds ls rs e n t u = record { left_end = first.0; left_within = first.1; right_end = second.0; right_within = second.1 } in (
      λ same. absurd (cc),
      λ equal. let none : Some x ≡ None = is.first t u ends ∙ difference_nowhere (feed ls e t) (feed rs e u) equal in absurd (cc),
    )

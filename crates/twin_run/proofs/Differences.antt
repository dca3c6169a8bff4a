-- The first difference of two feeds.
use Rattle.std.proofs.Common.{◌≡◌, ◌<◌, ◌∙◌, ℕ, zero, suc, List, [], ◌∷◌, Bool, true, false, Option, Some, None, ap, arith, refl, subst, sym}
use Rattle.std.specs.Prelude.{if◌then◌else◌, option_map, slice_get}
use Rattle.world_model.specs.Item.{Item}
use Rattle.feed_log.specs.Views.{item_seen}
use Rattle.twin_run.specs.Answer.{first_difference, text_or_none}
use Rattle.twin_run.specs.Course.{difference_of}
use Rattle.twin_run.specs.ItemText.{is_alike}
use Rattle.twin_run.proofs.Alike.{alike_self}

-- what stands at a place of both: nothing at one of them, or items that aren't alike
abbrev pub IsApart : Option Item → Option Item → Type 0
IsApart None None = ⊥
IsApart None (Some y) = Unit {0}
IsApart (Some x) None = Unit {0}
IsApart (Some x) (Some y) = is_alike (item_seen x) (item_seen y) ≡ false

pub same_differ_nowhere : (xs : List Item) → first_difference xs xs ≡ None
same_differ_nowhere [] = refl
same_differ_nowhere (x ∷ xs) =
    ap (λ (b : Bool). if b then option_map suc (first_difference xs xs) else Some 0) (alike_self (item_seen x))
    ∙ ap (option_map suc) (same_differ_nowhere xs)

-- they differ first behind what is the same
pub differ_first : (xs ys : List Item) (k : ℕ) → ((i : ℕ) → i < k → slice_get xs i ≡ slice_get ys i) → IsApart (slice_get xs k) (slice_get ys k) → first_difference xs ys ≡ Some k
differ_first [] [] k below apart = absurd apart
differ_first [] (y ∷ ys) zero below apart = refl
differ_first [] (y ∷ ys) (suc k) below apart = let first : None ≡ Some y = below 0 (omega arith) in absurd (cc)
differ_first (x ∷ xs) [] zero below apart = refl
differ_first (x ∷ xs) [] (suc k) below apart = let first : Some x ≡ None = below 0 (omega arith) in absurd (cc)
differ_first (x ∷ xs) (y ∷ ys) zero below apart = ap (λ (b : Bool). if b then option_map suc (first_difference xs ys) else Some 0) apart
differ_first (x ∷ xs) (y ∷ ys) (suc k) below apart =
    let first : Some x ≡ Some y = below 0 (omega arith) in
    let head : x ≡ y = cc in
    let alike : is_alike (item_seen x) (item_seen y) ≡ true = subst (λ (z : Item). is_alike (item_seen x) (item_seen z) ≡ true) head (alike_self (item_seen x)) in
    ap (λ (b : Bool). if b then option_map suc (first_difference xs ys) else Some 0) alike
    ∙ ap (option_map suc) (differ_first xs ys k (λ i less. below (suc i) (omega (arith, less))) apart)

-- so what is shown of the first difference is what stands there
pub difference_there : (xs ys : List Item) (k : ℕ) → ((i : ℕ) → i < k → slice_get xs i ≡ slice_get ys i) → IsApart (slice_get xs k) (slice_get ys k)
    → difference_of xs ys ≡ Some (record { index = k; left = text_or_none (slice_get xs k); right = text_or_none (slice_get ys k) })
difference_there xs ys k below apart =
    ap (option_map (λ i. record { index = i; left = text_or_none (slice_get xs i); right = text_or_none (slice_get ys i) })) (differ_first xs ys k below apart)

pub difference_nowhere : (xs ys : List Item) → xs ≡ ys → difference_of xs ys ≡ None
difference_nowhere xs ys same =
    ap (option_map (λ i. record { index = i; left = text_or_none (slice_get xs i); right = text_or_none (slice_get ys i) }))
    (ap (first_difference xs) (sym same) ∙ same_differ_nowhere xs)

-- The items that a phase gives to an environment rise by a rank, so each is given once.
use Rattle.std.proofs.Common.{◌≡◌, ◌≤◌, ℕ, zero, suc, List, [], ◌∷◌, ◌++◌, Bool, true, false, Some, refl, ap, subst, arith}
use Rattle.std.specs.Prelude.{◌==◌, if◌then◌else◌, slice_get}
use Rattle.world_model.specs.Item.{Item, Step, Killed, Answer, Left, Lost}
use Rattle.world_model.specs.Table.{set_at}

-- In one phase a step is given before an answer, and this before all else; what is left before what is lost, and pages
-- are lost by rising number.
abbrev pub rank : Item → ℕ
rank Step = 0
rank Killed = 0
rank (Answer verdict) = 1
rank (Left page offset bytes) = 1
rank (Lost page) = suc (suc page)
rank item = 2

-- ranks rise from one number to below another
abbrev pub Rises : ℕ → ℕ → List Item → Type 0
Rises from until [] = from ≤ until
Rises from until (x ∷ xs) = (from ≤ rank x) × Rises (suc (rank x)) until xs

pub rises_from : (a b c : ℕ) (xs : List Item) → a ≤ b → Rises b c xs → Rises a c xs
rises_from a b c [] less rises = omega (arith, less, rises)
rises_from a b c (x ∷ xs) less (first, rest) = (omega (arith, less, first), rest)

pub rises_both : (a b c : ℕ) (xs ys : List Item) → Rises a b xs → Rises b c ys → Rises a c (xs ++ ys)
rises_both a b c [] ys first next = rises_from a b c ys first next
rises_both a b c (x ∷ xs) ys (first, rest) next = (first, rises_both (suc (rank x)) b c xs ys rest next)

above : (from until : ℕ) (xs : List Item) (n : ℕ) (x : Item) → Rises from until xs → slice_get xs n ≡ Some x → from ≤ rank x
above from until [] n x rises is = cc
above from until (y ∷ xs) zero x (first, rest) is = let same : y ≡ x = cc in subst (λ (item : Item). from ≤ rank item) same first
above from until (y ∷ xs) (suc n) x (first, rest) is = omega (arith, first, above (suc (rank y)) until xs n x rest is)

-- the first item doesn't stand among the later ones
not_later : (until : ℕ) (y : Item) (xs : List Item) (n : ℕ) (x : Item) → Rises (suc (rank y)) until xs → Some y ≡ Some x → slice_get xs n ≡ Some x → ⊥
not_later until y xs n x rises first later =
    let same : y ≡ x = cc in
    let more = above (suc (rank y)) until xs n x rises later in
    let equal : rank y ≡ rank x = ap rank same in
    absurd (omega (arith, more, equal))

pub at_one_place : (from until : ℕ) (xs : List Item) (m n : ℕ) (x : Item) → Rises from until xs → slice_get xs m ≡ Some x → slice_get xs n ≡ Some x → m ≡ n
at_one_place from until [] m n x rises one other = cc
at_one_place from until (y ∷ xs) zero zero x rises one other = refl
at_one_place from until (y ∷ xs) zero (suc n) x (first, rest) one other = absurd (not_later until y xs n x rest one other)
at_one_place from until (y ∷ xs) (suc m) zero x (first, rest) one other = absurd (not_later until y xs m x rest other one)
at_one_place from until (y ∷ xs) (suc m) (suc n) x (first, rest) one other = ap suc (at_one_place (suc (rank y)) until xs m n x rest one other)

-- ranks that rise from a number on
abbrev pub RisesFrom : ℕ → List Item → Type 0
RisesFrom from xs = (until : ℕ) × Rises from until xs

pub none_rises : (from : ℕ) → RisesFrom from []
none_rises from = (from, omega arith)

pub one_rises : (from : ℕ) (x : Item) → from ≤ rank x → RisesFrom from (x ∷ [])
one_rises from x least = (suc (rank x), (least, omega arith))

pub then_rises : (a b : ℕ) (xs ys : List Item) → Rises a b xs → RisesFrom b ys → RisesFrom a (xs ++ ys)
then_rises a b xs ys first (c, next) = (c, rises_both a b c xs ys first next)

pub rises_nil : (a : ℕ) (xs : List Item) → RisesFrom a xs → RisesFrom a (xs ++ [])
rises_nil a xs (b, rises) = (b, rises_both a b b xs [] rises (omega arith))

-- what holds of both holds of the one that a test chooses
pub either : {A : Type 0} (P : A → Type 0) (test : Bool) (x y : A) → P x → P y → P (if test then x else y)
either P true x y first next = first
either P false x y first next = next

pub rises_at : (from e i : ℕ) (xs : List Item) (f : ℕ → List Item) → RisesFrom from xs → RisesFrom from (f i) → RisesFrom from (set_at e xs f i)
rises_at from e i xs f own others = either (RisesFrom from) (i == e) xs (f i) own others

pub rises_within : (a b e i : ℕ) (x : Item) → a ≤ rank x → suc (rank x) ≤ b → Rises a b (if i == e then x ∷ [] else [])
rises_within a b e i x least most = either (Rises a b) (i == e) (x ∷ []) [] (least, most) (omega (arith, least, most))

-- Lists of items, and what they have.
use Rattle.std.proofs.Common.{◌≡◌, ◌≢◌, ℕ, zero, suc, List, [], ◌∷◌, ◌++◌, Bool, Some, refl, sym, subst}
use Rattle.std.specs.Prelude.{if◌then◌else◌, slice_get}
use Rattle.std.proofs.lemmas.Bool.{eq-eqb, ne_eqb}
use Rattle.world_model.specs.Item.{Item}
use Rattle.world_model.specs.Table.{set_at}

-- a list has an item
abbrev pub Has : List Item → Item → Type 0
Has xs x = (n : ℕ) × (slice_get xs n ≡ Some x)

pub has_here : (x : Item) (xs : List Item) → Has (x ∷ xs) x
has_here x xs = (zero, refl)

pub has_later : (y : Item) (xs : List Item) (x : Item) → Has xs x → Has (y ∷ xs) x
has_later y xs x (n, is) = (suc n, is)

pub has_first : (xs ys : List Item) (x : Item) → Has xs x → Has (xs ++ ys) x
has_first [] ys x (n, is) = cc
has_first (y ∷ xs) ys x (zero, is) = (zero, is)
has_first (y ∷ xs) ys x (suc n, is) = has_later y (xs ++ ys) x (has_first xs ys x (n, is))

pub has_second : (xs ys : List Item) (x : Item) → Has ys x → Has (xs ++ ys) x
has_second [] ys x has = has
has_second (y ∷ xs) ys x has = has_later y (xs ++ ys) x (has_second xs ys x has)

-- what one is given, and what another
pub has_own : (e i : ℕ) (xs : List Item) (f : ℕ → List Item) (x : Item) → i ≡ e → Has xs x → Has (set_at e xs f i) x
has_own e i xs f x own has = subst (λ (t : Bool). Has (if t then xs else f i) x) (sym (eq-eqb i e own)) has

pub has_other : (e i : ℕ) (xs : List Item) (f : ℕ → List Item) (x : Item) → i ≢ e → Has (f i) x → Has (set_at e xs f i) x
has_other e i xs f x other has = subst (λ (t : Bool). Has (if t then xs else f i) x) (sym (ne_eqb i e other)) has

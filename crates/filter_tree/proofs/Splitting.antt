-- Lists that are split where a test ceases to hold.
use Rattle.std.proofs.Common.{◌≡◌, ℕ, zero, suc, ◌<◌, ◌≤◌, Bool, true, false, not, List, [], ◌∷◌, length, take, drop, refl, ap, arith}
use Rattle.std.specs.Prelude.{filter, slice_index_or}
use Rattle.filter_tree.specs.Tree.{IsSplit}

none_pass : {X : Type 0} (p : X → Bool) (xs : List X) → ((k : ℕ) (d : X) → k < length xs → p (slice_index_or xs k d) ≡ false) → [] ≡ filter p xs
none_pass p [] none = refl
none_pass p (x ∷ xs) none = rw (none 0 x (omega arith)) (none_pass p xs (λ k d within. none (suc k) d (omega (arith, within))))

all_pass : {X : Type 0} (p : X → Bool) (xs : List X) → ((k : ℕ) (d : X) → k < length xs → p (slice_index_or xs k d) ≡ true) → xs ≡ filter p xs
all_pass p [] all = refl
all_pass p (x ∷ xs) all = rw (all 0 x (omega arith)) (ap (λ ys. x ∷ ys) (all_pass p xs (λ k d within. all (suc k) d (omega (arith, within)))))

pub front_is : {X : Type 0} (p : X → Bool) (xs : List X) (n : ℕ) → n ≤ length xs → ((k : ℕ) (d : X) → k < n → p (slice_index_or xs k d) ≡ true)
    → ((k : ℕ) (d : X) → n ≤ k → k < length xs → p (slice_index_or xs k d) ≡ false) → take n xs ≡ filter p xs
front_is p xs zero within pass fail = none_pass p xs (λ k d below. fail k d (omega arith) below)
front_is p [] (suc n) within pass fail = absurd (omega (arith, within))
front_is p (x ∷ xs) (suc n) within pass fail =
    rw (pass 0 x (omega arith)) (ap (λ ys. x ∷ ys) (front_is p xs n (omega (arith, within)) (λ k d below. pass (suc k) d (omega (arith, below))) (λ k d from below. fail (suc k) d (omega (arith, from)) (omega (arith, below)))))

pub back_is : {X : Type 0} (p : X → Bool) (xs : List X) (n : ℕ) → n ≤ length xs → ((k : ℕ) (d : X) → k < n → p (slice_index_or xs k d) ≡ true)
    → ((k : ℕ) (d : X) → n ≤ k → k < length xs → p (slice_index_or xs k d) ≡ false) → drop n xs ≡ filter (λ x. not (p x)) xs
back_is p xs zero within pass fail = all_pass (λ x. not (p x)) xs (λ k d below. ap not (fail k d (omega arith) below))
back_is p [] (suc n) within pass fail = absurd (omega (arith, within))
back_is p (x ∷ xs) (suc n) within pass fail =
    rw (pass 0 x (omega arith)) (back_is p xs n (omega (arith, within)) (λ k d below. pass (suc k) d (omega (arith, below))) (λ k d from below. fail (suc k) d (omega (arith, from)) (omega (arith, below))))

pub split_is : {X : Type 0} (p : X → Bool) (xs : List X) (n : ℕ) → n ≤ length xs → 0 < n → ((k : ℕ) (d : X) → k < n → p (slice_index_or xs k d) ≡ true)
    → ((k : ℕ) (d : X) → n ≤ k → k < length xs → p (slice_index_or xs k d) ≡ false) → IsSplit p xs n
split_is p xs n within some pass fail = record { within = within; some = some; front = front_is p xs n within pass fail; back = back_is p xs n within pass fail }

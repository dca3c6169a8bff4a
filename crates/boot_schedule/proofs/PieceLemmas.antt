-- The first line of a text, by the place of its line feed.
use Rattle.std.proofs.Common.{◌≡◌, ℕ, zero, suc, ◌+◌, ◌<◌, List, [], ◌∷◌, true, false, length, take, drop, slice_index, refl, ap, arith, inl, inr}
use Rattle.std.specs.Prelude.{◌==◌}
use Rattle.std.specs.List.{onto_first}
use Rattle.std.proofs.lemmas.Bool.{cases_Bool}
use Rattle.memchr.specs.Find.{Nowhere, Passes, is_byte}
use Rattle.line_text.specs.Lines.{pieces_of}

-- no byte below a place is a line feed
abbrev NoFeed : List ℕ → ℕ → Type 0
NoFeed xs n = (k : ℕ) → k < n → (slice_index xs k == 10) ≡ false

no_feed : (xs : List ℕ) (n : ℕ) → Nowhere (Passes (is_byte 10) xs) 0 n → NoFeed xs n
no_feed xs n none k below =
    elim (cases_Bool (slice_index xs k == 10)) [
      | inl is ↦ absurd (none k (omega arith) below is)
      | inr other ↦ other
    ]

behind : (x : ℕ) (xs : List ℕ) (n : ℕ) → NoFeed (x ∷ xs) (suc n) → NoFeed xs n
behind x xs n none = λ k below. none (suc k) (omega arith)

-- the first line ends with the first line feed
first_feed : (xs : List ℕ) (k : ℕ) → k < length xs → NoFeed xs k → (slice_index xs k == 10) ≡ true → pieces_of xs ≡ take (suc k) xs ∷ pieces_of (drop (suc k) xs)
first_feed [] k within none feed = absurd (omega arith)
first_feed (x ∷ xs) zero within none feed = rw feed refl
first_feed (x ∷ xs) (suc k) within none feed =
    rw (none 0 (omega arith)) (ap (onto_first x) (first_feed xs k (omega arith) (behind x xs k none) feed))

-- a text without a line feed is one line
no_end : (x : ℕ) (xs : List ℕ) → NoFeed (x ∷ xs) (suc (length xs)) → pieces_of (x ∷ xs) ≡ (x ∷ xs) ∷ []
no_end x [] none = rw (none 0 (omega arith)) refl
no_end x (y ∷ ys) none = rw (none 0 (omega arith)) (ap (onto_first x) (no_end y ys (behind x (y ∷ ys) (suc (length ys)) none)))

pub whole : (xs : List ℕ) → 0 < length xs → Nowhere (Passes (is_byte 10) xs) 0 (length xs) → pieces_of xs ≡ xs ∷ []
whole [] some none = absurd (omega arith)
whole (x ∷ xs) some none = no_end x xs (no_feed (x ∷ xs) (suc (length xs)) none)

pub cut_at : (xs : List ℕ) (k : ℕ) → k < length xs → Nowhere (Passes (is_byte 10) xs) 0 k → Passes (is_byte 10) xs k → pieces_of xs ≡ take (k + 1) xs ∷ pieces_of (drop (k + 1) xs)
cut_at xs k within none feed =
    let next : k + 1 ≡ suc k = omega arith in
    rw next (first_feed xs k within (no_feed xs k none) feed)

-- and so is its first line
first_alone : (xs : List ℕ) (k : ℕ) → k < length xs → NoFeed xs k → (slice_index xs k == 10) ≡ true → pieces_of (take (suc k) xs) ≡ take (suc k) xs ∷ []
first_alone [] k within none feed = absurd (omega arith)
first_alone (x ∷ xs) zero within none feed = rw feed refl
first_alone (x ∷ xs) (suc k) within none feed =
    rw (none 0 (omega arith)) (ap (onto_first x) (first_alone xs k (omega arith) (behind x xs k none) feed))

pub cut_alone : (xs : List ℕ) (k : ℕ) → k < length xs → Nowhere (Passes (is_byte 10) xs) 0 k → Passes (is_byte 10) xs k → pieces_of (take (k + 1) xs) ≡ take (k + 1) xs ∷ []
cut_alone xs k within none feed =
    let next : k + 1 ≡ suc k = omega arith in
    rw next (first_alone xs k within (no_feed xs k none) feed)

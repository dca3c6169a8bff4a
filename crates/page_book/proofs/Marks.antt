-- Marks of pages in words, and of words in a word.
use Rattle.std.proofs.Common.{arith, zero, suc, nat_lt, replicate, ◌≡◌, ℕ, ◌+◌, ◌*◌, ◌/◌, ◌%◌, ◌^◌, ◌<◌, Bool, true, false, not, ◌==◌, List, length, refl, sym, ap, ◌∙◌, inl, inr, bit_xor, slice_index_or, slice_set, get_or-set_same, get_or-set_other}
use Rattle.std.specs.Int.{bit_at, trailing_zeros, w64}
use Rattle.std.proofs.lemmas.Bool.{cases_eq, eq-eqb, ne_eqb}
use Rattle.std.proofs.lemmas.List.{get_or-replicate}
use Rattle.std.proofs.lemmas.Nat.{pow_below}
use Rattle.std.proofs.lemmas.Nat.Bits.{bit_at-lt, bit_at-pow_other, bit_at-pow_same, bit_at-trailing_zeros, bit_at-zero, bit_at_xor}
use Rattle.page_book.specs.PageSet.{IsLeastMark, mark, one_if}

-- a shifted 1 keeps its bit
one_bit : (k : ℕ) → k < 64 → 1 * 2 ^ k % 18446744073709551616 ≡ 2 ^ k
one_bit k below = let fits : 2 ^ k < 18446744073709551616 = pow_below k 64 below in omega arith

-- one bit of a word is turned
bit_turned : (word place i : ℕ) → bit_at (bit_xor word (2 ^ place)) i ≡ (bit_at word i + one_if (i == place)) % 2
bit_turned word place i =
    elim (cases_eq i place) [
      | inl same ↦ rw (bit_at_xor, same, bit_at-pow_same, eq-eqb place place refl) refl
      | inr other ↦ rw (bit_at_xor, bit_at-pow_other place i other, ne_eqb i place other) refl
    ]

-- and with it one mark
pub mark_turned : (words : List ℕ) (page k : ℕ) → page < 64 * length words → mark (slice_set words (page / 64) (bit_xor (slice_index_or words (page / 64) 0) (1 * 2 ^ (page % 64) % 18446744073709551616))) k ≡ (mark words k + one_if (k == page)) % 2
mark_turned words page k there =
    rw (one_bit (page % 64) (omega arith)) (elim (cases_eq (k / 64) (page / 64)) [
      | inl same ↦ rw (same, get_or-set_same words (page / 64) (bit_xor (slice_index_or words (page / 64) 0) (2 ^ (page % 64))) 0 (omega arith), bit_turned (slice_index_or words (page / 64) 0) (page % 64) (k % 64), same_rest k page same) refl
      | inr other ↦ rw (get_or-set_other words (page / 64) (k / 64) (bit_xor (slice_index_or words (page / 64) 0) (2 ^ (page % 64))) 0 other, ne_eqb k page (λ e. other (ap (λ (n : ℕ). n / 64) e))) (omega (arith, bit_at-lt (slice_index_or words (k / 64) 0) (k % 64)))
    ])
  where
    same_rest : (k page : ℕ) → k / 64 ≡ page / 64 → (k % 64 == page % 64) ≡ (k == page)
    same_rest k page same =
        elim (cases_eq k page) [
          | inl is ↦ rw is (eq-eqb (page % 64) (page % 64) refl ∙ sym (eq-eqb page page refl))
          | inr other ↦ rw (ne_eqb k page other) (ne_eqb (k % 64) (page % 64) (λ e. other (omega (arith, e, same))))
        ]

-- which words aren't 0 is marked in one word
abbrev pub Fills : ℕ → List ℕ → Type 0
Fills filled words = (i : ℕ) → i < 64 → bit_at filled i ≡ one_if (not (slice_index_or words i 0 == 0))

-- so it stays where a word changes and its mark is turned
pub filled_turned : (filled : ℕ) (words : List ℕ) (place word : ℕ) → place < length words → place < 64 → Fills filled words → (slice_index_or words place 0 == 0) ≡ not (word == 0)
    → Fills (bit_xor filled (1 * 2 ^ place % 18446744073709551616)) (slice_set words place word)
filled_turned filled words place word there below fills turns = λ i under.
    rw (one_bit place below) (elim (cases_eq i place) [
      | inl same ↦ rw (bit_turned filled place i, same, fills place below, get_or-set_same words place word 0 there, eq-eqb place place refl, turns) (by_test (word == 0))
      | inr other ↦ rw (bit_turned filled place i, get_or-set_other words place i word 0 other, ne_eqb i place other, fills i under) (by_mark (slice_index_or words i 0 == 0))
    ])
  where
    by_test : (zero : Bool) → (one_if (not (not zero)) + 1) % 2 ≡ one_if (not zero)
    by_test true = refl
    by_test false = refl

    by_mark : (zero : Bool) → (one_if (not zero) + 0) % 2 ≡ one_if (not zero)
    by_mark true = refl
    by_mark false = refl

-- the lowest page of the lowest word that isn't 0 is the lowest of all
pub least_mark : (filled : ℕ) (words : List ℕ) (place bit : ℕ) → Fills filled words → 0 < filled → filled < 2 ^ 64 → slice_index_or words (trailing_zeros w64 filled) 0 < 2 ^ 64
    → place ≡ trailing_zeros w64 filled → bit ≡ trailing_zeros w64 (slice_index_or words place 0) → IsLeastMark words (64 * place + bit)
least_mark filled words place bit fills some fits word_fits is_place is_bit =
    let first = bit_at-trailing_zeros w64 filled some fits in
    let below : place < 64 = omega (arith, is_place, first.0) in
    let marked : one_if (not (slice_index_or words place 0 == 0)) ≡ 1 = sym (fills place below) ∙ (rw is_place first.1) in
    let there : 0 < slice_index_or words place 0 = not_zero (slice_index_or words place 0) marked in
    let lowest = bit_at-trailing_zeros w64 (slice_index_or words place 0) there (rw is_place word_fits) in
    let in_word : bit < 64 = omega (arith, is_bit, lowest.0) in
    let its_word : (64 * place + bit) / 64 ≡ place = omega arith in
    let its_bit : (64 * place + bit) % 64 ≡ bit = omega arith in
    record {
      below = omega arith;
      marked = rw (its_word, its_bit, is_bit) lowest.1;
      least = λ k under. elim (cases_eq (k / 64) place) [
        | inl same ↦ let before : k % 64 < trailing_zeros w64 (slice_index_or words place 0) = omega (arith, same, is_bit, under) in rw same (lowest.2 (k % 64) before)
        | inr other ↦
            let before : k / 64 < place = omega (arith, other, under) in
            let unmarked : one_if (not (slice_index_or words (k / 64) 0 == 0)) ≡ 0 = sym (fills (k / 64) (omega (arith, before, below))) ∙ first.2 (k / 64) (omega (arith, before, is_place)) in
            rw (is_zero (slice_index_or words (k / 64) 0) unmarked) (bit_at-zero (k % 64))
      ];
    }
  where
    not_zero : (word : ℕ) → one_if (not (word == 0)) ≡ 1 → 0 < word
    not_zero word is = elim (cases_eq word 0) [ inl none ↦ absurd (cc (rw none at is)) | inr some ↦ omega (arith, some) ]

    is_zero : (word : ℕ) → one_if (not (word == 0)) ≡ 0 → word ≡ 0
    is_zero word is = elim (cases_eq word 0) [ inl none ↦ none | inr some ↦ absurd (cc (rw (ne_eqb word 0 some) at is)) ]

-- no word is filled where all are 0
pub none_filled : (count : ℕ) → (i : ℕ) → i < count → bit_at 0 i ≡ one_if (not (slice_index_or (replicate count 0) i 0 == 0))
none_filled count i below = rw (bit_at-zero i, get_or-replicate {A = ℕ} count i 0 0 below) refl

zeros : (count i : ℕ) → ◌≡◌ {A = ℕ} (slice_index_or (replicate count 0) i 0) 0
zeros zero i = refl
zeros (suc count) zero = refl
zeros (suc count) (suc i) = zeros count i

-- nor is a page marked
pub none_marked : (count k : ℕ) → mark (replicate count 0) k ≡ 0
none_marked count k = rw (zeros count (k / 64)) (bit_at-zero (k % 64))

pub none_below : (k : ℕ) → one_if (nat_lt k 0) ≡ 0
none_below k = grind arith

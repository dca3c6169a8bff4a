-- The first row of which a test says yes.
use Rattle.std.proofs.Common.{arith, refl, ap, sym, ◌∙◌, ◌≡◌, ◌≢◌, ◌<◌, ◌≤◌, ◌-◌, ◌*◌, ◌^◌, ◌%◌, ℕ, zero, suc, Bool, true, false, List, [], ◌∷◌, length, get_or, Some, None, inl, inr, bit_and}
use Rattle.std.proofs.lemmas.Bool.{cases_eq, eq-eqb, eqb-true}
use Rattle.std.proofs.lemmas.List.{get_or_default}
use Rattle.std.proofs.lemmas.Nat.{and_le_l}
use Rattle.std.proofs.lemmas.Nat.Bits.{bit_at-trailing_zeros, bit_at-zero, bit_at_clear_same, bit_at_clear_other}
use Rattle.std.specs.Int.{bit_at, trailing_zeros, w64}
use Rattle.std.specs.List.{find}
use Rattle.r3k_tlb.specs.declared.row.Row.{Row}
use Rattle.r3k_tlb.specs.Row.{emptied_row}
use Rattle.r3k_tlb.specs.Rows.{row_at}
use Rattle.r3k_tlb.specs.Index.{Covers, has_word}

-- none passes
pub find_none : (p : Row → Bool) (rows : List Row) → ((k : ℕ) → k < length rows → p (row_at rows k) ≡ false) → find p rows ≡ None
find_none p [] none = refl
find_none p (x ∷ xs) none =
    let here : p x ≡ false = none 0 (omega arith) in
    rw here (find_none p xs (λ k below. none (suc k) (omega (arith, below))))

-- one passes, and none below it does
pub find_first : (p : Row → Bool) (rows : List Row) (i : ℕ) → i < length rows → p (row_at rows i) ≡ true → ((k : ℕ) → k < i → p (row_at rows k) ≡ false) → find p rows ≡ Some (row_at rows i)
find_first p [] i within here none = absurd (omega arith)
find_first p (x ∷ xs) zero within here none = rw here refl
find_first p (x ∷ xs) (suc i) within here none =
    let first : p x ≡ false = none 0 (omega arith) in
    rw first (find_first p xs i (omega (arith, within)) here (λ k below. none (suc k) (omega (arith, below))))

-- two tests that say the same of each row
pub find_same : (p q : Row → Bool) (rows : List Row) → ((k : ℕ) → k < length rows → p (row_at rows k) ≡ q (row_at rows k)) → find p rows ≡ find q rows
find_same p q [] same = refl
find_same p q (x ∷ xs) same =
    let here : p x ≡ q x = same 0 (omega arith) in
    let rest : find p xs ≡ find q xs = find_same p q xs (λ k below. same (suc k) (omega (arith, below))) in
    rw (here, rest) refl

abbrev lowest : ℕ → ℕ
lowest bits = trailing_zeros w64 bits

abbrev without_lowest : ℕ → ℕ
without_lowest bits = bit_and bits (2 ^ 64 - 1 - 1 * 2 ^ lowest bits % 2 ^ 64)

not_one : (bits k : ℕ) (b : Bool) → (b ≡ true → bit_at bits k ≡ 1) → bit_at bits k ≡ 0 → b ≡ false
not_one bits k true covered clear = absurd (omega (arith, covered refl, clear))
not_one bits k false covered clear = refl

-- no bit is left, so no row has the word
pub none_covered : (rows : List Row) (bits word : ℕ) → Covers rows bits word → bits ≡ 0 → find (has_word word) rows ≡ None
none_covered rows bits word covers none =
    find_none (has_word word) rows (λ k below.
    not_one bits k (has_word word (row_at rows k)) (covers.each k (omega (arith, below, covers.all))) (rw none (bit_at-zero k)))

-- the row of the lowest bit has the word
pub lowest_covered : (rows : List Row) (bits word : ℕ) (d : Row) → Covers rows bits word → 0 < bits → bits < 2 ^ 64
    → (get_or rows (lowest bits) d).hi ≡ word → Some (get_or rows (lowest bits) d) ≡ find (has_word word) rows
lowest_covered rows bits word d covers some fits has =
    let zeros = bit_at-trailing_zeros w64 bits some fits in
    let within : lowest bits < length rows = omega (arith, zeros.0, covers.all) in
    let same : get_or rows (lowest bits) d ≡ row_at rows (lowest bits) = get_or_default rows (lowest bits) d emptied_row within in
    let here : has_word word (row_at rows (lowest bits)) ≡ true = rw (← same) (eq-eqb (get_or rows (lowest bits) d).hi word has) in
    ap (λ (r : Row). Some r) same ∙ sym (find_first (has_word word) rows (lowest bits) within here (λ k below.
    not_one bits k (has_word word (row_at rows k)) (covers.each k (omega (arith, below, zeros.0))) (zeros.2 k below)))

-- the row of the lowest bit hasn't the word, so the others cover the rows that have it
pub others_cover : (rows : List Row) (bits word : ℕ) (d : Row) → Covers rows bits word → 0 < bits → bits < 2 ^ 64
    → (get_or rows (lowest bits) d).hi ≢ word → Covers rows (without_lowest bits) word
others_cover rows bits word d covers some fits has_not =
    let zeros = bit_at-trailing_zeros w64 bits some fits in
    record {
      all = covers.all;
      each = λ k below has. elim (cases_eq k (lowest bits)) [
        | inl same ↦
            let here : get_or rows k d ≡ row_at rows k = get_or_default rows k d emptied_row (omega (arith, below, covers.all)) in
            let word_there : (row_at rows k).hi ≡ word = eqb-true (row_at rows k).hi word has in
            absurd (has_not (ap (λ (n : ℕ). (get_or rows n d).hi) (sym same) ∙ ap (λ (r : Row). r.hi) here ∙ word_there))
        | inr other ↦ bit_at_clear_other w64 bits (lowest bits) zeros.0 k below other ∙ covers.each k below has
      ];
    }

pub fewer_bits : (bits : ℕ) → 0 < bits → bits < 2 ^ 64 → without_lowest bits < bits
fewer_bits bits some fits =
    let zeros = bit_at-trailing_zeros w64 bits some fits in
    let less : without_lowest bits ≤ bits = and_le_l bits (2 ^ 64 - 1 - 1 * 2 ^ lowest bits % 2 ^ 64) in
    let gone : bit_at (without_lowest bits) (lowest bits) ≡ 0 = bit_at_clear_same w64 bits (lowest bits) zeros.0 in
    let other : without_lowest bits ≢ bits = λ e. absurd (omega (arith, ap (λ (n : ℕ). bit_at n (lowest bits)) e, gone, zeros.1)) in
    omega arith

-- Where no row is odd, the first word tells what a row fits.
use Rattle.std.proofs.Common.{arith, refl, sym, ◌∙◌, ◌≡◌, ◌≢◌, ◌<◌, ◌%◌, ◌^◌, ℕ, Bool, true, false, not, eqb, List, inl, inr}
use Rattle.std.proofs.lemmas.Bool.{cases_eq, eq-eqb, ne_eqb, eqb-true, or_parts}
use Rattle.std.proofs.lemmas.Nat.Bits.{bit_at-zero}
use Rattle.std.specs.List.{find}
use Rattle.r3k_tlb.specs.declared.row.Row.{Row}
use Rattle.r3k_tlb.specs.Row.{fits, hi_word_of, is_global, is_odd, row_pid, row_vpn}
use Rattle.r3k_tlb.specs.Rows.{row_at}
use Rattle.r3k_tlb.specs.Index.{IsIndexed, bit_of, has_word}
use Rattle.r3k_tlb.proofs.Looking.{find_same}

not_odd : (b : Bool) → 0 ≡ bit_of b → b ≡ false
not_odd true e = absurd (omega (arith, e))
not_odd false e = refl

is_low : (n : ℕ) → not (eqb n 0) ≡ false → n ≡ 0
is_low n e = grind (arith, eqb-true)

-- a row that isn't odd has the word of a pair exactly where it fits the pair
fits_by_word : (vpn pid : ℕ) (row : Row) → pid < 64 → is_odd row ≡ false → has_word (hi_word_of vpn pid) row ≡ fits vpn pid row
fits_by_word vpn pid row small plain =
    let parts = or_parts (not (eqb (row.hi % 2 ^ 6) 0)) (is_global row) plain in
    let low : row.hi % 2 ^ 6 ≡ 0 = is_low (row.hi % 2 ^ 6) parts.0 in
    rw parts.1 (elim (cases_eq (row_vpn row) vpn) [
      | inl same_vpn ↦ elim (cases_eq (row_pid row) pid) [
        | inl same_pid ↦
            let word : row.hi ≡ hi_word_of vpn pid = omega arith in
            rw (eq-eqb row.hi (hi_word_of vpn pid) word, eq-eqb (row_vpn row) vpn same_vpn, eq-eqb (row_pid row) pid same_pid) refl
        | inr other_pid ↦
            let other : row.hi ≢ hi_word_of vpn pid = λ e. other_pid (omega arith) in
            rw (ne_eqb row.hi (hi_word_of vpn pid) other, eq-eqb (row_vpn row) vpn same_vpn, ne_eqb (row_pid row) pid other_pid) refl
      ]
      | inr other_vpn ↦
          let other : row.hi ≢ hi_word_of vpn pid = λ e. other_vpn (omega arith) in
          rw (ne_eqb row.hi (hi_word_of vpn pid) other, ne_eqb (row_vpn row) vpn other_vpn) refl
    ])

-- with no odd row, the first row with the word of a pair is the first that fits it
pub fits_as_words : (vpn pid : ℕ) (rows : List Row) (index : List ℕ) (odd : ℕ) → pid < 64 → IsIndexed rows index odd → odd ≡ 0
    → find (has_word (hi_word_of vpn pid)) rows ≡ find (fits vpn pid) rows
fits_as_words vpn pid rows index odd small indexed none =
    find_same (has_word (hi_word_of vpn pid)) (fits vpn pid) rows (λ k below.
    let plain = not_odd (is_odd (row_at rows k)) (sym (bit_at-zero k) ∙ (rw none at (indexed.odd_bits k (omega (arith, below, indexed.all))))) in
    fits_by_word vpn pid (row_at rows k) small plain)

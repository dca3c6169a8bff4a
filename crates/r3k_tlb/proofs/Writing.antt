-- The index of rows that are all emptied, and after a row is written.
use Rattle.std.proofs.Common.{arith, ◌∙◌, ◌≡◌, ◌<◌, ℕ, Bool, true, false, cond, eqb, List, length, replicate, slice_index, get_or-set_same, get_or-set_other, length-set, inl, inr}
use Rattle.std.proofs.lemmas.Bool.{cases_eq, eq-eqb, ne_eqb}
use Rattle.std.proofs.lemmas.List.{get_or-replicate, length-replicate}
use Rattle.std.proofs.lemmas.Nat.Bits.{bit_at-zero}
use Rattle.std.specs.Int.{bit_at}
use Rattle.r3k_tlb.specs.declared.row.Row.{Row}
use Rattle.r3k_tlb.specs.Row.{emptied_row, is_odd}
use Rattle.r3k_tlb.specs.Rows.{row_at, row_count, with_row_at}
use Rattle.r3k_tlb.specs.Index.{IsBitSet, IsIndexed, IsMarked, bit_of, is_at}

empty_place : (place k : ℕ) → place < 256 → bit_at (slice_index (replicate 256 0) place) k ≡ 0
empty_place place k within = rw (get_or-replicate {A = ℕ} 256 place 0 0 within) (bit_at-zero k)

emptied_there : (k : ℕ) → k < 64 → row_at (replicate 64 emptied_row) k ≡ emptied_row
emptied_there k within = get_or-replicate 64 k emptied_row emptied_row within

pub emptied_indexed : IsIndexed (replicate 64 emptied_row) (replicate 256 0) 0
emptied_indexed = record {
  all = length-replicate {A = Row} 64 emptied_row;
  places = length-replicate {A = ℕ} 256 0;
  bits = λ place k in_index in_rows. rw (emptied_there k in_rows) (empty_place place k in_index);
  odd_bits = λ k in_rows. rw (emptied_there k in_rows) (bit_at-zero k);
}

-- a bit that was cleared for the row before it, and then set for its own
own_bit : (new old : Bool) (marked cleared was : ℕ) → marked ≡ cond new 1 cleared → cleared ≡ cond old 0 was → was ≡ bit_of old → marked ≡ bit_of new
own_bit true old marked cleared was then first before = then
own_bit false true marked cleared was then first before = then ∙ first
own_bit false false marked cleared was then first before = then ∙ first ∙ before

-- the index after a row is written: the bit of the row before it is cleared, and its own is set
pub written_indexed : (rows : List Row) (index cleared marked : List ℕ) (odd odd_after i : ℕ) (row : Row) → i < row_count
    → IsIndexed rows index odd → IsMarked index (row_at rows i) i false cleared → IsMarked cleared row i true marked → IsBitSet odd i (is_odd row) odd_after
    → IsIndexed (with_row_at rows i row) marked odd_after
written_indexed rows index cleared marked odd odd_after i row within was clear mark odd_set = record {
  all = length-set rows i row ∙ was.all;
  places = mark.count ∙ clear.count ∙ was.places;
  bits = λ place k in_index in_rows. elim (cases_eq k i) [
    | inl same ↦
        let test : eqb k i ≡ true = eq-eqb k i same in
        let here : i < length rows = omega (arith, was.all) in
        let then = rw test at (mark.each place k in_index in_rows) in
        let first = rw test at (clear.each place k in_index in_rows) in
        let before = rw same at (was.bits place k in_index in_rows) in
        let now : row_at (with_row_at rows i row) k ≡ row = rw same (get_or-set_same rows i row emptied_row here) in
        rw now (own_bit (is_at place row) (is_at place (row_at rows i)) (bit_at (slice_index marked place) k) (bit_at (slice_index cleared place) k) (bit_at (slice_index index place) k) then first (rw same (before)))
    | inr other ↦
        let test : eqb k i ≡ false = ne_eqb k i other in
        let then = rw test at (mark.each place k in_index in_rows) in
        let first = rw test at (clear.each place k in_index in_rows) in
        rw (get_or-set_other rows i k row emptied_row other) (then ∙ first ∙ was.bits place k in_index in_rows)
  ];
  odd_bits = λ k in_rows. elim (cases_eq k i) [
    | inl same ↦
        let here : i < length rows = omega (arith, was.all) in
        let now : row_at (with_row_at rows i row) k ≡ row = rw same (get_or-set_same rows i row emptied_row here) in
        rw (now, same) odd_set.here
    | inr other ↦ rw (get_or-set_other rows i k row emptied_row other) (odd_set.others k in_rows other ∙ was.odd_bits k in_rows)
  ];
}

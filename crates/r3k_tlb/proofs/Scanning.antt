-- The row at the place of the first that fits, or past the last, is the first that fits, if there is one.
use Rattle.std.proofs.Common.{◌≡◌, ◌≤◌, ℕ, Bool, true, false, List, length, Some, None, refl, sym, ◌∙◌, arith, tests}
use Rattle.std.specs.Prelude.{nat_lt, slice_get, unwrap_or, if◌then◌else◌}
use Rattle.std.specs.List.{find, position, position_or_len}
use Rattle.std.proofs.lemmas.List.Folds.{find_at}
use Rattle.std.proofs.lemmas.Option.{slice_get_past}
use Rattle.r3k_tlb.specs.declared.row.Row.{Row}
use Rattle.r3k_tlb.specs.Rows.{row_count}

not_less : (m n : ℕ) → nat_lt m n ≡ false → n ≤ m
not_less m n is = grind (arith, tests)

at_place : (p : Row → Bool) (rows : List Row) (t : Bool) → nat_lt (position_or_len p rows) (length rows) ≡ t → length rows ≡ row_count
    → slice_get rows (unwrap_or (if t then Some (position_or_len p rows) else None) row_count) ≡ find p rows
at_place p rows true is count = sym (find_at p rows)
at_place p rows false is count =
    slice_get_past rows row_count (omega (arith, count)) ∙ sym (slice_get_past rows (position_or_len p rows) (not_less (position_or_len p rows) (length rows) is)) ∙ sym (find_at p rows)

pub scanned : (p : Row → Bool) (rows : List Row) → length rows ≡ row_count → slice_get rows (unwrap_or (position p rows) row_count) ≡ find p rows
scanned p rows count = at_place p rows (nat_lt (position_or_len p rows) (length rows)) refl count

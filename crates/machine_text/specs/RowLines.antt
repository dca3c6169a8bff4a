-- The rows of a TLB, a line each.
use Rattle.std.specs.Prelude.{ℕ, List, [], ◌∷◌, codes}
use Rattle.line_text.specs.Text.{dec_text, hex_text}
use Rattle.line_text.specs.WrittenLine.{line}
use Rattle.r3k_tlb.specs.declared.row.Row.{Row}
use Rattle.r3k_tlb.specs.Rows.{row_at}
use Rattle.machine_text.specs.Series.{for_each}

-- a row: its number, and its two words
unfoldable pub tlb_row_line : ℕ → Row → List ℕ
tlb_row_line i row = line (codes "row" ∷ dec_text i ∷ hex_text 8 row.hi ∷ hex_text 8 row.lo ∷ [])

-- the first rows, this many
abbrev pub tlb_row_lines : List Row → ℕ → List ℕ
tlb_row_lines rows count = for_each (λ i. tlb_row_line i (row_at rows i)) count

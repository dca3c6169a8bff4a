-- What is so of each instruction that a table of rows may give.
use Rattle.std.proofs.Common.{◌≡◌, refl, ℕ, ◌==◌, Bool, true, false, List, [], ◌∷◌}
use Rattle.std.specs.Prelude.{if◌then◌else◌}
use Rattle.mips_isa.specs.Encoding.{EncodingRow, find_row}
use Rattle.mips_isa.specs.declared.insn.Insn.{Insn}

-- so it is with the instruction of any row that has the key
abbrev pub AreEach : (Insn → Type 0) → ℕ → List EncodingRow → Type 0
AreEach P key [] = Unit {0}
AreEach P key (r ∷ rows) = ((key == r.key) ≡ true → P r.insn) × AreEach P key rows

-- then it is with the one that is found, where it is with that of no row
pub finds : (P : Insn → Type 0) (key : ℕ) (rows : List EncodingRow) (other : Insn) → AreEach P key rows → P other → P (find_row key rows other)
finds P key [] other each last = last
finds P key (r ∷ rows) other each last = by_test (key == r.key) refl (finds P key rows other each.1 last)
  where
    by_clear : (t : Bool) → P r.insn → P (if t then r.insn else other)
    by_clear true first = first
    by_clear false first = last

    by_test : (t : Bool) → (key == r.key) ≡ t → P (find_row key rows other)
        → P (if t then (if r.is_clear then r.insn else other) else find_row key rows other)
    by_test true has later = by_clear r.is_clear (each.0 has)
    by_test false has later = later

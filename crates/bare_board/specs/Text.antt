-- The text of a bare run, line by line.
use Rattle.std.specs.Prelude.{ℕ, ◌-◌, List, [], ◌∷◌, ◌++◌, map, take, drop, length, min, codes}
use Rattle.std.specs.List.{concat}
use Rattle.aegis_limits.specs.Limits.{page_size}
use Rattle.line_text.specs.Text.{dec_text, hex_text}
use Rattle.line_text.specs.WrittenLine.{line, quotation}
use Rattle.machine_text.specs.Fingerprint.{fingerprint}
use Rattle.machine_text.specs.Registers.{cpu_words, register_words}
use Rattle.machine_text.specs.RowLines.{tlb_row_lines}
use Rattle.mips_exec.specs.declared.registers.Cpu.{Cpu}
use Rattle.frame_store.specs.Pages.{page_at, word_at}
use Rattle.r3k_tlb.specs.declared.row.Row.{Row}
use Rattle.r3k_tlb.specs.Rows.{row_count}
use Rattle.r3k_cp0.specs.declared.registers.Cp0.{Cp0}
use Rattle.r3k_cp0.specs.Registers.{cp0_reg}
use Rattle.bare_board.specs.declared.ending.BareEnd.{BareEnd}
use Rattle.bare_board.specs.declared.ending.BareEnd.TheVariants.{Halt, Limit}
use Rattle.bare_board.specs.Loading.{bare_pages}

abbrev pub end_name : BareEnd → List ℕ
end_name Halt = codes "halt"
end_name Limit = codes "limit"

-- how the run ended, and the ticks done before
unfoldable pub end_line : BareEnd → ℕ → List ℕ
end_line how ticks = line (codes "end" ∷ end_name how ∷ dec_text ticks ∷ [])

-- the most bytes of the console: those of a page behind a word
abbrev pub console_room : ℕ
console_room = page_size - 4

-- the console in a page: its length, taken as the most where it is above, and its bytes
unfoldable pub console_in : List ℕ → List ℕ
console_in page = take (min console_room (word_at page 0)) (drop 4 page)

unfoldable pub out_line : List ℕ → List ℕ
out_line console = line (codes "out" ∷ dec_text (length console) ∷ quotation console ∷ [])

unfoldable pub cpu_line : Cpu → List ℕ
cpu_line cpu = line (codes "cpu" ∷ cpu_words cpu)

-- registers 1 to 31
unfoldable pub regs_line : Cpu → List ℕ
regs_line cpu = line (codes "regs" ∷ register_words cpu)

-- the registers of coprocessor 0 that are shown: all but PRId
abbrev pub shown_cp0_regs : List ℕ
shown_cp0_regs = 0 ∷ 1 ∷ 2 ∷ 4 ∷ 8 ∷ 10 ∷ 12 ∷ 13 ∷ 14 ∷ []

unfoldable pub cp0_line : Cp0 → List ℕ
cp0_line c = line (codes "cp0" ∷ map (λ n. hex_text 8 (cp0_reg c n)) shown_cp0_regs)

-- the fingerprint of physical memory
unfoldable pub ram_line : List (List ℕ) → List ℕ
ram_line frames = line (codes "ram" ∷ fingerprint (concat frames) ∷ [])

unfoldable pub head_lines : BareEnd → ℕ → List ℕ
head_lines how ticks = line (codes "aegis" ∷ codes "bare" ∷ []) ++ end_line how ticks

unfoldable pub register_lines : Cpu → Cp0 → List ℕ
register_lines cpu cp0 = cpu_line cpu ++ regs_line cpu ++ cp0_line cp0

unfoldable pub memory_lines : List Row → List (List ℕ) → List ℕ
memory_lines rows frames = ram_line frames ++ tlb_row_lines rows row_count

-- the whole text
unfoldable pub run_text : BareEnd → ℕ → Cpu → Cp0 → List Row → List (List ℕ) → List ℕ
run_text how ticks cpu cp0 rows frames =
    head_lines how ticks ++ out_line (console_in (page_at frames (bare_pages - 1))) ++ register_lines cpu cp0
    ++ memory_lines rows frames ++ line (codes "done" ∷ [])

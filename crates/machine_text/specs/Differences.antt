-- The registers that differ, as words of a line.
use Rattle.std.specs.Prelude.{ℕ, ◌+◌, List, [], ◌∷◌, ◌++◌, codes, ◌==◌, if◌then◌else◌}
use Rattle.line_text.specs.Text.{dec_text, hex_text}
use Rattle.mips_exec.specs.declared.registers.Cpu.{Cpu}
use Rattle.mips_exec.specs.Cpu.{reg}
use Rattle.machine_text.specs.Series.{for_each}

-- a register that differs, and what it holds then
abbrev pub difference : List ℕ → ℕ → ℕ → List (List ℕ)
difference name before after = if before == after then [] else name ∷ hex_text 8 after ∷ []

-- the register after register i
abbrev pub register_difference : Cpu → Cpu → ℕ → List (List ℕ)
register_difference before after i =
    difference (codes "$" ++ dec_text (i + 1)) (reg before (i + 1)) (reg after (i + 1))

-- registers 1 to 31, where they differ
unfoldable pub register_differences : Cpu → Cpu → List (List ℕ)
register_differences before after = for_each (register_difference before after) 31

-- these, HI and LO, where they differ
unfoldable pub differences : Cpu → Cpu → List (List ℕ)
differences before after =
    register_differences before after
    ++ difference (codes "hi") before.hi after.hi ++ difference (codes "lo") before.lo after.lo

-- The registers of a processor, as words of a line.
use Rattle.std.specs.Prelude.{ℕ, ◌+◌, List, [], ◌∷◌}
use Rattle.line_text.specs.Text.{hex_text}
use Rattle.line_text.specs.WrittenLine.{flag_text}
use Rattle.mips_exec.specs.declared.registers.Cpu.{Cpu}
use Rattle.mips_exec.specs.Cpu.{reg}
use Rattle.machine_text.specs.Series.{for_each}

-- the program counters, the slot flag, HI and LO
abbrev pub cpu_words : Cpu → List (List ℕ)
cpu_words cpu =
    hex_text 8 cpu.pc ∷ hex_text 8 cpu.next ∷ flag_text cpu.slot ∷ hex_text 8 cpu.hi ∷ hex_text 8 cpu.lo ∷ []

-- the register after register i
abbrev pub register_word : Cpu → ℕ → List (List ℕ)
register_word cpu i = hex_text 8 (reg cpu (i + 1)) ∷ []

-- registers 1 to 31
unfoldable pub register_words : Cpu → List (List ℕ)
register_words cpu = for_each (register_word cpu) 31

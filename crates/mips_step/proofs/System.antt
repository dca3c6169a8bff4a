-- A word of coprocessor 0 neither loads nor stores, and raises that the coprocessor may not be used.
use Rattle.std.proofs.Common.{◌≡◌, ℕ, List, [], ◌∷◌, None, refl, arith, rules}
use Rattle.mips_isa.specs.declared.insn.Insn.{Insn}
use Rattle.mips_isa.specs.declared.insn.Insn.TheVariants.{Reserved}
use Rattle.mips_isa.specs.Fields.{opcode_of, rs_of}
use Rattle.mips_isa.specs.Encoding.{EncodingRow, find_row, system_of, system_operation_of, system_rows}
use Rattle.mips_exec.specs.declared.registers.Cpu.{Cpu}
use Rattle.mips_exec.specs.declared.change.Change.TheVariants.{Raises}
use Rattle.mips_exec.specs.Access.{access}
use Rattle.mips_exec.specs.Effect.{effect}
use Rattle.mips_exec.specs.Exception.{unusable}

-- the instruction of each row is one of these
abbrev Each : (Insn → Type 0) → List EncodingRow → Type 0
Each P [] = Unit {0}
Each P (r ∷ rows) = P r.insn × Each P rows

found : (P : Insn → Type 0) (key : ℕ) (rows : List EncodingRow) (other : Insn) → Each P rows → P other → P (find_row key rows other)
found P key [] other each p = p
found P key (r ∷ rows) other each p = search (rules, (found P key rows other each.1 p))

-- it neither loads nor stores, and raises this
record IsSystem (c : Cpu) (insn : Insn) : Type 0 where
  value : effect insn c 0 ≡ Raises (unusable 0)
  plain : access insn c ≡ None

reserved : (w : ℕ) (c : Cpu) → opcode_of w ≡ 16 → IsSystem c (Reserved w)
unfolding effect access
reserved w c h = record { value = grind arith; plain = refl }

operation : (w : ℕ) (c : Cpu) → opcode_of w ≡ 16 → IsSystem c (system_operation_of w)
unfolding system_operation_of effect access
operation w c h = search (rules, found, reserved)

system : (w : ℕ) (c : Cpu) → opcode_of w ≡ 16 → IsSystem c (system_of w)
unfolding system_of effect access
system w c h =
    found (IsSystem c) (rs_of w) (system_rows w) (Reserved w)
    (operation w c h, (record { value = refl; plain = refl }, (record { value = refl; plain = refl }, tt)))
    (reserved w c h)

pub system_effect : (w : ℕ) (c : Cpu) → opcode_of w ≡ 16 → effect (system_of w) c 0 ≡ Raises (unusable 0)
system_effect w c h = (system w c h).value

pub system_access : (w : ℕ) (c : Cpu) → opcode_of w ≡ 16 → access (system_of w) c ≡ None
system_access w c h = (system w c h).plain

-- `asm SOURCE`: the ELF file that a source assembles to.
use Rattle.std.specs.Prelude.{ℕ, List, [], ◌∷◌, Some, Result, Ok, Err}
use Rattle.asm_parse.specs.Why.{why_text}
use Rattle.line_text.specs.declared.failure.LineFault.{LineFault}
use Rattle.asm_parse.specs.declared.fault.AsmWhy.{AsmWhy}
use Rattle.elf_static.specs.ObjectValue.{ObjectValue}
use Rattle.elf_static.specs.Layout.{elf_text}
use Rattle.mips_asm.specs.Assembled.{assembled}
use Rattle.commands.specs.Due.{Due, Whole, refused}
use Rattle.commands.specs.Command.{CommandValue, no_further, content}

-- a source with a fault is refused, and another is the ELF file of what it assembles to
abbrev pub asm_due : List ℕ → Result ObjectValue (LineFault AsmWhy) → Due
asm_due name (Ok object) = Whole (elf_text object)
asm_due name (Err fault) = refused name (why_text fault.why) fault.line

abbrev pub asm : List ℕ → CommandValue
asm source = record {
  names = source ∷ [];
  further = no_further;
  due = λ contents. Some (asm_due source (assembled (content contents 0)));
}

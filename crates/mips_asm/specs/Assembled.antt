-- What a source assembles to: the first fault, or a program.
use Rattle.std.specs.Prelude.{ℕ, true, false, List, [], ◌∷◌, Result, Ok, Err, ◌==◌, if◌then◌else◌, length}
use Rattle.std.specs.Option.{unwrap_or}
use Rattle.line_text.specs.declared.failure.LineFault.{LineFault}
use Rattle.line_text.specs.Failing.{fault_at}
use Rattle.asm_parse.specs.declared.fault.AsmWhy.{AsmWhy}
use Rattle.asm_parse.specs.declared.fault.AsmWhy.TheVariants.{Empty}
use Rattle.elf_static.specs.ObjectValue.{ObjectValue, PartValue}
use Rattle.asm_layout.specs.declared.section.Section.TheVariants.{Text, Data}
use Rattle.asm_layout.specs.Layout.{Layout, base_of, laid}
use Rattle.line_text.specs.Outcome.{◌>>=◌}
use Rattle.mips_asm.specs.Second.{Sections, filled}

-- the text, which may not be written, and the data where there is any
abbrev pub parts_of : Sections → List PartValue
parts_of sections =
    (record { vaddr = base_of Text; bytes = sections.text; writable = false })
    ∷ (if length sections.data_bytes == 0 then [] else (record {
      vaddr = base_of Data;
      bytes = sections.data_bytes;
      writable = true;
    }) ∷ [])

-- the program, which begins at the label `start`, or at the text's first byte where there is none
abbrev pub program_of : Layout → Sections → ObjectValue
program_of layout sections = record { entry = unwrap_or layout.start (base_of Text); parts = parts_of sections }

-- that there is no text; the first fault of the second pass; or the program
abbrev pub linked : Layout → Result ObjectValue (LineFault AsmWhy)
linked layout =
    if layout.text == 0 then Err (fault_at 1 Empty) else do
      sections ← filled layout
      Ok (program_of layout sections)

-- The first fault of the first pass, or what the second makes of its layout.
unfoldable pub assembled : List ℕ → Result ObjectValue (LineFault AsmWhy)
assembled source = do
  layout ← laid source
  linked layout

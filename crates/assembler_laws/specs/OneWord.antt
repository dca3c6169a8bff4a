-- The program of one word.
use Rattle.std.specs.Prelude.{ℕ, false, [], ◌∷◌}
use Rattle.std.specs.Int.{w32, to_le_bytes}
use Rattle.asm_layout.specs.declared.section.Section.TheVariants.{Text}
use Rattle.asm_layout.specs.Layout.{base_of}
use Rattle.elf_static.specs.ObjectValue.{ObjectValue}

-- a word at the text's first address, where the program begins
abbrev pub one_word : ℕ → ObjectValue
one_word word = record {
  entry = base_of Text;
  parts = (record { vaddr = base_of Text; bytes = to_le_bytes w32 word; writable = false }) ∷ [];
}

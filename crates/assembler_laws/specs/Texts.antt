-- The texts of words, and the program of the words.
use Rattle.std.specs.Prelude.{ℕ, ◌+◌, false, List, [], ◌∷◌, ◌++◌}
use Rattle.std.specs.List.{flat_map}
use Rattle.std.specs.Int.{w32, to_le_bytes}
use Rattle.asm_layout.specs.declared.section.Section.TheVariants.{Text}
use Rattle.asm_layout.specs.Layout.{base_of}
use Rattle.elf_static.specs.ObjectValue.{ObjectValue}
use Rattle.mips_list.specs.WordText.{word_text}

-- the texts of words that stand one behind the other from an address on, a line for each
abbrev pub texts_from : ℕ → List ℕ → List ℕ
texts_from address [] = []
texts_from address (word ∷ words) = word_text word address ++ 10 ∷ texts_from (address + 4) words

-- words from the text's first address on, where the program begins
abbrev pub program_of_words : List ℕ → ObjectValue
program_of_words words = record {
  entry = base_of Text;
  parts = (record { vaddr = base_of Text; bytes = flat_map (to_le_bytes w32) words; writable = false }) ∷ [];
}

-- The listing of a program: a line for each whole word of its read-only segments.
use Rattle.std.specs.Prelude.{ℕ, ◌+◌, ◌-◌, ◌*◌, ◌/◌, ◌%◌, List, [], ◌∷◌, if◌then◌else◌, length}
use Rattle.std.specs.List.{flat_map, range_with_len}
use Rattle.byte_numbers.specs.Numbers.{word_at}
use Rattle.line_text.specs.Text.{hex_text}
use Rattle.line_text.specs.WrittenLine.{line}
use Rattle.elf_static.specs.ElfValue.{ElfValue, SegmentValue}
use Rattle.mips_list.specs.WordText.{word_text}

-- the line of a word at an address
unfoldable pub line_text : ℕ → ℕ → List ℕ
line_text address word = line (hex_text 8 address ∷ hex_text 8 word ∷ word_text word address ∷ [])

-- how many bytes stand before the first address that is a multiple of 4
abbrev pub lead : ℕ → ℕ
lead vaddr = (4 - vaddr % 4) % 4

-- how many whole words the file's bytes of a segment have from there on
abbrev pub word_count : SegmentValue → ℕ
word_count segment = (length segment.bytes - lead segment.vaddr) / 4

-- the line of a segment's word at a place of its bytes
abbrev pub line_at : SegmentValue → ℕ → List ℕ
line_at segment place = line_text (segment.vaddr + place) (word_at segment.bytes place)

-- the line of the word that so many words stand before
abbrev pub word_line : SegmentValue → ℕ → List ℕ
word_line segment k = line_at segment (lead segment.vaddr + 4 * k)

-- the lines of a segment's words in order
abbrev pub word_lines : SegmentValue → List ℕ
word_lines segment = flat_map (word_line segment) (range_with_len 0 (word_count segment))

-- the lines of a segment: none where stores into it are allowed
abbrev pub segment_lines : SegmentValue → List ℕ
segment_lines segment = if segment.writable then [] else word_lines segment

-- the lines of a program's segments in order
unfoldable pub listed : ElfValue → List ℕ
listed elf = flat_map segment_lines elf.segments

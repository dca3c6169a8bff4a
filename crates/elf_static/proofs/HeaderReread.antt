-- A program header that was written is read as its part.
use Rattle.std.proofs.Common.{◌≡◌, ◌≤◌, ◌<◌, ◌^◌, ◌/◌, ◌%◌, ℕ, ◌+◌, ◌-◌, Bool, true, false, List, [], ◌∷◌, ◌++◌, Option, None, Some, length, take, drop, inl, inr, refl, ap, sym, ◌∙◌, arith}
use Rattle.std.specs.Prelude.{◌==◌, if◌then◌else◌}
use Rattle.std.specs.List.{list_any}
use Rattle.std.proofs.lemmas.Bool.{cases_eq}
use Rattle.std.proofs.lemmas.List.{take_at, drop_at, drop-drop}
use Rattle.std.proofs.lemmas.List.Folds.{list_any_none}
use Rattle.byteorder.specs.Endian.{little_number}
use Rattle.byteorder.specs.Numbers.{little_number-reads_back}
use Rattle.byte_numbers.specs.Numbers.{word_at}
use Rattle.elf_static.specs.ObjectValue.{PartValue}
use Rattle.elf_static.specs.Layout.{words, flags, program_header}
use Rattle.elf_static.specs.Writable.{IsInRange}
use Rattle.elf_static.specs.ElfValue.{SegmentValue, type_in, offset_in, vaddr_in, filesz_in, memsz_in, is_writable_in, kept_at, segment_at}
use Rattle.elf_static.specs.ElfFaults.{is_in_range, meets, header_fault}
use Rattle.elf_static.specs.Loaded.{has_bytes, segment_of}

-- what stands behind a text
pub behind : (file : List ℕ) (i : ℕ) (text rest : List ℕ) (j : ℕ) → drop i file ≡ text ++ rest → i + length text ≡ j → drop j file ≡ rest
behind file i text rest j stands ends =
    ap (λ (k : ℕ). drop k file) (sym ends) ∙ sym (drop-drop (length text) i file) ∙ ap (drop (length text)) stands ∙ drop_at text rest (length text) refl

-- a word of a text that stands in the file
word_of : (file : List ℕ) (i k : ℕ) (text : List ℕ) → drop i file ≡ text → word_at file (i + k) ≡ little_number 4 (drop k text)
unfolding word_at
word_of file i k text stands = ap (little_number 4) (sym (drop-drop k i file) ∙ ap (drop k) stands)

-- the fields of a written header
record Fields (file : List ℕ) (header offset : ℕ) (part : PartValue) : Type 0 where
  pub kind : type_in file header ≡ 1
  pub place : offset_in file header ≡ offset
  pub filesz : filesz_in file header ≡ length part.bytes
  pub memsz : memsz_in file header ≡ length part.bytes
  pub vaddr : part.vaddr < 2 ^ 32 → vaddr_in file header ≡ part.vaddr
  pub writable : is_writable_in file header ≡ part.writable

flags_read : (writable : Bool) (rest : List ℕ) → (little_number 4 (words (flags writable ∷ []) ++ rest) / 2 % 2 == 1) ≡ writable
unfolding words
flags_read true rest = refl
flags_read false rest = refl

fields_read : (file : List ℕ) (header offset : ℕ) (part : PartValue) (rest : List ℕ) → drop header file ≡ program_header offset part ++ rest
    → offset < 2 ^ 32 → length part.bytes < 2 ^ 32 → Fields file header offset part
unfolding program_header words word_at
fields_read file header offset part rest stands small few =
    let text = program_header offset part ++ rest in
    record {
      kind = ap (little_number 4) stands;
      place = word_of file header 4 text stands ∙ little_number-reads_back 4 offset (drop 8 text) small;
      filesz = word_of file header 16 text stands ∙ little_number-reads_back 4 (length part.bytes) (drop 20 text) few;
      memsz = word_of file header 20 text stands ∙ little_number-reads_back 4 (length part.bytes) (drop 24 text) few;
      vaddr = λ fits. word_of file header 8 text stands ∙ little_number-reads_back 4 part.vaddr (drop 12 text) fits;
      writable = ap (λ (word : ℕ). word / 2 % 2 == 1) (word_of file header 24 text stands) ∙ flags_read part.writable (drop 28 text);
    }

-- the segment of a part, where it has bytes
abbrev pub segment_in : PartValue → Option SegmentValue
segment_in part = if has_bytes part then Some (segment_of part) else None

-- a written header has no fault, and its segment is that of the part, if that has bytes
pub record Reads (file : List ℕ) (earlier : List SegmentValue) (header : ℕ) (part : PartValue) : Type 0 where
  pub none : header_fault file earlier header ≡ None
  pub one : kept_at file header ≡ segment_in part

empty_reads : (file : List ℕ) (earlier : List SegmentValue) (header offset : ℕ) (part : PartValue) → Fields file header offset part → offset ≤ length file → length part.bytes ≡ 0
    → Reads file earlier header part
unfolding header_fault segment_at
empty_reads file earlier header offset part fields within empty =
    let range : is_in_range file header ≡ true = grind (arith, fields.filesz, fields.place, fields.memsz, empty, within) in
    let apart : list_any (meets (segment_at file header)) earlier ≡ false = list_any_none (meets (segment_at file header)) earlier (λ k d in_list. grind (arith, fields.memsz, empty)) in
    record { none = grind (arith, fields.kind, range, apart); one = grind (arith, fields.kind, fields.memsz, empty) }

segment_again : (file : List ℕ) (header offset : ℕ) (part : PartValue) (rest : List ℕ) → Fields file header offset part → part.vaddr < 2 ^ 32 → drop offset file ≡ part.bytes ++ rest
    → segment_at file header ≡ segment_of part
unfolding segment_at
segment_again file header offset part rest fields small bytes =
    let body : take (filesz_in file header) (drop (offset_in file header) file) ≡ part.bytes
    = rw (fields.filesz, fields.place, bytes) (take_at part.bytes rest (length part.bytes) refl) in
    let vaddr = fields.vaddr small in
    λ i. record { vaddr = vaddr i; bytes = body i; memsz = fields.memsz i; writable = fields.writable i }

full_reads : (file : List ℕ) (earlier : List SegmentValue) (header offset : ℕ) (part : PartValue) (rest : List ℕ) → Fields file header offset part
    → drop offset file ≡ part.bytes ++ rest → offset + length part.bytes ≤ length file → IsInRange part → 0 < length part.bytes → list_any (meets (segment_of part)) earlier ≡ false
    → Reads file earlier header part
unfolding header_fault
full_reads file earlier header offset part rest fields bytes within ranged filled apart =
    let first = ranged part.vaddr (omega arith, omega (arith, filled)) in
    let last = ranged (part.vaddr + (length part.bytes - 1)) (omega arith, omega (arith, filled)) in
    let segment = segment_again file header offset part rest fields (omega (arith, last.1)) bytes in
    let vaddr : vaddr_in file header ≡ part.vaddr = fields.vaddr (omega (arith, last.1)) in
    let range : is_in_range file header ≡ true = grind (arith, fields.filesz, fields.place, fields.memsz, vaddr, first.0, last.1, filled, within) in
    let meeting : list_any (meets (segment_at file header)) earlier ≡ false = ap (λ (s : SegmentValue). list_any (meets s) earlier) segment ∙ apart in
    record { none = grind (arith, fields.kind, range, meeting); one = grind (arith, fields.kind, fields.memsz, filled, segment) }

pub header_reads : (file : List ℕ) (earlier : List SegmentValue) (header offset : ℕ) (part : PartValue) (others rest : List ℕ)
    → drop header file ≡ program_header offset part ++ others → drop offset file ≡ part.bytes ++ rest → offset + length part.bytes ≤ length file → length file < 2 ^ 32
    → IsInRange part → list_any (meets (segment_of part)) earlier ≡ false → Reads file earlier header part
header_reads file earlier header offset part others rest stands bytes within small ranged apart =
    let fields = fields_read file header offset part others stands (omega (arith, within, small)) (omega (arith, within, small)) in
    elim (cases_eq (length part.bytes) 0) [
      | inl empty ↦ empty_reads file earlier header offset part fields (omega (arith, within)) empty
      | inr full ↦ full_reads file earlier header offset part rest fields bytes within ranged (omega (arith, full)) apart
    ]

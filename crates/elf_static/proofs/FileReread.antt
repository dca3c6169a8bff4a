-- A file header that was written has no fault, and is read as it was.
use Rattle.std.proofs.Common.{◌≡◌, ◌≤◌, ◌<◌, ◌^◌, ℕ, ◌+◌, ◌*◌, false, List, ◌++◌, None, length, drop, refl, arith}
use Rattle.std.specs.Prelude.{◌||◌, ◌==◌, nat_lt}
use Rattle.byteorder.specs.Numbers.{little_number-reads_back}
use Rattle.byte_numbers.specs.Numbers.{half_at, word_at}
use Rattle.elf_static.specs.ObjectValue.{ObjectValue}
use Rattle.elf_static.specs.Layout.{halves, words, identification, file_header}
use Rattle.elf_static.specs.ElfValue.{entry_in, first_header, header_count_in}
use Rattle.elf_static.specs.ElfFaults.{kind_fault, place_fault}

pub record FileHeader (file : List ℕ) (object : ObjectValue) : Type 0 where
  pub kind : kind_fault file ≡ None
  pub place : place_fault file ≡ None
  pub entry : entry_in file ≡ object.entry
  pub first : first_header file ≡ 52
  pub count : header_count_in file ≡ length object.parts

pub file_header_read : (object : ObjectValue) (rest : List ℕ) → object.entry < 2 ^ 32 → 1 ≤ length object.parts → length object.parts ≤ 64
    → 52 + 32 * length object.parts ≤ length (file_header object ++ rest) → FileHeader (file_header object ++ rest) object
unfolding kind_fault place_fault half_at word_at halves words identification file_header
file_header_read object rest small least most within =
    let file = file_header object ++ rest in
    let count : header_count_in file ≡ length object.parts = little_number-reads_back 2 (length object.parts) (drop 46 file) (omega (arith, most)) in
    let long : nat_lt (length file) 52 ≡ false = grind arith in
    let some : ((header_count_in file == 0) || nat_lt 64 (header_count_in file)) ≡ false = rw count (grind (arith, least, most)) in
    let whole : nat_lt (length file) (52 + 32 * header_count_in file) ≡ false = rw count (grind (arith, within)) in
    record {
      kind = rw long refl;
      place = rw (some, whole) refl;
      entry = little_number-reads_back 4 object.entry (drop 28 file) small;
      first = refl;
      count = count;
    }

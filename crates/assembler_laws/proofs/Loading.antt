-- The segments of a written program are its parts that have bytes, and the others say nothing.
use Rattle.std.proofs.Common.{◌≡◌, ◌≤◌, ℕ, ◌+◌, ◌*◌, Bool, true, false, List, [], ◌∷◌, length, map, refl, sym, ◌∙◌, ap, arith}
use Rattle.std.specs.Prelude.{◌==◌, ◌&&◌, ◌||◌, not, nat_lt, nat_le, min, max, fold, if◌then◌else◌, ◌-◌, Ok}
use Rattle.std.specs.List.{filter, list_any}
use Rattle.std.proofs.lemmas.Bool.{and_left, eqb-true}
use Rattle.elf_static.specs.ObjectValue.{ObjectValue, PartValue}
use Rattle.elf_static.specs.Layout.{elf_text}
use Rattle.elf_static.specs.ElfValue.{SegmentValue, elf_of}
use Rattle.elf_static.specs.Loaded.{has_bytes, segment_of, loaded}
use Rattle.elf_static.proofs.PartsReread.{reread}
use Rattle.mips_asm.specs.Assembled.{assembled}
use Rattle.mips_asm.proofs.WritableLemmas.{assembled_writable}
use Rattle.segment_pages.specs.Pages.{numbers_from, touches, has_page, is_writable, byte_over, bytes_from, page_bytes}
use Rattle.assembler_laws.specs.Memory.{has_memory, is_open, part_over, memory_from, memory_page}

-- what is read of the file of an assembled program
pub reread_is : (source : List ℕ) (object : ObjectValue) → assembled source ≡ Ok object → elf_of (elf_text object) ≡ loaded object
reread_is source object is = (reread object (assembled_writable source object is)).1

-- a part without bytes has none in a page, and none at an address
empty_is_nowhere : (vpn vaddr size : ℕ) → size ≡ 0 → nat_lt (max vaddr (4096 * vpn)) (min (vaddr + size) (4096 * (vpn + 1))) ≡ false
empty_is_nowhere vpn vaddr size none = let below : min (vaddr + size) (4096 * (vpn + 1)) ≤ max vaddr (4096 * vpn) = omega (arith, none) in grind (arith, below)

empty_covers_nothing : (address vaddr size : ℕ) → size ≡ 0 → (nat_le vaddr address && nat_lt address (vaddr + size)) ≡ false
empty_covers_nothing address vaddr size none = grind (arith, none)

-- a test that fails of each part without bytes
any_loaded : (test : SegmentValue → Bool) (parts : List PartValue) → ((part : PartValue) → length part.bytes ≡ 0 → test (segment_of part) ≡ false)
    → list_any test (map segment_of (filter has_bytes parts)) ≡ list_any (λ part. test (segment_of part)) parts
any_loaded test [] fails = refl
any_loaded test (part ∷ parts) fails = by_size (any_loaded test parts fails) (length part.bytes == 0) refl
  where
    by_size : list_any test (map segment_of (filter has_bytes parts)) ≡ list_any (λ (p : PartValue). test (segment_of p)) parts → (none : Bool) → (length part.bytes == 0) ≡ none
        → list_any test (map segment_of (if not none then part ∷ filter has_bytes parts else filter has_bytes parts)) ≡ (test (segment_of part) || list_any (λ (p : PartValue). test (segment_of p)) parts)
    by_size rest true is = rest ∙ sym (ap (λ (found : Bool). found || list_any (λ (p : PartValue). test (segment_of p)) parts) (fails part (eqb-true (length part.bytes) 0 is)))
    by_size rest false is = ap (λ (found : Bool). test (segment_of part) || found) rest

-- the byte at an address
byte_loaded : (address byte : ℕ) (parts : List PartValue) → fold (byte_over address) byte (map segment_of (filter has_bytes parts)) ≡ fold (part_over address) byte parts
byte_loaded address byte [] = refl
byte_loaded address byte (part ∷ parts) = by_size (λ b. byte_loaded address b parts) (length part.bytes == 0) refl
  where
    same : length part.bytes ≡ 0 → part_over address byte part ≡ byte
    same none = rw (empty_covers_nothing address part.vaddr (length part.bytes) none) refl

    by_size : ((b : ℕ) → fold (byte_over address) b (map segment_of (filter has_bytes parts)) ≡ fold (part_over address) b parts) → (none : Bool) → (length part.bytes == 0) ≡ none
        → fold (byte_over address) byte (map segment_of (if not none then part ∷ filter has_bytes parts else filter has_bytes parts)) ≡ fold (part_over address) (part_over address byte part) parts
    by_size rest true is = rest byte ∙ ap (λ (b : ℕ). fold (part_over address) b parts) (sym (same (eqb-true (length part.bytes) 0 is)))
    by_size rest false is = rest (part_over address byte part)

pub pages_are : (object : ObjectValue) (vpn : ℕ) → has_page (loaded object) vpn ≡ has_memory object.parts vpn
pages_are object vpn = any_loaded (touches vpn) object.parts (λ part none. empty_is_nowhere vpn part.vaddr (length part.bytes) none)

pub stores_are : (object : ObjectValue) (vpn : ℕ) → is_writable (loaded object) vpn ≡ is_open object.parts vpn
stores_are object vpn =
    any_loaded (λ segment. touches vpn segment && segment.writable) object.parts
    (λ part none. and_left (touches vpn (segment_of part)) part.writable (empty_is_nowhere vpn part.vaddr (length part.bytes) none))

bytes_from_are : (object : ObjectValue) (address count : ℕ) → bytes_from (loaded object) address count ≡ memory_from object.parts address count
unfolding bytes_from memory_from
bytes_from_are object address count = λ i. map (λ (a : ℕ). byte_loaded a 0 object.parts i) (numbers_from address count)

pub bytes_are : (object : ObjectValue) (vpn : ℕ) → page_bytes (loaded object) vpn ≡ memory_page object.parts vpn
unfolding page_bytes memory_page
bytes_are object vpn = bytes_from_are object (4096 * vpn) 4096

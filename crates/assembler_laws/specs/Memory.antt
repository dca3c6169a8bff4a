-- The memory that the parts of a program say.
use Rattle.std.specs.Prelude.{ℕ, ◌+◌, ◌-◌, ◌*◌, nat_lt, nat_le, min, max, Bool, ◌&&◌, List, length, map, fold, slice_index, if◌then◌else◌}
use Rattle.std.specs.List.{list_any}
use Rattle.aegis_limits.specs.Limits.{page_size}
use Rattle.elf_static.specs.ObjectValue.{PartValue}
use Rattle.segment_pages.specs.Pages.{numbers_from}

-- whether a part has a byte in the page of this number: the later start lies before the earlier end
abbrev pub is_in : ℕ → PartValue → Bool
is_in vpn part =
    nat_lt (max part.vaddr (page_size * vpn)) (min (part.vaddr + length part.bytes) (page_size * (vpn + 1)))

-- whether some part has
abbrev pub has_memory : List PartValue → ℕ → Bool
has_memory parts vpn = list_any (is_in vpn) parts

-- whether such a part is writable
abbrev pub is_open : List PartValue → ℕ → Bool
is_open parts vpn = list_any (λ part. is_in vpn part && part.writable) parts

-- the byte of a part at an address, or else this one
abbrev pub part_over : ℕ → ℕ → PartValue → ℕ
part_over address byte part =
    if nat_le part.vaddr address && nat_lt address (part.vaddr + length part.bytes)
    then slice_index part.bytes (address - part.vaddr) else byte

-- the byte at an address: a part's, and else 0
abbrev pub memory_at : List PartValue → ℕ → ℕ
memory_at parts address = fold (part_over address) 0 parts

-- the bytes at so many addresses from one on
unfoldable pub memory_from : List PartValue → ℕ → ℕ → List ℕ
memory_from parts address count = map (memory_at parts) (numbers_from address count)

-- the bytes of a page
unfoldable pub memory_page : List PartValue → ℕ → List ℕ
memory_page parts vpn = memory_from parts (page_size * vpn) page_size

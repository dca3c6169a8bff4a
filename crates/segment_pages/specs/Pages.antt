-- The pages that a program's segments fill.
use Rattle.std.specs.Prelude.{ℕ, zero, suc, ◌+◌, ◌-◌, ◌*◌, nat_lt, nat_le, min, max, Bool, ◌&&◌, List, [], ◌∷◌, length, map, fold, slice_index, if◌then◌else◌}
use Rattle.std.specs.List.{filter, list_any}
use Rattle.aegis_limits.specs.Limits.{page_size, vpn_end}
use Rattle.elf_static.specs.ElfValue.{ElfValue, SegmentValue}

-- a number and those after it, so many
abbrev pub numbers_from : ℕ → ℕ → List ℕ
numbers_from n zero = []
numbers_from n (suc count) = n ∷ numbers_from (n + 1) count

-- whether the segment has a byte in the page of this VPN: the later start lies before the earlier end
abbrev pub touches : ℕ → SegmentValue → Bool
touches vpn segment =
    nat_lt (max segment.vaddr (page_size * vpn)) (min (segment.vaddr + segment.memsz) (page_size * (vpn + 1)))

-- whether a program has a byte in the page
abbrev pub has_page : ElfValue → ℕ → Bool
has_page program vpn = list_any (touches vpn) program.segments

-- the numbers of a program's pages from a number on, rising
unfoldable pub pages_from : ElfValue → ℕ → List ℕ
pages_from program first = filter (has_page program) (numbers_from first (vpn_end - first))

-- the numbers of a program's pages, rising
abbrev pub vpns : ElfValue → List ℕ
vpns program = pages_from program 0

-- whether stores into the page are allowed: into a segment that has a byte in it they are
abbrev pub is_writable : ElfValue → ℕ → Bool
is_writable program vpn = list_any (λ segment. touches vpn segment && segment.writable) program.segments

-- the byte that a segment's file has for an address, or else this one
abbrev pub byte_over : ℕ → ℕ → SegmentValue → ℕ
byte_over address byte segment =
    if nat_le segment.vaddr address && nat_lt address (segment.vaddr + length segment.bytes)
    then slice_index segment.bytes (address - segment.vaddr) else byte

-- the byte at an address: what the file has for it in a segment, and else 0
abbrev pub byte_at : ElfValue → ℕ → ℕ
byte_at program address = fold (byte_over address) 0 program.segments

-- the bytes at so many addresses from one on
unfoldable pub bytes_from : ElfValue → ℕ → ℕ → List ℕ
bytes_from program address count = map (byte_at program) (numbers_from address count)

-- the bytes of a page
unfoldable pub page_bytes : ElfValue → ℕ → List ℕ
page_bytes program vpn = bytes_from program (page_size * vpn) page_size

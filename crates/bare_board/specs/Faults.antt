-- What is wrong with a flat file.
use Rattle.std.specs.Prelude.{ℕ, nat_lt, ◌==◌, if◌then◌else◌, ◌*◌, List, length, Option, Some, None, codes}
use Rattle.aegis_limits.specs.Limits.{page_size}
use Rattle.bare_board.specs.declared.fault.BareFault.{BareFault}
use Rattle.bare_board.specs.declared.fault.BareFault.TheVariants.{Empty, TooBig}
use Rattle.bare_board.specs.Loading.{bare_pages}

-- a file has at most so many bytes: those of physical memory
abbrev pub ram_size : ℕ
ram_size = bare_pages * page_size

-- a file has a byte, and no more than memory has
abbrev pub bare_fault : List ℕ → Option BareFault
bare_fault file =
    if length file == 0 then Some Empty else if nat_lt ram_size (length file) then Some TooBig else None

-- the printed name of a fault
abbrev pub bare_fault_name : BareFault → List ℕ
bare_fault_name Empty = codes "Empty"
bare_fault_name TooBig = codes "TooBig"

-- and its place in the file: the first byte that may not be there, or that is missing
abbrev pub bare_fault_place : BareFault → ℕ
bare_fault_place Empty = 0
bare_fault_place TooBig = ram_size

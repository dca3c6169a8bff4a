-- What a written program is read as.
use Rattle.std.specs.Prelude.{Bool, not, ◌==◌, map, length}
use Rattle.std.specs.List.{filter}
use Rattle.elf_static.specs.ObjectValue.{PartValue, ObjectValue}
use Rattle.elf_static.specs.ElfValue.{SegmentValue, ElfValue}

-- whether a part has bytes
abbrev pub has_bytes : PartValue → Bool
has_bytes part = not (length part.bytes == 0)

-- the segment of a part, whose bytes all stand in the file
abbrev pub segment_of : PartValue → SegmentValue
segment_of part = record { vaddr = part.vaddr; bytes = part.bytes; memsz = length part.bytes; writable = part.writable }

-- the entry, and the parts that have bytes
abbrev pub loaded : ObjectValue → ElfValue
loaded object = record { entry = object.entry; segments = map segment_of (filter has_bytes object.parts) }

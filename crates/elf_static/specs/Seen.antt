-- What a program of the code shows.
use Rattle.std.specs.Prelude.{List, map}
use Rattle.elf_static.specs.declared.object.Object.{Object}
use Rattle.elf_static.specs.declared.object.Part.{Part}
use Rattle.elf_static.specs.ObjectValue.{ObjectValue, PartValue}

-- a part as plain data
abbrev pub part_seen : Part → PartValue
part_seen part = record { vaddr = part.vaddr; bytes = part.bytes.items; writable = part.writable }

-- parts as plain data
abbrev pub parts_seen : List Part → List PartValue
parts_seen parts = map part_seen parts

-- a program as plain data
abbrev pub object_seen : Object → ObjectValue
object_seen object = record { entry = object.entry; parts = parts_seen object.parts.items }

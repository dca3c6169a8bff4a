-- What a segment of the code shows.
use Rattle.std.specs.Prelude.{List, map, Option, option_map}
use Rattle.elf_static.specs.declared.segment.Segment.{Segment}
use Rattle.elf_static.specs.ElfValue.{SegmentValue}

-- a segment as plain data
abbrev pub segment_seen : Segment → SegmentValue
segment_seen segment = record {
  vaddr = segment.vaddr;
  bytes = segment.bytes.now;
  memsz = segment.memsz;
  writable = segment.writable;
}

-- the segment that is kept, if one is
abbrev pub kept_seen : Option Segment → Option SegmentValue
kept_seen kept = option_map segment_seen kept

-- segments as plain data
abbrev pub segments_seen : List Segment → List SegmentValue
segments_seen segments = map segment_seen segments

use Rattle.std.proofs.Common.{◌≡◌, ◌++◌, drop}
use Rattle.std.specs.List.{AllByRecursion, flat_map}
use Rattle.elf_static.specs.AcceptedElf.{IsSegment}
use Rattle.elf_static.specs.SegmentSeen.{segments_seen}
use Rattle.mips_list.specs.Listed.{segment_lines}
use Rattle.mips_list.proofs.listing.push_segments.Given as goal

-- the lines so far and those to come are all of them
abbrev pub invariant-loop-segment : goal.invariant-loop-segment
invariant-loop-segment l =
    (l.out.items ++ flat_map segment_lines (segments_seen (drop l.segment-index l.segments)) ≡ l.fn.out.items ++ flat_map segment_lines (segments_seen l.segments))
    × AllByRecursion IsSegment (segments_seen (drop l.segment-index l.segments))

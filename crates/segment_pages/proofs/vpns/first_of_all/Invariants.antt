-- So far the least is the first page of the segments so far.
use Rattle.std.proofs.Common.{take}
use Rattle.elf_static.specs.SegmentSeen.{segments_seen}
use Rattle.segment_pages.specs.FirstPage.{IsFirstPage}
use Rattle.segment_pages.proofs.vpns.first_of_all.Given as goal

abbrev pub invariant-loop-segment : goal.invariant-loop-segment
invariant-loop-segment l = IsFirstPage l.first (take l.segment-index (segments_seen l.segments)) l.least

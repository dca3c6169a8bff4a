-- The first page of the segments so far and the next is the lesser of the two.
use Rattle.segment_pages.proofs.FirstPages.{first_of_more, segment_within}
use Rattle.segment_pages.proofs.vpns.first_of_all.Goals as goal

pub first_of-requires : goal.first_of-requires
first_of-requires c = segment_within c.args.segments.now c.loop-segment.segment-index _ c.requires c.loop-segment-test.true

pub loop-segment-preserved : goal.loop-segment-preserved
loop-segment-preserved c = rw c.lesser-least.ensures
    (first_of_more c.args.first c.args.segments.now c.loop-segment.segment-index _ c.loop-segment.least c.first_of.result c.loop-segment-test.true c.loop-segment.invariant c.first_of.ensures)

-- Each segment puts what its file has over what stood there before.
use Rattle.std.proofs.Common.{◌∙◌}
use Rattle.std.proofs.lemmas.List.{get_or-replicate}
use Rattle.aegis_limits.specs.Limits.{page_size}
use Rattle.segment_pages.proofs.PageBytes.{over_more}
use Rattle.segment_pages.proofs.bytes.fill_from.Goals as goal

pub loop-segment-init : goal.loop-segment-init
loop-segment-init c k below = get_or-replicate page_size k 0 0 below

pub loop-segment-preserved : goal.loop-segment-preserved
loop-segment-preserved c k below = c.put_part.ensures k below ∙ over_more _ _ c.args.segments.now c.loop-segment.segment-index _ c.loop-segment-test.true (c.loop-segment.invariant k below)

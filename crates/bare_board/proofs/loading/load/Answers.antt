use Rattle.bare_board.proofs.Filling.{all_loaded, none_loaded, one_page_more}
use Rattle.bare_board.proofs.loading.load.Goals as goal

pub loop-n-init : goal.loop-n-init
loop-n-init c = rw c.in_ok-frames.ensures (none_loaded c.args.file.now)

pub loop-n-preserved : goal.loop-n-preserved
loop-n-preserved c = rw c.put.ensures (one_page_more c.args.file.now c.page_part.result.now c.loop-n.n c.loop-n.frames c.loop-n-test.true c.loop-n.invariant c.page_part.ensures.part)

pub returns-clause-loaded : goal.returns-clause-loaded
returns-clause-loaded c = all_loaded c.args.file.now c.loop-n.n c.loop-n.frames c.loop-n-test.false c.loop-n.invariant

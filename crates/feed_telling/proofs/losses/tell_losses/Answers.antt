-- What is lost of one page more is told.
use Rattle.std.proofs.Common.{add-one}
use Rattle.feed_telling.proofs.Telling.{told_both}
use Rattle.feed_telling.proofs.losses.tell_losses.Goals as goal

pub loop-page-preserved : goal.loop-page-preserved
loop-page-preserved g c = rw add-one (told_both _ _ _ _ _ c.loop-page.invariant c.in_ok-tell_page_of_dead.ensures)

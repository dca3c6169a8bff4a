-- The losses of the pages so far are told.
use Rattle.world_model.specs.Death.{lost_with}
use Rattle.feed_telling.specs.Tell.{AreTold}
use Rattle.feed_telling.proofs.losses.tell_losses.Given as goal

abbrev pub invariant-loop-page : goal.invariant-loop-page
invariant-loop-page g l = AreTold l.fn.log l.log (lost_with (g.V.FeedView.world l.view).book l.gone l.watched l.page)

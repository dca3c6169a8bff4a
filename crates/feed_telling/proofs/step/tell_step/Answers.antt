-- The step is told, and then what its act gives.
use Rattle.std.proofs.Common.{sym}
use Rattle.feed_telling.proofs.Telling.{on_ok, told_as, told_both}
use Rattle.feed_telling.proofs.Acting.{step_items}
use Rattle.feed_telling.proofs.step.tell_step.Goals as goal

pub returns : goal.returns
returns g c =
    let w = g.V.FeedView.world c.args.view.now in
    on_ok c.tell_act.result (λ told. told_as _ _ _ _ (sym (step_items w c.args.runner c.args.watched c.requires.runs)) (told_both _ _ _ _ _ c.in_ok-tell_own_step.ensures told)) c.tell_act.ensures

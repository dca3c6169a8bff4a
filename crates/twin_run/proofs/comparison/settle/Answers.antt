use Rattle.twin_run.proofs.Presence.{below_count}
use Rattle.twin_run.proofs.comparison.settle.Goals as goal

pub env_lines-requires : goal.env_lines-requires
env_lines-requires g c =
    let p = g.R.ToldRun.progress c.args.left.now in
    below_count p.system c.args.env p.ticks (g.R.View.WorldView.world c.view.result.now) c.view.ensures c.requires.there

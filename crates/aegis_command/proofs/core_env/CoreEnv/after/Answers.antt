-- The core is that of the world of the run.
use Rattle.std.proofs.Common.{IfOk, ap, subst}
use Rattle.commands.specs.Due.{Due}
use Rattle.commands.specs.Work.{Settles}
use Rattle.world_model.specs.World.{World}
use Rattle.aegis_command.specs.CoreEnv.{core_due}
use Rattle.aegis_command.proofs.core_env.CoreEnv.after.Goals as goal

pub returns : goal.returns
returns c =
    subst (λ (d : Due). IfOk c.core_of.result (Settles d))
    (ap (λ (w : World). core_due c.args.self.now.names.image.now w c.args.self.now.env) c.in_ok-run.ensures.world) c.core_of.ensures

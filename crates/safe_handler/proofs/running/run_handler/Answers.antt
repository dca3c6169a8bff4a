use Rattle.std.proofs.Common.{rules}
use Rattle.safe_handler.proofs.Runs.{run_rest}
use Rattle.safe_handler.proofs.running.run_handler.Goals as goal

pub loop-preserved : goal.loop-preserved
loop-preserved c = search (rules, run_rest)

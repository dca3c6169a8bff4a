use Rattle.std.proofs.Common.{arith}
use Rattle.run_report.proofs.Rooms.{listed_more}
use Rattle.run_report.proofs.room.room.Goals as goal

pub loop-env-preserved : goal.loop-env-preserved
loop-env-preserved g c = grind (arith, listed_more)

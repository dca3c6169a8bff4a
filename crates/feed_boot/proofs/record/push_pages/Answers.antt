use Rattle.std.proofs.Common.{arith}
use Rattle.std.proofs.lemmas.Grind.{common_steps}
use Rattle.std.proofs.lemmas.Option.{gets}
use Rattle.feed_boot.proofs.record.push_pages.Goals as goal

pub loop-place-preserved : goal.loop-place-preserved
loop-place-preserved g c = grind (arith, common_steps, gets)

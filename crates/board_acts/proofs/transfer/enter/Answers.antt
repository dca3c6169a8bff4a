-- Whom the target accepts changes no count of environments.
use Rattle.std.proofs.Common.{arith}
use Rattle.board_model.specs.Doing.{with_mask}
use Rattle.board_model.proofs.Lists.{length-changed}
use Rattle.board_acts.proofs.transfer.enter.Goals as goal

pub keep-requires : goal.keep-requires
keep-requires c = rw c.enter-entered.ensures.roster (omega (arith, c.requires.caller, length-changed (with_mask 0) c.args.roster.now.list c.args.entry.target))

use Rattle.std.proofs.Common.{rules}
use Rattle.bare_board.proofs.Stretches.{next_is_multiple}
use Rattle.bare_board.proofs.board.ticks_before_due.Goals as goal

pub returns-else-is_due-clause-next : goal.returns-else-is_due-clause-next
returns-else-is_due-clause-next c = search (rules, next_is_multiple)

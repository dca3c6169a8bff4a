-- The page is the one that was lent, with what the step wrote.
use Rattle.std.proofs.Common.{rules}
use Rattle.safe_handler.proofs.Lending.{wrote_lent, wrote_page}
use Rattle.safe_handler.proofs.lent.step_machine.Goals as goal

pub returns-clause-page : goal.returns-clause-page
returns-clause-page c = search (rules, wrote_lent, wrote_page)

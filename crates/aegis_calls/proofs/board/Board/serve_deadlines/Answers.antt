-- Where no deadline has come nothing is done.
use Rattle.std.proofs.Common.{sym, ap, ◌∙◌}
use Rattle.revocation_book.specs.RevocationBook.{is_any_due}
use Rattle.board_model.specs.Shown.{Shown}
use Rattle.board_model.proofs.Repossessing.{nothing_due}
use Rattle.aegis_calls.proofs.board.Board.serve_deadlines.Goals as goal

pub returns-else-is_due : goal.returns-else-is_due
returns-else-is_due c =
    nothing_due c.args.self.now (ap (λ (s : Shown). is_any_due s.revocations s.time) (sym c.self.view_is) ∙ ap (is_any_due c.self.inside.revocations) (sym c.ticks.ensures.ticks) ∙ sym c.is_due.ensures ∙ c.if-is_due.false)

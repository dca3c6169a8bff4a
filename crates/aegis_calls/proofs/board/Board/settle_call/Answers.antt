-- What a granted call does it may do.
use Rattle.std.proofs.Common.{ap, sym, subst, ◌∙◌}
use Rattle.aegis_limits.specs.Limits.{environment_numbers}
use Rattle.revocation_book.specs.Richest.{AreRichest}
use Rattle.world_model.specs.Call.{deed_of}
use Rattle.world_model.specs.May.{May}
use Rattle.world_model.specs.PageCalls.{revocations}
use Rattle.board_model.specs.Showing.{world_of}
use Rattle.board_model.proofs.Reading.{runner_registers}
use Rattle.aegis_calls.proofs.board.Board.settle_call.Goals as goal

pub grant-requires-clause-may : goal.grant-requires-clause-may
grant-requires-clause-may c =
    let now = c.args.self.now in
    let e = c.args.env in
    let registers = runner_registers now e c.law_sound.ensures c.requires.runs in
    subst (May (world_of now) e) (sym (ap (deed_of c.args.call c.in-Grant.value) registers)) (c.law_granted.ensures (world_of now) e c.args.call c.in-Grant.value (sym c.decide.ensures ∙ c.in-Grant.is))

-- whom an allocation asks is one of the environments that there may be
pub press-requires-clause-number : goal.press-requires-clause-number
press-requires-clause-number c =
    let w = world_of c.args.self.now in
    let e = c.args.env in
    let may = c.law_again.ensures w e c.args.call c.in-Again.who (sym c.decide.ensures ∙ c.in-Again.is) in
    (subst (AreRichest (revocations w.book) e environment_numbers) may.richest (c.law_richest.ensures (revocations w.book) e)).below

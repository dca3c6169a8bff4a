-- Where no deadline has come nothing is taken.
use Rattle.std.proofs.Common.{◌≡◌, List, false, ap, subst, sym, ◌∙◌}
use Rattle.board_model.specs.Showing.{world_of}
use Rattle.revocation_book.specs.declared.revocation.Taking.{Taking}
use Rattle.revocation_book.specs.RevocationBook.{is_any_due}
use Rattle.world_model.specs.Deadlines.{settles}
use Rattle.world_model.specs.Tick.{serve_phases}
use Rattle.world_model.specs.World.{run_phases}
use Rattle.feed_run.specs.Phases.{PhasesTold}
use Rattle.feed_run.proofs.Joined.{nothing_told, one_told}
use Rattle.feed_run.proofs.Takable.{none_due}
use Rattle.feed_run.proofs.phases.tell_deadlines.Goals as goal

pub returns-clause-told : goal.returns-clause-told
returns-clause-told c =
    let e = c.args.watched in
    let b = c.args.board.now in
    let w = world_of b in
    let v = world_of c.serve.new.self in
    let log = c.args.log.now in
    let none_come : is_any_due b.revocations b.time ≡ false =
    (λ i. is_any_due (sym c.revocations.ensures i) (sym c.time.ensures i)) ∙ sym c.is_due.ensures ∙ c.if-is_due.false in
    let none = none_due b none_come in
    subst (λ (xs : List Taking). PhasesTold e (serve_phases xs) w v log log) (sym none)
    (one_told e settles w v log log (c.serve.ensures.world ∙ ap (λ (xs : List Taking). run_phases w (serve_phases xs)) none) (nothing_told log))

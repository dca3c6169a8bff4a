-- What enters the kernel by its word alone is done already; any other step is made on the board as it was.
use Rattle.std.proofs.Common.{◌∙◌, ap, rules}
use Rattle.std.specs.Prelude.{IsNone}
use Rattle.board_model.specs.Doing.{after_runner_step, step_seen}
use Rattle.board_model.specs.Refilling.{with_lookups}
use Rattle.board_model.specs.Shown.{Shown}
use Rattle.aegis_calls.proofs.board.Board.run_step.Goals as goal

pub returns-in-None : goal.returns-in-None
returns-in-None c =
    let e = c.args.env in
    let none : IsNone c.make_entry.result = search (rules, c.in-None.is) in
    c.make_step.ensures ∙ ap (λ (b : Shown). after_runner_step (with_lookups b e) e (step_seen b e)) (c.make_entry.ensures.other none)

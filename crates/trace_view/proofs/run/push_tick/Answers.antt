-- The line is that of the tick, from its middle to its end.
use Rattle.std.proofs.Common.{◌≡◌, ◌+◌, ◌++◌, ℕ, List, ◌∙◌, ap}
use Rattle.board_model.specs.Showing.{world_of}
use Rattle.run_model.specs.Run.{System, world_after}
use Rattle.aegis_tick.specs.Halves.{mid}
use Rattle.aegis_tick.specs.OnCourse.{system_of}
use Rattle.trace_view.proofs.Ticks.{line_is}
use Rattle.trace_view.proofs.run.push_tick.Goals as goal

pub returns-clause-text : goal.returns-clause-text
returns-clause-text c =
    let r = c.args.course.now in
    let system = system_of r in
    let begun = c.begin.new.self in
    let half = c.in_ok-push_half.ensures in
    let time = c.in_ok-begin.ensures.time in
    let middle : world_of begun.board ≡ mid system.schedule (world_after system r.board.time) =
    c.in_ok-begin.ensures.midway.world ∙ (λ i. let s : System = c.begin.ensures.system i in mid s.schedule (world_after s (time i))) in
    let after = half.on.board.world
    ∙ (λ i. world_after ((half.system ∙ c.begin.ensures.system) i) ((half.time ∙ ap (λ (t : ℕ). t + 1) time) i)) in
    half.text ∙ ap (λ (line : List ℕ). c.args.out.now.items ++ line) (line_is system c.args.env r.board.time _ _ middle after)

-- Nothing comes before the step: with the timer it is the tick.
use Rattle.std.proofs.Common.{sym, ap, ◌∙◌}
use Rattle.world_model.specs.Tick.{timer}
use Rattle.world_model.specs.World.{World}
use Rattle.run_model.specs.Run.{after_phase}
use Rattle.board_model.specs.Showing.{world_of}
use Rattle.aegis_tick.specs.Halves.{first_half, second_half}
use Rattle.aegis_tick.proofs.running.tick_entering.Goals as goal

pub returns-clause-world : goal.returns-clause-world
returns-clause-world c =
    c.timer.ensures.world
    ∙ ap (λ (w : World). after_phase timer w) c.enter.ensures.world
    ∙ ap (λ (w : World). second_half (first_half w)) c.in_ok-make_room.ensures.world
    ∙ sym (c.law_halves.ensures.tick (world_of c.args.board.now))

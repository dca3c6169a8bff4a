-- The step, and then the timer.
use Rattle.std.proofs.Common.{◌∷◌, []}
use Rattle.board_model.specs.Showing.{world_of}
use Rattle.world_model.specs.Tick.{step, timer}
use Rattle.feed_telling.proofs.Telling.{on_ok}
use Rattle.feed_run.proofs.Joined.{both_told}
use Rattle.feed_run.proofs.phases.tell_second_half.Goals as goal

pub returns-clause-told : goal.returns-clause-told
returns-clause-told c =
    on_ok c.tell_its_timer.result
    (λ timed. both_told c.args.watched (step ∷ []) (timer ∷ []) (world_of c.args.board.now) (world_of c.tell_its_step.new.board) (world_of c.tell_its_timer.new.board)
    c.args.log.now c.tell_its_step.new.log c.tell_its_timer.new.log c.in_ok-tell_its_step.ensures.told timed)
    c.tell_its_timer.ensures.told

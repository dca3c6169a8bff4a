-- The slots once the timer counted, and what it brought is settled.
use Rattle.std.proofs.Common.{ap, ◌∙◌}
use Rattle.world_model.specs.Book.{running}
use Rattle.board_model.specs.Shown.{Shown}
use Rattle.board_model.proofs.Sound.{timer_manned}
use Rattle.board_model.proofs.Staying.{sound_machine, sound_slots}
use Rattle.aegis_calls.proofs.board.Board.use_tick.Goals as goal

pub invariant_of-self : goal.invariant_of-self
invariant_of-self c =
    let b = c.self.inside in
    let runs = ap (λ (s : Shown). running s.slots.runner) c.self.view_is ∙ c.requires.runs in
    rw (c.settle.ensures.slots, c.timer-timer.ensures.after, c.timer-timer.ensures.answer)
    (sound_machine (sound_slots _ (timer_manned b.slots b.roster c.self.invariant.book c.args.env _ runs) c.self.invariant))

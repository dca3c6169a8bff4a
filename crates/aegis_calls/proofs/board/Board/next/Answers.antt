-- Whoever starts lives.
use Rattle.std.proofs.Common.{sym, ap, ◌∙◌, rules}
use Rattle.board_model.specs.Shown.{Shown}
use Rattle.board_model.proofs.Sound.{pay_manned, run_manned, turn_live}
use Rattle.board_model.proofs.Staying.{sound_machine, sound_slots}
use Rattle.aegis_calls.proofs.board.Board.next.Goals as goal

pub invariant_of-self : goal.invariant_of-self
invariant_of-self c = search (rules, sound_machine, sound_slots, pay_manned)

pub start-requires : goal.start-requires
start-requires c = (turn_live c.self.inside.slots c.self.inside.roster c.in-Run.turn c.self.invariant.book (ap (λ (b : Shown). b.roster.spare) c.self.view_is ∙ c.requires.whole) (sym c.next_turn-next.ensures.turn ∙ c.in-Run.is)).0

pub invariant_of-self-in-Run : goal.invariant_of-self-in-Run
invariant_of-self-in-Run c = search (rules, turn_live, sound_machine, sound_slots, run_manned)

-- The slots are released, and then the rest.
use Rattle.std.proofs.Common.{ap, ◌∙◌, rules}
use Rattle.world_model.specs.Book.{running}
use Rattle.board_model.specs.Shown.{Shown}
use Rattle.board_model.specs.Doing.{after_death}
use Rattle.board_model.proofs.Seen.{named}
use Rattle.board_model.proofs.Sound.{none_left, release_manned}
use Rattle.board_model.proofs.Staying.{sound_machine, sound_slots}
use Rattle.aegis_calls.proofs.Runner.{runner_live}
use Rattle.aegis_calls.proofs.board.Board.die.Goals as goal

pub release_slots-requires : goal.release_slots-requires
release_slots-requires c = search (rules, runner_live)

pub invariant_of-self : goal.invariant_of-self
invariant_of-self c =
    let b = c.self.inside in
    let runs = named c.args.env b.slots.runner (ap (λ (s : Shown). running s.slots.runner) c.self.view_is ∙ c.requires.runs) in
    rw c.release_slots.ensures.slots (sound_machine (sound_slots _ (release_manned b.slots b.roster c.args.env runs.its c.self.invariant.book) c.self.invariant))

pub bury-requires : goal.bury-requires
bury-requires c = record {
  there = (runner_live c.self.view_is c.self.invariant c.requires.runs).0;
  released = rw c.release_slots.ensures.slots (none_left c.self.inside.slots c.self.inside.roster c.args.env);
}

pub returns : goal.returns
returns c = rw (c.bury.ensures, c.release_slots.ensures.slots, c.release_slots.ensures.journal, c.ticks.ensures.ticks) (ap (λ (s : Shown). after_death s c.args.env c.args.cause) c.self.view_is)

-- Whoever is given the slice lives and has its context page, and kept registers change nobody's life or pages.
use Rattle.std.proofs.Common.{sym, subst}
use Rattle.std.specs.Prelude.{false}
use Rattle.board_model.specs.Doing.{with_registers}
use Rattle.board_model.specs.Shown.{Shown}
use Rattle.board_model.specs.Sound.{IsLiving}
use Rattle.board_model.proofs.Parted.{context_there}
use Rattle.board_model.proofs.Sound.{given_manned, keeps_registers}
use Rattle.board_model.proofs.Staying.{sound_env, sound_frames, sound_machine, sound_slots}
use Rattle.aegis_calls.proofs.board.Board.give.Goals as goal

pub start-self-inside-requires : goal.start-self-inside-requires
start-self-inside-requires c = rw c.frame.ensures.mappings (context_there _ _ _ c.self.invariant.memory c.args.target)

pub invariant_of-self : goal.invariant_of-self
invariant_of-self c =
    let b = c.self.inside in
    let live = subst (λ (s : Shown). IsLiving s.roster.list c.args.target) (sym c.self.view_is) c.requires.lives in
    rw (c.keep.ensures, c.donate.ensures)
    (sound_machine
    (sound_frames _ c.start-self-inside.ensures.size
    (sound_env (with_registers b.machine.cpu) (keeps_registers b.machine.cpu) c.args.env
    (sound_slots _ (given_manned b.slots b.roster c.args.target false c.self.invariant.book live) c.self.invariant))))

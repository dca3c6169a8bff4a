-- A burial leaves the others' lives and pages.
use Rattle.std.proofs.Common.{◌<◌, length, ap}
use Rattle.board_model.specs.Shown.{Shown}
use Rattle.board_model.specs.Sound.{HasNoPart}
use Rattle.board_model.proofs.Staying.{sound_burial}
use Rattle.aegis_calls.proofs.board.Board.bury.Goals as goal

pub invariant_of-self : goal.invariant_of-self
invariant_of-self c =
    let none : HasNoPart c.args.env c.self.inside.slots = rw (ap (λ (s : Shown). s.slots) c.self.view_is) c.requires.released in
    let there : c.args.env < length c.self.inside.roster.list = rw (ap (λ (s : Shown). s.roster) c.self.view_is) c.requires.there in
    rw (c.release_env.ensures, c.clear_env.ensures.after, c.drop_dead.ensures, c.clear.ensures, c.clear_env-2.ensures, c.forget.ensures, c.die.ensures) (sound_burial c.args.env c.args.cause there none c.self.invariant)

-- The bytes of a range are those that the runner sees.
use Rattle.std.proofs.Common.{ℕ, Option, ap, ◌∙◌, subst}
use Rattle.world_model.specs.Call.{good_range}
use Rattle.world_model.specs.Page.{Mapped}
use Rattle.board_model.specs.Shown.{Shown}
use Rattle.board_model.specs.Sound.{IsSoundBoard}
use Rattle.board_model.specs.Doing.{look_of}
use Rattle.board_model.proofs.Reading.{runner_look}
use Rattle.aegis_calls.proofs.views.BoardCallView.range.Goals as goal

pub returns : goal.returns
returns c =
    let e = c.args.env in
    let sees = ap (λ (s : Shown). look_of s e) c.self.view_is ∙ runner_look c.args.self.now e (subst IsSoundBoard c.self.view_is c.self.invariant) c.requires in
    rw (c.guest_range.ensures, c.space_in-space.ensures) (ap (λ (l : ℕ → Option Mapped). good_range l c.args.address c.args.size) sees)

-- Where the VPNs of an environment lead is what it sees there.
use Rattle.std.proofs.Common.{ap, ◌∙◌, subst}
use Rattle.board_model.specs.Doing.{look_of}
use Rattle.board_model.specs.Shown.{Shown}
use Rattle.board_model.specs.Sound.{IsSoundBoard}
use Rattle.board_model.proofs.Seen.{env_look}
use Rattle.aegis_calls.proofs.readers.BoardWorldView.sight.Goals as goal

pub returns : goal.returns
returns c =
    let e = c.args.env in
    let v = c.args.vpn in
    let sound = subst IsSoundBoard c.self.view_is c.self.invariant in
    rw (c.guest_page.ensures, c.space_in-space.ensures) (ap (λ (s : Shown). look_of s e v) c.self.view_is ∙ env_look c.args.self.now e v sound c.requires)

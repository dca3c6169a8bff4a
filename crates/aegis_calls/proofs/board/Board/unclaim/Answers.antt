-- The claims that are left go into pages of their environments' own.
use Rattle.filter_tree.specs.Claims.{is_claim}
use Rattle.board_model.proofs.Claiming.{withdrawn_claimed}
use Rattle.board_model.proofs.Staying.{sound_claims}
use Rattle.aegis_calls.proofs.board.Board.unclaim.Goals as goal

pub invariant_of-self : goal.invariant_of-self
invariant_of-self c =
    let b = c.self.inside in
    rw c.unclaim-stood.ensures.after (sound_claims _ (withdrawn_claimed (is_claim c.args.env c.args.claim) b.claims b.pages b.roster c.self.invariant.claims) c.self.invariant)

-- A packet goes where the claim sends it that is found.
use Rattle.std.proofs.Common.{ap, sym, ◌∙◌}
use Rattle.std.specs.Option.{option_map}
use Rattle.filter_tree.specs.Claims.{claim_for}
use Rattle.feed_board.proofs.Arrivals.{arrives_at, goes_to}
use Rattle.feed_board.proofs.arriving.arrival.Goals as goal

pub returns-in_err-claim : goal.returns-in_err-claim
returns-in_err-claim c =
    let found = sym c.in_err-claim.was ∙ c.claim_for.ensures ∙ ap (claim_for c.args.claims.now) c.of.ensures in
    rw c.from_residual.ensures (ap (option_map goes_to) found ∙ arrives_at c.args.claims.now c.args.packet.now)

pub returns : goal.returns
returns c =
    let found = sym c.in_ok-claim.was ∙ c.claim_for.ensures ∙ ap (claim_for c.args.claims.now) c.of.ensures in
    ap (option_map goes_to) found ∙ arrives_at c.args.claims.now c.args.packet.now

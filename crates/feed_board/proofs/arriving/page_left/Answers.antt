-- The claim's ring is there, and what is left of it is what the model says.
use Rattle.std.proofs.Common.{◌≡◌, true, ap, subst, sym, ◌∙◌}
use Rattle.filter_tree.specs.ClaimBook.{ClaimBook, are_numbered}
use Rattle.filter_tree.specs.Claims.{claim_for}
use Rattle.board_model.specs.Sound.{HasClaimNumbers}
use Rattle.board_model.proofs.Happening.{claim_there}
use Rattle.feed_board.proofs.Arrivals.{left_behind, left_by}
use Rattle.feed_board.proofs.arriving.page_left.Goals as goal

pub left_behind-requires : goal.left_behind-requires
left_behind-requires c =
    let b = c.args.board.now in
    let found = sym (c.claim_for.ensures ∙ ap (λ (book : ClaimBook). claim_for book c.of.result) c.claims-2.ensures ∙ ap (claim_for b.claims) c.of.ensures) ∙ c.in_ok-claim.was in
    rw c.frames.ensures (claim_there b c.args.packet.now c.in_ok-claim.claim c.law_sound.ensures found).1

pub returns-in_err-claim : goal.returns-in_err-claim
returns-in_err-claim c =
    let b = c.args.board.now in
    let found = sym c.in_err-claim.was ∙ c.claim_for.ensures ∙ ap (λ (book : ClaimBook). claim_for book c.of.result) c.claims-2.ensures ∙ ap (claim_for b.claims) c.of.ensures in
    let numbered : HasClaimNumbers b = subst (λ (book : ClaimBook). are_numbered 0 book.next book.rows ≡ true) c.claims.ensures c.law_numbers.ensures in
    rw c.from_residual.ensures (ap (left_by b c.args.packet.now) found ∙ left_behind c.law_numbered.ensures b c.args.packet.now c.law_sound.ensures numbered)

pub returns : goal.returns
returns c =
    let b = c.args.board.now in
    let found = sym c.in_ok-claim.was ∙ c.claim_for.ensures ∙ ap (λ (book : ClaimBook). claim_for book c.of.result) c.claims-2.ensures ∙ ap (claim_for b.claims) c.of.ensures in
    let numbered : HasClaimNumbers b = subst (λ (book : ClaimBook). are_numbered 0 book.next book.rows ≡ true) c.claims.ensures c.law_numbers.ensures in
    rw (c.left_behind.ensures, c.claims-3.ensures, c.frames.ensures)
    (ap (left_by b c.args.packet.now) found ∙ left_behind c.law_numbered.ensures b c.args.packet.now c.law_sound.ensures numbered)

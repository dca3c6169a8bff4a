use Rattle.std.proofs.Common.{arith, sym, ◌∙◌}
use Rattle.filter_tree.specs.ClaimBook.{ClaimBook}
use Rattle.filter_tree.specs.Claims.{is_for}
use Rattle.filter_tree.proofs.Halving.{numbered_rising}
use Rattle.filter_tree.proofs.Counting.{few_prefixes}
use Rattle.filter_tree.proofs.Planting.{has_prefixes, none_found, one_found}
use Rattle.filter_tree.proofs.claims.Claims.find.Goals as goal

pub returns-in_err-id-clause-answer : goal.returns-in_err-id-clause-answer
returns-in_err-id-clause-answer g c =
    rw (← c.self.view_is) (c.from_residual.ensures ∙ none_found (is_for c.args.packet.now) c.self.inside.next c.self.inside.tree.leaves c.self.inside.rows.items c.self.invariant.claims c.self.invariant.kept.numbered (sym c.in_err-id.was ∙ c.find.ensures.answer))

pub returns-in_err-id-clause-steps : goal.returns-in_err-id-clause-steps
returns-in_err-id-clause-steps g c =
    let book : ClaimBook = record { rows = c.self.inside.rows.items; next = c.self.inside.next; envs = c.self.inside.envs } in
    rw (← c.self.view_is) (omega (arith, c.find.ensures.steps, has_prefixes c.self.inside.tree.leaves c.self.inside.rows.items c.self.invariant.claims, few_prefixes book))

pub returns-in_err-id-clause-prefixes : goal.returns-in_err-id-clause-prefixes
returns-in_err-id-clause-prefixes g c =
    rw (← c.self.view_is) (omega (arith, c.find.ensures.steps, has_prefixes c.self.inside.tree.leaves c.self.inside.rows.items c.self.invariant.claims))

pub returns-clause-answer : goal.returns-clause-answer
returns-clause-answer g c =
    rw (← c.self.view_is) (rw c.deref.ensures.value at c.claim_numbered.ensures
    ∙ one_found (is_for c.args.packet.now) c.self.inside.next c.in_ok-id.id c.self.inside.tree.leaves c.self.inside.rows.items c.self.invariant.claims c.self.invariant.kept.numbered (sym c.in_ok-id.was ∙ c.find.ensures.answer))

pub returns-clause-steps : goal.returns-clause-steps
returns-clause-steps g c =
    let book : ClaimBook = record { rows = c.self.inside.rows.items; next = c.self.inside.next; envs = c.self.inside.envs } in
    rw (← c.self.view_is) (omega (arith, c.find.ensures.steps, has_prefixes c.self.inside.tree.leaves c.self.inside.rows.items c.self.invariant.claims, few_prefixes book))

pub returns-clause-prefixes : goal.returns-clause-prefixes
returns-clause-prefixes g c =
    rw (← c.self.view_is) (omega (arith, c.find.ensures.steps, has_prefixes c.self.inside.tree.leaves c.self.inside.rows.items c.self.invariant.claims))

pub claim_numbered-requires : goal.claim_numbered-requires
claim_numbered-requires g c = rw c.deref.ensures.value (numbered_rising 0 c.self.inside.next c.self.inside.rows.items c.self.invariant.kept.numbered)

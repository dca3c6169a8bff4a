-- The laws are the lemmas.
use Rattle.due_law.proofs.Bared.{bare_is_private, bare_is_told}
use Rattle.due_law.proofs.laws.law_bare_is_told.Goals as goal

pub returns : goal.returns
returns c =
    let private = bare_is_private c.law_granted.ensures c.law_again.ensures c.law_richest.ensures c.law_takable.ensures c.law_time.ensures c.law_alone.ensures in
    record { private = private; told = bare_is_told private c.law_private_is_told.ensures }

-- The law is the lemmas.
use Rattle.giving_law.proofs.Calls.{answers_are_found, puts_are_written, sends_are_sent}
use Rattle.giving_law.proofs.laws.law_answered.Goals as goal

pub returns : goal.returns
returns c =
    let granted = c.law_granted.ensures in
    let order = c.law_moments.ensures in
    record { answers = answers_are_found granted order; puts = puts_are_written granted order; sends = sends_are_sent granted order }

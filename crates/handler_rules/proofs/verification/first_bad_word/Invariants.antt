use Rattle.std.proofs.Common.{◌≡◌, None}
use Rattle.handler_rules.specs.Verification.{first_bad_below}
use Rattle.handler_rules.proofs.verification.first_bad_word.Given as goal

-- No word so far is bad.
abbrev pub invariant-loop-at : goal.invariant-loop-at
invariant-loop-at l = first_bad_below l.words l.at ≡ None

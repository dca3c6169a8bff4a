use Rattle.std.proofs.Common.{◌≡◌, All, ℕ, List, length}
use Rattle.ledger_text.specs.Within.{IsSumWithin}
use Rattle.ledger_audit.specs.Answer.{first_wrong_sum}
use Rattle.ledger_audit.specs.Auditor.{state_of}
use Rattle.ledger_audit.proofs.pass.first_wrong_sum.Given as goal

-- what is left is judged as the whole is
abbrev pub invariant-sums : goal.invariant-sums
invariant-sums l = record {
  rest : first_wrong_sum (state_of l.state) l.env l.left ≡ first_wrong_sum (state_of l.state) 0 l.fn.sums;
  within : All (λ (x : ℕ × List ℕ). IsSumWithin x.1) l.left;
}

abbrev pub decreases-sums : goal.decreases-sums
decreases-sums l = length l.left

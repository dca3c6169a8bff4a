use Rattle.std.proofs.Common.{◌≡◌, true}
use Rattle.ledger_audit.specs.RowRules.{all_below, is_passed}
use Rattle.ledger_audit.specs.Auditor.{state_of}
use Rattle.ledger_audit.proofs.slots.are_passed.Given as goal

abbrev pub invariant-loop-k : goal.invariant-loop-k
invariant-loop-k l = all_below l.k (is_passed (state_of l.state) l.slot) ≡ true

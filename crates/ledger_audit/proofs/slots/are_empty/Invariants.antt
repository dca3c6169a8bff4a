use Rattle.std.proofs.Common.{◌≡◌, true}
use Rattle.ledger_audit.specs.RowRules.{all_below, is_empty_slot}
use Rattle.ledger_audit.specs.Auditor.{state_of}
use Rattle.ledger_audit.proofs.slots.are_empty.Given as goal

abbrev pub invariant-loop-k : goal.invariant-loop-k
invariant-loop-k l = all_below l.k (is_empty_slot (state_of l.state)) ≡ true

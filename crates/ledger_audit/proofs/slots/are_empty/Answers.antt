use Rattle.std.proofs.Common.{sym}
use Rattle.ledger_audit.specs.Auditor.{state_of}
use Rattle.ledger_audit.proofs.Below.{all_empty, not_empty}
use Rattle.ledger_audit.proofs.slots.are_empty.Goals as goal

pub returns-then-is_some : goal.returns-then-is_some
returns-then-is_some c = sym (not_empty (state_of c.args.state.now) c.loop-k.k c.loop-k-test.true (sym (c.if-is_some.ensures)))

pub returns : goal.returns
returns c = sym (all_empty (state_of c.args.state.now) c.loop-k.k c.loop-k.auto.k-end c.loop-k-test.false c.loop-k.invariant)

use Rattle.std.proofs.Common.{None}
use Rattle.std.specs.Prelude.{slice_index_or}
use Rattle.ledger_audit.proofs.Releasing.{count_all}
use Rattle.ledger_audit.proofs.slots.released_count.Goals as goal

pub returns : goal.returns
returns c =
    count_all c.args.time c.args.env (λ k. slice_index_or c.args.slots.now k None) c.loop-k.k c.loop-k.count c.loop-k.auto.k-end c.loop-k-test.false c.loop-k.invariant.counted

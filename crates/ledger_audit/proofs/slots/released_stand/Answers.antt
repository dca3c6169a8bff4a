use Rattle.std.proofs.Common.{sym, None}
use Rattle.std.specs.Prelude.{slice_index_or}
use Rattle.ledger_audit.specs.Answer.{rows_of}
use Rattle.ledger_audit.proofs.Releasing.{all_stand, goes_on, one_fails}
use Rattle.ledger_audit.proofs.slots.released_stand.Goals as goal

pub returns-in_default : goal.returns-in_default
returns-in_default c =
    sym (one_fails c.args.time c.args.env (λ k. slice_index_or c.args.slots.now k None) c.loop-k.k (rows_of c.args.later.now) (rows_of c.loop-k.left.now)
    c.loop-k.invariant c.loop-k-test.true c.in_default.ensures.none)

pub loop-k-preserved : goal.loop-k-preserved
loop-k-preserved c =
    goes_on c.args.time c.args.env (λ k. slice_index_or c.args.slots.now k None) c.loop-k.k (rows_of c.args.later.now) (rows_of c.loop-k.left.now)
    (rows_of c.in-Some.rest.now) c.loop-k.invariant c.in-Some.ensures.some

pub returns : goal.returns
returns c =
    sym (all_stand c.args.time c.args.env (λ k. slice_index_or c.args.slots.now k None) c.loop-k.k (rows_of c.args.later.now) (rows_of c.loop-k.left.now)
    c.loop-k.invariant c.loop-k.auto.k-end c.loop-k-test.false)

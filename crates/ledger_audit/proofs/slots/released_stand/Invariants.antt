use Rattle.std.proofs.Common.{None, slice_index_or}
use Rattle.world_model.specs.Death.{released_rows}
use Rattle.ledger_audit.specs.Answer.{rows_of}
use Rattle.ledger_audit.specs.Auditor.{IsBehind}
use Rattle.ledger_audit.proofs.slots.released_stand.Given as goal

abbrev pub invariant-loop-k : goal.invariant-loop-k
invariant-loop-k l = IsBehind (released_rows l.time l.env (λ k. slice_index_or l.slots k None) l.k) (rows_of l.later) (rows_of l.left)

use Rattle.std.proofs.Common.{◌≡◌, ◌≤◌, length, None, slice_index_or}
use Rattle.world_model.specs.Death.{released_rows}
use Rattle.ledger_audit.proofs.slots.released_count.Given as goal

abbrev pub invariant-loop-k : goal.invariant-loop-k
invariant-loop-k l = record {
  counted : l.count ≡ length (released_rows l.time l.env (λ k. slice_index_or l.slots k None) l.k);
  few : l.count ≤ l.k;
}

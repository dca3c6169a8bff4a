use Rattle.std.proofs.Common.{arith, ◌≤◌, ◌+◌}
use Rattle.std.proofs.lemmas.List.Elements.{All-replicate}
use Rattle.aegis_limits.specs.Limits.{excess_limit, environment_numbers}
use Rattle.slot_vector.proofs.excess.Excess.new.Goals as goal

pub invariant_of-result : goal.invariant_of-result
invariant_of-result c = All-replicate (λ quanta. quanta ≤ excess_limit + 1) environment_numbers 0 (omega arith)

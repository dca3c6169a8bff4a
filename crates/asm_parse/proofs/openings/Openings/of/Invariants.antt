use Rattle.std.proofs.Common.{◌≡◌, ◌≤◌, drop}
use Rattle.asm_parse.specs.Expression.{halves_of}
use Rattle.asm_parse.specs.Seen.{openings_seen}
use Rattle.asm_parse.proofs.openings.Openings.of.Given as goal

-- what the inner halves leave
abbrev pub invariant-loop-left : goal.invariant-loop-left
invariant-loop-left l = record {
  within : l.left ≤ l.self.depth;
  taken : l.taken ≡ halves_of (drop l.left (openings_seen l.self)) l.value;
}

abbrev pub decreases-loop-left : goal.decreases-loop-left
decreases-loop-left l = l.left

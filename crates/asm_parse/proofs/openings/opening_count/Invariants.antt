use Rattle.std.proofs.Common.{◌≡◌, ◌+◌, ◌*◌, length}
use Rattle.asm_parse.specs.Expression.{halves_opened}
use Rattle.asm_parse.proofs.openings.opening_count.Given as goal

-- the openings so far and those to come are all of them
abbrev pub invariant-loop-behind : goal.invariant-loop-behind
invariant-loop-behind l = record {
  within : 3 * l.count + length l.rest ≡ length l.bytes;
  count : length (halves_opened l.bytes) ≡ l.count + length (halves_opened l.rest);
}

abbrev pub decreases-loop-behind : goal.decreases-loop-behind
decreases-loop-behind l = length l.rest

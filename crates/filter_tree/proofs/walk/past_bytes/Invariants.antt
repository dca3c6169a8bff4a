use Rattle.std.proofs.Common.{◌≡◌, ◌≤◌, ◌+◌, ℕ}
use Rattle.filter_tree.specs.Nodes.{way}
use Rattle.filter_tree.proofs.walk.past_bytes.Given as goal

-- from here a search goes on as from the start, and costs the steps that are left
abbrev pub invariant-loop-place : goal.invariant-loop-place
invariant-loop-place g l = record {
  within : l.place ≤ l.start;
  found : (v : ℕ) → (way l.packet l.nodes l.place v).found ≡ (way l.packet l.nodes l.start v).found;
  steps : (v : ℕ) → l.steps + (way l.packet l.nodes l.place v).reads ≤ l.fn.steps + (way l.packet l.nodes l.start v).reads;
}

-- each node leads to lower places
abbrev pub decreases-loop-place : goal.decreases-loop-place
decreases-loop-place g l = l.place

use Rattle.std.proofs.Common.{◌≡◌, ◌≤◌, ◌+◌}
use Rattle.filter_tree.specs.Nodes.{found_at, reads_at}
use Rattle.filter_tree.proofs.walk.past_tests.Given as goal

-- from here a search goes on as from the start, and costs the steps that are left
abbrev pub invariant-loop-place : goal.invariant-loop-place
invariant-loop-place g l = record {
  within : l.place ≤ l.start;
  found : found_at l.packet l.nodes l.place l.read ≡ found_at l.packet l.nodes l.start l.fn.read;
  steps : l.steps + reads_at l.packet l.nodes l.place l.read ≤ l.fn.steps + reads_at l.packet l.nodes l.start l.fn.read;
}

-- each node leads to lower places
abbrev pub decreases-loop-place : goal.decreases-loop-place
decreases-loop-place g l = l.place

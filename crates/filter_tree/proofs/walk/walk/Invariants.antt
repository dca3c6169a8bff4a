use Rattle.std.proofs.Common.{◌≡◌, ◌<◌, ◌≤◌, ◌+◌, length}
use Rattle.filter_tree.specs.Nodes.{way}
use Rattle.filter_tree.specs.Tree.{lower_number}
use Rattle.filter_tree.proofs.walk.walk.Given as goal

-- what is found from here decides beside what was found before, and costs the steps that are left
abbrev pub invariant-loop-place : goal.invariant-loop-place
invariant-loop-place g l = record {
  within : l.place < length l.nodes;
  answer : lower_number l.found (way l.packet l.nodes l.place l.read).found ≡ (way l.packet l.nodes l.fn.start 0).found;
  steps : l.steps + (way l.packet l.nodes l.place l.read).reads ≤ l.fn.steps + (way l.packet l.nodes l.fn.start 0).reads;
}

-- each node leads to lower places
abbrev pub decreases-loop-place : goal.decreases-loop-place
decreases-loop-place g l = l.place

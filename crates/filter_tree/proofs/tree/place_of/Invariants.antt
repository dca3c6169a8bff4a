use Rattle.std.proofs.Common.{◌≡◌, ◌+◌, drop}
use Rattle.filter_tree.specs.Tree.{leaf_place}
use Rattle.filter_tree.proofs.tree.place_of.Given as goal

-- the claims that are left decide
abbrev pub invariant-loop-place : goal.invariant-loop-place
invariant-loop-place l = l.place + leaf_place l.filter (drop l.place l.leaves) ≡ leaf_place l.filter l.leaves

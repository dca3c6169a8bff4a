use Rattle.std.proofs.Common.{◌≡◌, drop}
use Rattle.filter_tree.specs.Tree.{is_before, numbers}
use Rattle.filter_tree.proofs.leaf.is_before.Given as goal

-- what is left decides
abbrev pub invariant-loop-place : goal.invariant-loop-place
invariant-loop-place l = is_before (numbers (drop l.place l.left)) (numbers (drop l.place l.right)) ≡ is_before (numbers l.left) (numbers l.right)

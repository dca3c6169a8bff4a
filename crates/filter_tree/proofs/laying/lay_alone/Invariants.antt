use Rattle.std.proofs.Common.{◌<◌, ◌≤◌, [], ◌∷◌, length}
use Rattle.std.specs.Prelude.{vec_capacity}
use Rattle.filter_tree.specs.Laying.{IsLaid}
use Rattle.filter_tree.proofs.laying.lay_alone.Given as goal

-- the atoms so far are laid, from the last on
abbrev pub invariant-loop-left : goal.invariant-loop-left
invariant-loop-left l = record {
  above : l.depth ≤ l.left;
  within : l.depth < l.left → l.left ≤ length l.leaf.filter;
  laid : IsLaid l.left (l.leaf ∷ []) l.next l.fn.nodes.items l.nodes.items l.inside;
  room : vec_capacity l.fn.nodes ≤ vec_capacity l.nodes;
}

abbrev pub decreases-loop-left : goal.decreases-loop-left
decreases-loop-left l = l.left

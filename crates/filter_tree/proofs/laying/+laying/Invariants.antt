use Rattle.std.proofs.Common.{◌+◌, ◌*◌}
use Rattle.filter_tree.specs.Laying.{nodes_for}
use Rattle.filter_tree.proofs.laying.+laying.Given as goal

-- fewer nodes are left to lay, or the leaves are of one branch, or they are parted
abbrev pub decreases-lay : goal.decreases-lay
decreases-lay l = 3 * nodes_for l.depth l.leaves.now + 2

abbrev pub decreases-lay_branch : goal.decreases-lay_branch
decreases-lay_branch l = 3 * nodes_for l.depth l.leaves.now + 1

abbrev pub decreases-lay_values : goal.decreases-lay_values
decreases-lay_values l = 3 * nodes_for l.depth l.leaves.now

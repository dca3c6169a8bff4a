use Rattle.std.proofs.Common.{◌-◌, arith, drop, length}
use Rattle.std.proofs.lemmas.List.{length-drop, take_all}
use Rattle.filter_tree.proofs.branching.behind.Goals as goal

pub returns : goal.returns
returns c =
    let leaves = c.args.leaves.now in
    let start = c.args.start in
    take_all (length leaves - start) (drop start leaves) (omega (arith, length-drop start leaves))

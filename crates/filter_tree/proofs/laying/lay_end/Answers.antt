use Rattle.filter_tree.proofs.Laid.{begun}
use Rattle.filter_tree.proofs.laying.lay_end.Goals as goal

pub returns-clause-begun : goal.returns-clause-begun
returns-clause-begun c = begun c.args.nodes.now.items c.push.new.nodes.items _ c.requires.none c.push.ensures.place c.push.ensures.nodes

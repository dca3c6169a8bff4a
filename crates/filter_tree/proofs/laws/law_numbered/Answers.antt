use Rattle.filter_tree.proofs.Numbers.{first_is_numbered}
use Rattle.filter_tree.proofs.laws.law_numbered.Goals as goal

pub returns : goal.returns
returns c = first_is_numbered

use Rattle.filter_tree.proofs.Alike.{alike_are_few, example_has_three}
use Rattle.filter_tree.proofs.laws.law_alike.Goals as goal

pub returns-clause-few : goal.returns-clause-few
returns-clause-few c = alike_are_few

pub returns-clause-example : goal.returns-clause-example
returns-clause-example c = example_has_three

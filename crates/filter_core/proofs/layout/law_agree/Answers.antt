use Rattle.filter_core.proofs.Overlapping.{exact}
use Rattle.filter_core.proofs.layout.law_agree.Goals as goal

pub returns : goal.returns
returns c = exact

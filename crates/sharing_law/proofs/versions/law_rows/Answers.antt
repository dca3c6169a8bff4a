use Rattle.sharing_law.proofs.Live.{bindings_in_rows}
use Rattle.sharing_law.proofs.versions.law_rows.Goals as goal

pub returns : goal.returns
returns c = bindings_in_rows c.law_granted.ensures c.law_again.ensures c.law_takable.ensures c.law_given_licence.ensures

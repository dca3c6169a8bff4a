use Rattle.sharing_law.proofs.SameVersion.{versions_agree}
use Rattle.sharing_law.proofs.versions.law_versions.Goals as goal

pub returns : goal.returns
returns c = versions_agree c.law_given_licence.ensures

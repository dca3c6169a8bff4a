use Rattle.sharing_law.proofs.Rooms.{leads_agree}
use Rattle.sharing_law.proofs.kept.law_leads.Goals as goal

pub returns : goal.returns
returns c = leads_agree c.law_granted.ensures c.law_again.ensures c.law_takable.ensures c.law_given_licence.ensures

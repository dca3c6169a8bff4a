use Rattle.sharing_law.proofs.Agreeing.{claims_are_sound}
use Rattle.sharing_law.proofs.agreement.law_claim_pages.Goals as goal

pub returns : goal.returns
returns c = claims_are_sound c.law_granted.ensures c.law_again.ensures c.law_takable.ensures

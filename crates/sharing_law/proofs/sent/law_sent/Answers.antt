use Rattle.sharing_law.proofs.Sending.{sent_is_within}
use Rattle.sharing_law.proofs.sent.law_sent.Goals as goal

pub returns : goal.returns
returns c = sent_is_within c.law_granted.ensures c.law_given_licence.ensures

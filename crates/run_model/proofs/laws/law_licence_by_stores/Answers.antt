use Rattle.run_model.proofs.Licensing.{feed_is_licensed, given_is_licensed}
use Rattle.run_model.proofs.laws.law_licence_by_stores.Goals as goal

pub returns : goal.returns
returns c = record {
  phases = given_is_licensed c.law_granted.ensures c.law_again.ensures c.law_takable.ensures;
  feed = feed_is_licensed c.law_granted.ensures c.law_again.ensures c.law_takable.ensures;
}

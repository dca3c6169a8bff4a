-- The laws are the lemmas.
use Rattle.limits_law.proofs.Fit.{items_are_fit}
use Rattle.limits_law.proofs.Numbers.{numbers_are_within}
use Rattle.limits_law.proofs.laws.law_items_are_fit.Goals as goal

pub returns : goal.returns
returns c =
    let granted = c.law_granted.ensures in
    let again = c.law_again.ensures in
    let takable = c.law_takable.ensures in
    record {
      shown = items_are_fit granted again takable c.law_guaranteed_whole.ensures c.law_feed_licence.ensures;
      numbers = numbers_are_within granted again takable c.law_feed_licence.ensures;
    }

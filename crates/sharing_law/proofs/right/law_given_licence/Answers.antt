use Rattle.sharing_law.proofs.right.law_given_licence.Goals as goal

pub returns : goal.returns
returns c = c.law_licence_by_stores.ensures.phases c.law_stores.ensures

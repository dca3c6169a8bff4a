-- The law is the lemma.
use Rattle.run_model.proofs.Fold.{is_fold_of_feed}
use Rattle.run_model.proofs.laws.law_alone.Goals as goal

pub returns : goal.returns
returns c = is_fold_of_feed

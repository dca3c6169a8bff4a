-- The law is the lemma.
use Rattle.quiet_law.proofs.Reports.{shown_alike}
use Rattle.quiet_law.proofs.laws.law_quiet_text.Goals as goal

pub returns : goal.returns
returns c = let quiet = c.law_quiet.ensures in shown_alike quiet.pages quiet.same_feed quiet.same_excess c.law_slices.ensures.stopped c.law_alone.ensures

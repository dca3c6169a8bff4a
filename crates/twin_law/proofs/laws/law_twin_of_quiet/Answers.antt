-- The laws are the lemmas.
use Rattle.twin_law.proofs.Quiet.{of_quiet, shows_quiet}
use Rattle.twin_law.proofs.laws.law_twin_of_quiet.Goals as goal

pub returns : goal.returns
returns c =
    let feeds = c.law_quiet.ensures.same_feed in record { answer = of_quiet feeds; shown = shows_quiet feeds c.law_quiet_text.ensures }

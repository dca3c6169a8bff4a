-- The law is the lemmas.
use Rattle.giving_law.proofs.Phases.{boots_by_image, licensed_is_given, record_is_given}
use Rattle.giving_law.proofs.laws.law_given.Goals as goal

pub returns : goal.returns
returns c = record { phases = licensed_is_given c.law_pages_end.ensures; boot = record_is_given; images = boots_by_image }

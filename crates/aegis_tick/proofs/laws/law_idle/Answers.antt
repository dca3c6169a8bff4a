use Rattle.aegis_tick.proofs.Whole.{stays}
use Rattle.aegis_tick.proofs.laws.law_idle.Goals as goal

pub returns : goal.returns
returns c = stays

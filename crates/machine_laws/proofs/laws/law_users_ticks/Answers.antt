use Rattle.machine_laws.proofs.Ticking.{users_tick}
use Rattle.machine_laws.proofs.laws.law_users_ticks.Goals as goal

pub returns : goal.returns
returns c = users_tick

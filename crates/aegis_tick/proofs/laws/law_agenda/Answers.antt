use Rattle.aegis_tick.proofs.Coming.{agendas_are_right}
use Rattle.aegis_tick.proofs.laws.law_agenda.Goals as goal

pub returns : goal.returns
returns c = agendas_are_right

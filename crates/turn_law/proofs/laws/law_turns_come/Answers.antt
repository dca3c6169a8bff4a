use Rattle.turn_law.proofs.Coming.{turns_come}
use Rattle.turn_law.proofs.laws.law_turns_come.Goals as goal

pub returns : goal.returns
returns c = turns_come

use Rattle.turn_law.proofs.Coming.{clean_turns_come}
use Rattle.turn_law.proofs.laws.law_clean_turns_come.Goals as goal

pub returns : goal.returns
returns c = clean_turns_come c.law_turns_come.ensures c.law_audit.ensures.clean

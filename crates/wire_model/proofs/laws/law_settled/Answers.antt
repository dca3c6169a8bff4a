-- The laws are the lemmas.
use Rattle.wire_model.proofs.Settled.{frames_settled, worlds_settled}
use Rattle.wire_model.proofs.laws.law_settled.Goals as goal

pub returns-clause-worlds : goal.returns-clause-worlds
returns-clause-worlds c = worlds_settled c.law_time.ensures

pub returns-clause-frames : goal.returns-clause-frames
returns-clause-frames c = frames_settled c.law_time.ensures

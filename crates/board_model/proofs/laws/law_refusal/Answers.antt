use Rattle.board_model.proofs.Serving.{refused_world}
use Rattle.board_model.proofs.laws.law_refusal.Goals as goal

pub returns : goal.returns
returns c = refused_world c.law_granted.ensures c.law_again.ensures c.law_numbered.ensures

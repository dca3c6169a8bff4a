-- A page that may be taken is taken as the model says.
use Rattle.std.proofs.Common.{◌∙◌, ap}
use Rattle.board_model.specs.Shown.{Shown}
use Rattle.board_model.specs.Showing.{world_of}
use Rattle.aegis_calls.proofs.board.Board.take_page.Goals as goal

pub returns-clause-world : goal.returns-clause-world
returns-clause-world c = ap world_of c.take.ensures ∙ c.law_taking.ensures.taken c.args.self.now c.args.taking c.law_sound.ensures c.requires.may

pub returns-clause-tlb : goal.returns-clause-tlb
returns-clause-tlb c = ap (λ (s : Shown). s.tlb) c.take.ensures

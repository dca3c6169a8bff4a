-- A death is the model's.
use Rattle.std.proofs.Common.{ap, ◌∙◌}
use Rattle.board_model.specs.Showing.{world_of}
use Rattle.board_model.proofs.Serving.{death_serves, died_world}
use Rattle.aegis_calls.proofs.board.Board.kill.Goals as goal

pub returns-clause-world : goal.returns-clause-world
returns-clause-world c = ap world_of c.die.ensures ∙ died_world c.args.self.now c.args.env c.args.cause (record { sound = c.law_sound.ensures; runs = c.requires.runs })

pub returns-clause-room : goal.returns-clause-room
returns-clause-room c = rw c.die.ensures (death_serves c.args.self.now c.args.env c.args.cause (record { sound = c.law_sound.ensures; runs = c.requires.runs })).room

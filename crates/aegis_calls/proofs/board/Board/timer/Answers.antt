-- The timer is the model's.
use Rattle.std.proofs.Common.{ap, ◌∙◌, rules}
use Rattle.board_model.specs.Showing.{world_of}
use Rattle.board_model.proofs.Counting.{counted_counts}
use Rattle.board_model.proofs.Turning.{counted_world}
use Rattle.board_model.proofs.Numbering.{timer_claims}
use Rattle.board_model.specs.Shown.{Shown}
use Rattle.aegis_calls.proofs.Emptying.{counted_empties}
use Rattle.aegis_calls.proofs.board.Board.timer.Goals as goal

pub returns-clause-world : goal.returns-clause-world
returns-clause-world c = ap world_of c.count.ensures ∙ counted_world c.args.self.now c.law_sound.ensures

pub returns-clause-time : goal.returns-clause-time
returns-clause-time c = rw c.count.ensures (counted_counts c.args.self.now c.law_sound.ensures).time

pub returns-clause-whole : goal.returns-clause-whole
returns-clause-whole c = rw c.count.ensures (counted_counts c.args.self.now c.law_sound.ensures).spare

pub returns-clause-room : goal.returns-clause-room
returns-clause-room c = rw c.count.ensures (counted_counts c.args.self.now c.law_sound.ensures).room

pub returns-clause-numbers : goal.returns-clause-numbers
returns-clause-numbers c = search (rules, counted_world, timer_claims)

pub returns-clause-tlb : goal.returns-clause-tlb
returns-clause-tlb c = ap (λ (s : Shown). s.tlb) c.count.ensures ∙ counted_empties c.args.self.now c.law_sound.ensures

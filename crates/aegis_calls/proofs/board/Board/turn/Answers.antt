-- The turn is the model's, and writes no more rows than its forfeits and a start.
use Rattle.std.proofs.Common.{ap, sym, ◌∙◌, arith}
use Rattle.board_model.specs.Showing.{world_of}
use Rattle.board_model.proofs.Sound.{owed_most}
use Rattle.board_model.proofs.Turning.{turned_runs, turned_world}
use Rattle.world_model.specs.World.{World}
use Rattle.board_model.proofs.Numbering.{turn_claims}
use Rattle.board_model.specs.Shown.{Shown}
use Rattle.aegis_calls.proofs.Emptying.{turn_leaves}
use Rattle.aegis_calls.proofs.board.Board.turn.Goals as goal

pub take_turn-requires-clause-room : goal.take_turn-requires-clause-room
take_turn-requires-clause-room c = omega (arith, owed_most c.args.self.now.slots c.args.self.now.roster c.law_sound.ensures.book, c.requires.room)

pub returns-clause-world : goal.returns-clause-world
returns-clause-world c = ap world_of c.take_turn.ensures.after ∙ turned_world c.args.self.now c.law_sound.ensures c.requires.whole

pub returns-clause-runs : goal.returns-clause-runs
returns-clause-runs c = λ busy. rw c.take_turn.ensures.after (turned_runs c.args.self.now busy)

pub returns-clause-room : goal.returns-clause-room
returns-clause-room c = omega (arith, owed_most c.args.self.now.slots c.args.self.now.roster c.law_sound.ensures.book, c.take_turn.ensures.room)

pub returns-clause-same : goal.returns-clause-same
returns-clause-same c = record {
  time = c.take_turn.ensures.time;
  whole = c.take_turn.ensures.whole ∙ sym c.requires.whole;
  numbers =
      ap (λ (w : World). w.book.next_claim) (ap world_of c.take_turn.ensures.after ∙ turned_world c.args.self.now c.law_sound.ensures c.requires.whole)
      ∙ turn_claims (world_of c.args.self.now);
}

pub returns-clause-tlb : goal.returns-clause-tlb
returns-clause-tlb c = ap (λ (s : Shown). s.tlb) c.take_turn.ensures.after ∙ turn_leaves c.args.self.now

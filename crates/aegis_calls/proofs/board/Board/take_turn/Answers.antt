-- Each forfeit comes first in the rest of the turn, and lowers what is owed.
use Rattle.std.proofs.Common.{sym, ap, ◌∙◌, arith}
use Rattle.slot_vector.specs.Laws.{owed_by_all}
use Rattle.slot_vector.specs.Slices.{whole_turn_of}
use Rattle.slot_vector.proofs.Whole.{pay_lowers}
use Rattle.board_model.specs.Shown.{Shown}
use Rattle.board_model.specs.Doing.{after_told}
use Rattle.board_model.proofs.Turns.{pay_turned}
use Rattle.aegis_calls.proofs.board.Board.take_turn.Goals as goal

pub loop-smaller : goal.loop-smaller
loop-smaller c = omega (arith, pay_lowers c.loop.self.slots c.in-Pay.field-0 (sym c.in-Pay.ensures.turn), ap (λ (b : Shown). owed_by_all b.slots) c.in-Pay.ensures.after)

pub loop-preserved : goal.loop-preserved
loop-preserved c =
    let b = c.loop.self in
    let t = c.in-Pay.field-0 in
    let pays = sym c.in-Pay.ensures.turn in
    let after = c.in-Pay.ensures.after in
    let so_far = c.loop.invariant in
    record {
      turn = ap (λ (s : Shown). after_told s (whole_turn_of s.slots)) after ∙ pay_turned b t pays ∙ so_far.turn;
      nobody = ap (λ (s : Shown). s.slots.runner) after ∙ so_far.nobody;
      time = ap (λ (s : Shown). s.time) after ∙ so_far.time;
      whole = ap (λ (s : Shown). s.roster.spare) after ∙ so_far.whole;
      room = omega (arith, pay_lowers b.slots t pays, ap (λ (s : Shown). owed_by_all s.slots) after, ap (λ (s : Shown). s.ledger.spare) after, so_far.room, c.requires.room);
    }

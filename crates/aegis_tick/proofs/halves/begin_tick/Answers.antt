-- Somebody runs once the turn is taken.
use Rattle.std.proofs.Common.{◌∙◌, arith}
use Rattle.aegis_tick.proofs.halves.begin_tick.Goals as goal

pub returns-clause-may : goal.returns-clause-may
returns-clause-may c = record {
  whole = c.turn.ensures.same.whole ∙ c.serve.ensures.same.whole ∙ c.requires.may.whole;
  runs = c.turn.ensures.runs (c.serve.ensures.idle ∙ c.requires.may.busy);
  time = omega (arith, c.turn.ensures.same.time, c.serve.ensures.same.time, c.requires.may.time);
  numbers = omega (arith, c.turn.ensures.same.time, c.serve.ensures.same.time, c.turn.ensures.same.numbers, c.serve.ensures.same.numbers, c.requires.may.numbers);
}

-- The outputs so far.
use Rattle.std.proofs.Common.{◌≡◌, replicate}
use Rattle.board_model.specs.Shown.{no_output}
use Rattle.board_model.proofs.roster.empty_outputs.Given as goal

abbrev pub invariant-loop : goal.invariant-loop
invariant-loop l = l.outputs.items ≡ replicate l.counter no_output

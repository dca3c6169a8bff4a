-- There is room for the new one, and the outputs that are left hold nothing.
use Rattle.std.proofs.Common.{arith, ◌≡◌}
use Rattle.std.proofs.lemmas.Grind.{common_steps}
use Rattle.std.proofs.lemmas.List.Elements.{All-take}
use Rattle.board_model.specs.declared.output.Output.{Output}
use Rattle.board_model.specs.Shown.{no_output}
use Rattle.board_model.proofs.roster.Roster.push.Goals as goal

pub invariant_of-self : goal.invariant_of-self
invariant_of-self c = (grind (arith, common_steps), rw c.pop.ensures.rest (All-take (λ (output : Output). output ≡ no_output) _ _ c.self.invariant.1))

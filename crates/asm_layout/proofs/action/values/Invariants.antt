use Rattle.std.proofs.Common.{◌≡◌, drop}
use Rattle.asm_layout.specs.Action.{values_in}
use Rattle.asm_layout.specs.Seen.{expressions_seen, operands_seen}
use Rattle.asm_layout.proofs.OperandLemmas.{before}
use Rattle.asm_layout.proofs.action.values.Given as goal

-- the expressions so far and those to come are all of them
abbrev pub invariant-loop-arg : goal.invariant-loop-arg
invariant-loop-arg l = before (expressions_seen l.values.items) (values_in (operands_seen (drop l.arg-index l.operands))) ≡ values_in (operands_seen l.operands)

use Rattle.std.proofs.Common.{◌≡◌, drop}
use Rattle.asm_layout.specs.Seen.{expressions_seen}
use Rattle.mips_asm.specs.Emission.{values_of}
use Rattle.mips_asm.specs.Second.{onto}
use Rattle.mips_asm.proofs.emission.values.Given as goal

-- the values so far and those to come are all of them
abbrev pub invariant-loop-expression : goal.invariant-loop-expression
invariant-loop-expression l = onto l.values.items (values_of l.names (expressions_seen (drop l.expression-index l.expressions))) ≡ values_of l.names (expressions_seen l.expressions)

use Rattle.std.proofs.Common.{◌≡◌, ◌+◌, ◌-◌, ◌^◌, ◌<◌, drop, min}
use Rattle.mips_text.specs.WordRows.{operand_bits}
use Rattle.mips_text.proofs.shape.with_bits.Given as goal

-- the sum so far and the bits to come are all of them
abbrev pub invariant-loop-operand : goal.invariant-loop-operand
invariant-loop-operand l =
    (min (l.sum + operand_bits (drop l.operand-index l.operands) l.word) (2 ^ 64 - 1) ≡ min (l.base + operand_bits l.operands l.word) (2 ^ 64 - 1))
    × (l.sum < 2 ^ 64)

-- An operand with its place.
use Rattle.std.specs.Prelude.{ℕ}
use Rattle.asm_parse.specs.Operand.{OperandValue}

-- an operand, and the places in the source where it begins and ends
pub record ArgValue : Type 0 where
  pub operand : OperandValue
  pub start : ℕ
  pub end : ℕ

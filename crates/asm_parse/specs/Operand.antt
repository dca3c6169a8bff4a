-- Operands, as bytes say them.
use Rattle.std.specs.Prelude.{ℕ, ◌-◌, List, [], Option, Some, None, nat_eq, ◌==◌, ◌&&◌, if◌then◌else◌, length, take, drop, codes}
use Rattle.std.specs.List.{ends_with, position_or_len}
use Rattle.std.specs.Option.{option_map, option_or}
use Rattle.std.specs.Str.{byte}
use Rattle.asm_parse.specs.Expression.{ExpressionValue, Number, expression_of}
use Rattle.asm_parse.specs.Register.{register_of}
use Rattle.asm_parse.specs.Words.{is_register, unquoted}

-- an operand: a register's number is none where there is no such register
pub data OperandValue : Type 0 where
  Register : Option ℕ → OperandValue
  Value : ExpressionValue → OperandValue
  -- an offset, and a register in brackets
  Based : ExpressionValue → Option ℕ → OperandValue
  -- the bytes that a quoted text means
  Quoted : List ℕ → OperandValue

-- the expression before brackets, which is 0 where nothing stands there
abbrev pub offset_of : List ℕ → Option ExpressionValue
offset_of bs = if length bs == 0 then Some (record { halves = []; inner = Number 0 }) else expression_of bs

-- a register in brackets, and before it an expression or nothing
unfoldable pub based_of : List ℕ → Option OperandValue
based_of bs =
    let dollar = position_or_len (λ b. b == byte "$") bs in
    let front = take dollar bs in
    let back = drop dollar bs in
    let offset = take (length front - 1) front in
    let register = take (length back - 1) back in
    if ends_with nat_eq front (codes "(") && ends_with nat_eq back (codes ")") && is_register register
    then option_map (λ e. Based e (register_of register)) (offset_of offset) else None

-- the operand that bytes are
unfoldable pub operand_of : List ℕ → Option OperandValue
operand_of bs =
    if is_register bs then Some (Register (register_of bs)) else
    option_or (option_map (λ e. Value e) (expression_of bs))
    (option_or (based_of bs) (option_map (λ text. Quoted text) (unquoted bs)))

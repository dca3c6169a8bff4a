-- What the program holds, as plain data.
use Rattle.std.specs.Prelude.{ℕ, List}
use Rattle.std.specs.Option.{option_map}
use Rattle.asm_parse.specs.Expression.{ExpressionValue, InnerValue, Number, Name, Sum, halves_opened}
use Rattle.asm_parse.specs.Arg.{ArgValue}
use Rattle.asm_parse.specs.Operand.{OperandValue, Register, Value, Based, Quoted}
use Rattle.asm_parse.specs.declared.expression.Expression.{Expression}
use Rattle.asm_parse.specs.declared.expression.Inner.{Inner}
use Rattle.asm_parse.specs.declared.expression.Inner.TheVariants as inner
use Rattle.asm_parse.specs.declared.openings.Half.{Half}
use Rattle.asm_parse.specs.declared.openings.Openings.{Openings}
use Rattle.asm_parse.specs.declared.register.Register as registers
use Rattle.asm_parse.specs.declared.syntax.Operand.{Operand}
use Rattle.asm_parse.specs.declared.syntax.Operand.TheVariants as operand
use Rattle.asm_parse.specs.declared.syntax.Arg.{Arg}

abbrev pub inner_seen : Inner → InnerValue
inner_seen (inner.Number n) = Number n
inner_seen (inner.Name name) = Name name.now
inner_seen (inner.Sum name number) = Sum name.now number

abbrev pub openings_seen : Openings → List Half
openings_seen o = halves_opened o.bytes.now

abbrev pub expression_seen : Expression → ExpressionValue
expression_seen e = record { halves = openings_seen e.openings; inner = inner_seen e.inner }

abbrev pub number_seen : registers.Register → ℕ
number_seen register = register.number

abbrev pub operand_seen : Operand → OperandValue
operand_seen (operand.Register r) = Register (option_map number_seen r)
operand_seen (operand.Value e) = Value (expression_seen e)
operand_seen (operand.Based e r) = Based (expression_seen e) (option_map number_seen r)
operand_seen (operand.Quoted text) = Quoted text.items

abbrev pub arg_seen : Arg → ArgValue
arg_seen arg = record { operand = operand_seen arg.operand; start = arg.start; end = arg.end }

-- What a statement asks for.
use Rattle.std.specs.Prelude.{ℕ, List, [], ◌∷◌, ◌++◌, Option, Result, Ok, Err, map, replicate, length, ◌==◌, if◌then◌else◌, codes}
use Rattle.std.specs.Map.{lookup}
use Rattle.std.specs.Option.{ok_or}
use Rattle.std.specs.Str.{bytes_eq}
use Rattle.asm_parse.specs.Expression.{ExpressionValue, InnerValue, Number, Name}
use Rattle.asm_parse.specs.declared.fault.AsmWhy.{AsmWhy}
use Rattle.asm_parse.specs.declared.fault.AsmWhy.TheVariants.{Syntax, UnknownName}
use Rattle.asm_parse.specs.Arg.{ArgValue}
use Rattle.asm_parse.specs.Operand.{OperandValue, Value, Quoted}
use Rattle.asm_parse.specs.declared.syntax.AsmBody.{AsmBody}
use Rattle.asm_parse.specs.declared.syntax.AsmBody.TheVariants as bodies
use Rattle.asm_layout.specs.declared.directive.Directive.{Directive}
use Rattle.asm_layout.specs.declared.directive.Directive.TheVariants as directives
use Rattle.asm_layout.specs.declared.number.NumberSize.TheVariants.{Byte, Half, Word}
use Rattle.asm_layout.specs.declared.section.Section.{Section}
use Rattle.asm_layout.specs.declared.section.Section.TheVariants.{Text, Data}
use Rattle.asm_layout.specs.Content.{Content, Instruction, Numbers, Given}
use Rattle.asm_layout.specs.Draft.{draft_of}
use Rattle.mips_text.specs.Texts.{instruction_text}
use Rattle.line_text.specs.Outcome.{◌>>=◌}

pub data Action : Type 0 where
  -- put a content at the place
  Put : Content → Action
  -- put zeros up to a multiple of this power of 2
  Align : ℕ → Action
  -- go on in a section
  Enter : Section → Action
  -- give a name the value of an expression
  Define : List ℕ → ExpressionValue → Action

-- the directives by name
abbrev pub directive_rows : List (List ℕ × Directive)
directive_rows =
    (codes ".text", directives.Enter Text)
    ∷ (codes ".data", directives.Enter Data)
    ∷ (codes ".word", directives.Numbers Word)
    ∷ (codes ".half", directives.Numbers Half)
    ∷ (codes ".byte", directives.Numbers Byte)
    ∷ (codes ".ascii", directives.Ascii)
    ∷ (codes ".asciiz", directives.Asciiz)
    ∷ (codes ".space", directives.Space)
    ∷ (codes ".align", directives.Align)
    ∷ (codes ".equ", directives.Equ)
    ∷ []

unfoldable pub directive_of : List ℕ → Option Directive
directive_of name = lookup (bytes_eq name) directive_rows

-- instructions stand in the text
abbrev pub in_text : Section → Result (Unit {0}) AsmWhy
in_text Text = Ok tt
in_text Data = Err Syntax

-- Operands of directives: another form or number of them is Syntax.

-- each operand an expression
abbrev pub values_in : List OperandValue → Result (List ExpressionValue) AsmWhy
values_in [] = Ok []
values_in (Value e ∷ rest) = do
  es ← values_in rest
  Ok (e ∷ es)
values_in _ = Err Syntax

-- to put the bytes that a quoted text means, and an ending behind them
abbrev pub text_in : List ℕ → List OperandValue → Result Action AsmWhy
text_in ending (Quoted text ∷ []) = Ok (Put (Given (text ++ ending)))
text_in _ _ = Err Syntax

abbrev pub number_form : InnerValue → Result ℕ AsmWhy
number_form (Number n) = Ok n
number_form _ = Err Syntax

abbrev pub name_form : InnerValue → Result (List ℕ) AsmWhy
name_form (Name name) = Ok name
name_form _ = Err Syntax

-- an expression that is written as a number: no half of it is taken
abbrev pub written_number : ExpressionValue → Result ℕ AsmWhy
written_number e = if length e.halves == 0 then number_form e.inner else Err Syntax

-- an expression that is written as a name: no half of it is taken
abbrev pub written_name : ExpressionValue → Result (List ℕ) AsmWhy
written_name e = if length e.halves == 0 then name_form e.inner else Err Syntax

abbrev pub number_in : List OperandValue → Result ℕ AsmWhy
number_in (Value e ∷ []) = written_number e
number_in _ = Err Syntax

-- what a directive with these operands asks for: another form or number of them is Syntax
unfoldable pub directed : Directive → List OperandValue → Result Action AsmWhy
directed (directives.Enter section) [] = Ok (Enter section)
directed (directives.Numbers size) (a ∷ more) = do
  es ← values_in (a ∷ more)
  Ok (Put (Numbers size es))
directed directives.Ascii operands = text_in [] operands
directed directives.Asciiz operands = text_in (0 ∷ []) operands
directed directives.Space operands = do
  n ← number_in operands
  Ok (Put (Given (replicate n 0)))
directed directives.Align operands = do
  n ← number_in operands
  Ok (Align n)
directed directives.Equ (Value a ∷ Value e ∷ []) = do
  name ← written_name a
  Ok (Define name e)
directed _ _ = Err Syntax

-- operands without their places
abbrev pub operands_in : List ArgValue → List OperandValue
operands_in args = map (λ arg. arg.operand) args

-- what an operation in a section asks for: a name that isn't known stands before operands that it can't take, and
-- these before a register that there isn't
unfoldable pub action_of : Section → AsmBody → Result Action AsmWhy
action_of section bodies.Nothing = Ok (Put (Given []))
action_of section (bodies.Op name args) = do
  text ← ok_or (instruction_text name) UnknownName
  none ← in_text section
  draft ← draft_of text (operands_in args)
  Ok (Put (Instruction draft))
action_of section (bodies.Directive name args) = do
  directive ← ok_or (directive_of name) UnknownName
  directed directive (operands_in args)

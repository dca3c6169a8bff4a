-- Instructions as they are read: words with their registers, and an expression in place of a field.
use Rattle.std.specs.Prelude.{ℕ, ◌+◌, List, [], ◌∷◌, Option, Some, None, Result, Ok, Err}
use Rattle.std.specs.Option.{ok_or}
use Rattle.asm_parse.specs.Expression.{ExpressionValue}
use Rattle.asm_parse.specs.declared.fault.AsmWhy.{AsmWhy}
use Rattle.asm_parse.specs.declared.fault.AsmWhy.TheVariants.{Syntax, UnknownName}
use Rattle.asm_parse.specs.Operand.{OperandValue, Register, Value, Based}
use Rattle.line_text.specs.Outcome.{◌>>=◌}
use Rattle.mips_text.specs.Texts.{TextValue, slot_word}
use Rattle.mips_text.specs.declared.shape.Field.{Field}
use Rattle.mips_text.specs.declared.shape.Field.TheVariants.{Signed}
use Rattle.mips_text.specs.declared.shape.OperandForm.{OperandForm}
use Rattle.mips_text.specs.declared.shape.OperandForm.TheVariants as forms
use Rattle.mips_text.specs.declared.shape.Slot.{Slot}
use Rattle.mips_text.specs.declared.shape.Slot.TheVariants.{Rs}

-- what an expression gives to a word
pub data Filling : Type 0 where
  -- there is none, and the word is whole
  Whole : Filling
  -- a field of the word
  Filled : Field → ExpressionValue → Filling
  -- the high half of LUI, the word, and the low half of ORI behind it, of the same register
  Halves : ExpressionValue → Filling

pub record Draft : Type 0 where
  -- the word without what the expression gives
  pub word : ℕ
  pub filling : Filling

-- an instruction as far as its operands are read
pub record Reading : Type 0 where
  -- the word with its registers, where there are such registers
  pub word : Option ℕ
  pub filling : Filling

-- a word with a register, where there are both
abbrev pub with_register : Slot → Option ℕ → Option ℕ → Option ℕ
with_register slot (Some n) (Some w) = Some (w + slot_word slot n)
with_register slot (Some n) None = None
with_register slot None word = None

-- what is read with an operand of a form, or without one: another form is Syntax
abbrev pub read_operand : OperandForm → Option OperandValue → Reading → Result Reading AsmWhy
read_operand (forms.Register slot) (Some (Register r)) before =
    Ok (record { word = with_register slot r before.word; filling = before.filling })
read_operand (forms.Value field) (Some (Value e)) before = Ok (record { word = before.word; filling = Filled field e })
read_operand (forms.Optional field) (Some (Value e)) before =
    Ok (record { word = before.word; filling = Filled field e })
read_operand (forms.Optional field) None before = Ok before
read_operand forms.Based (Some (Based e r)) before =
    Ok (record { word = with_register Rs r before.word; filling = Filled Signed e })
read_operand forms.Halves (Some (Value e)) before = Ok (record { word = before.word; filling = Halves e })
read_operand _ _ before = Err Syntax

-- what is read with operands of these forms: more of them are Syntax
abbrev pub read_operands : List OperandForm → List OperandValue → Reading → Result Reading AsmWhy
read_operands [] [] before = Ok before
read_operands [] (o ∷ os) before = Err Syntax
read_operands (form ∷ forms) [] before = do
  after ← read_operand form None before
  read_operands forms [] after
read_operands (form ∷ forms) (o ∷ os) before = do
  after ← read_operand form (Some o) before
  read_operands forms os after

-- what is read of an instruction with these operands
abbrev pub read_text : TextValue → List OperandValue → Result Reading AsmWhy
read_text text operands = read_operands text.operands operands (record { word = Some text.word; filling = Whole })

-- an instruction of a text, with these operands: their number and forms are tested before their registers
abbrev pub draft_of : TextValue → List OperandValue → Result Draft AsmWhy
draft_of text operands = do
  reading ← read_text text operands
  word ← ok_or reading.word UnknownName
  Ok (record { word = word; filling = reading.filling })

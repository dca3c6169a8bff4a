-- Operands, one after another.
use Rattle.std.proofs.Common.{◌≡◌, ◌<◌, List, [], ◌∷◌, ◌++◌, Result, Ok, Err, length, refl, arith}
use Rattle.asm_parse.specs.Operand.{OperandValue}
use Rattle.asm_parse.specs.declared.fault.AsmWhy.TheVariants.{Syntax}
use Rattle.mips_text.specs.declared.shape.OperandForm.{OperandForm}
use Rattle.asm_layout.specs.Draft.{Reading, read_operands}

-- items before those of an answer that may be a fault
abbrev pub before : {A E : Type 0} → List A → Result (List A) E → Result (List A) E
before front (Ok rest) = Ok (front ++ rest)
before front (Err e) = Err e

-- more operands than forms are Syntax
pub surplus : (forms : List OperandForm) (os : List OperandValue) (reading : Reading) → length forms ≡ 0 → 0 < length os → read_operands forms os reading ≡ Err Syntax
surplus [] [] reading none some = absurd (omega arith)
surplus [] (o ∷ os) reading none some = refl
surplus (form ∷ forms) os reading none some = absurd (omega arith)

-- A half and a register in brackets, read again.
use Rattle.std.proofs.Common.{◌≡◌, ℕ, ◌^◌, ◌<◌, true, List, [], ◌∷◌, ◌++◌, Some, None, arith, append_assoc, length-append, rules}
use Rattle.std.specs.Prelude.{◌==◌, not}
use Rattle.std.specs.List.{list_all}
use Rattle.std.proofs.lemmas.List.Folds.{list_all-append}
use Rattle.line_text.specs.Text.{dec_text}
use Rattle.asm_parse.specs.Expression.{literal_value}
use Rattle.asm_parse.specs.Operand.{Based, operand_of}
use Rattle.mips_list.specs.WordText.{signed_text}
use Rattle.assembler_laws.proofs.OperandTexts.{number_value, expression_none, register_none, based_number, decimal_bytes}
use Rattle.assembler_laws.proofs.NumberTexts.{IsNumber, IsOperand, by_sign, is_plain, decimal_then, negative_then, no_dollars, plain_alphanumeric, signed_text_read, signed_value}

-- a number, and a register in brackets
abbrev bracketed : List ℕ → ℕ → List ℕ
bracketed bs r = (bs ++ 40 ∷ []) ++ 36 ∷ (dec_text r ++ 41 ∷ [])

signed_then : (half r : ℕ) → half < 2 ^ 16 → literal_value (bracketed (signed_text half) r) ≡ None
signed_then half r small = search (rules, append_assoc, by_sign, decimal_then, negative_then)

signed_dollars : (half : ℕ) → half < 2 ^ 16 → list_all (λ b. not (b == 36)) (signed_text half ++ 40 ∷ []) ≡ true
signed_dollars half small = search (rules, by_sign, no_dollars, decimal_bytes)

plain_bracketed : (bs : List ℕ) (r : ℕ) → list_all is_plain bs ≡ true → r < 32 → list_all is_plain (bracketed bs r) ≡ true
plain_bracketed bs r plain small = search (rules, plain_alphanumeric, decimal_bytes, list_all-append)

-- a number that begins with none of the other forms, and a register in brackets behind it
based_operand : (bs : List ℕ) (n r : ℕ) → IsNumber bs n → list_all (λ b. not (b == 36)) (bs ++ 40 ∷ []) ≡ true
    → literal_value (bracketed bs r) ≡ None → r < 32 → operand_of (bracketed bs r) ≡ Some (Based (number_value n) (Some r))
unfolding operand_of
based_operand [] n r number dollars none small = absurd cc
based_operand (c ∷ cs) n r number dollars none small = search (rules, register_none, expression_none, based_number)

pub based_text_read : (half r : ℕ) → half < 2 ^ 16 → r < 32 → IsOperand (bracketed (signed_text half) r) (Based (number_value (signed_value half)) (Some r))
based_text_read half r small register =
    let number = signed_text_read half small in
    record {
      plain = plain_bracketed (signed_text half) r number.plain register;
      some = rw length-append (omega (arith, length-append (signed_text half) (40 ∷ [])));
      is = based_operand (signed_text half) (signed_value half) r number (signed_dollars half small) (signed_then half r small) register;
    }

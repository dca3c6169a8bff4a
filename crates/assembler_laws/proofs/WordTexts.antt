-- A printed instruction, as the assembler takes it.
use Rattle.std.proofs.Common.{◌≡◌, ℕ, ◌+◌, ◌%◌, ◌^◌, ◌<◌, Bool, true, false, List, [], ◌∷◌, ◌++◌, Some, Result, Ok, map, refl, sym, ap, subst, arith, eqb-true, append_assoc, rules}
use Rattle.std.specs.Prelude.{◌==◌, not, cond, filter}
use Rattle.line_text.specs.Text.{dec_text}
use Rattle.asm_parse.specs.declared.fault.AsmWhy.{AsmWhy}
use Rattle.asm_parse.specs.Operand.{OperandValue, Register, Value, Based}
use Rattle.mips_text.specs.Texts.{TextValue, field_word}
use Rattle.mips_text.specs.WordRows.{field_bits, field_of, operand_bits, slot_bits, slot_of}
use Rattle.mips_text.specs.declared.shape.Field.{Field}
use Rattle.mips_text.specs.declared.shape.Field.TheVariants.{Signed, Unsigned}
use Rattle.mips_text.specs.declared.shape.OperandForm.{OperandForm}
use Rattle.mips_text.specs.declared.shape.OperandForm.TheVariants as operands
use Rattle.mips_text.specs.declared.shape.Slot.{Slot}
use Rattle.mips_text.specs.declared.shape.Slot.TheVariants.{Rs}
use Rattle.mips_list.specs.WordText.{based_text, field_text, is_written, operand_text, operand_texts}
use Rattle.mips_asm.specs.Words.{filled_words, encoded_words}
use Rattle.asm_layout.specs.Content.{draft_length}
use Rattle.asm_layout.specs.Draft.{Draft, Reading, Whole, Filled, draft_of, read_operands}
use Rattle.asm_layout.specs.Value.{Names, value_of}
use Rattle.assembler_laws.proofs.OperandTexts.{number_value}
use Rattle.assembler_laws.proofs.NumberTexts.{IsOperand, number_operand, register_operand}
use Rattle.assembler_laws.proofs.BasedTexts.{based_text_read}
use Rattle.assembler_laws.proofs.ArgTexts.{AreOperands}
use Rattle.assembler_laws.proofs.FieldTexts.{field_back, field_text_read, field_value}

abbrev field_operand : Field → ℕ → ℕ → OperandValue
field_operand field word address = Value (number_value (field_value field word address))

-- the operand that is printed of a word
abbrev operand_value : OperandForm → ℕ → ℕ → OperandValue
operand_value (operands.Register slot) word address = Register (Some (slot_of slot word))
operand_value (operands.Value field) word address = field_operand field word address
operand_value (operands.Optional field) word address = field_operand field word address
operand_value operands.Based word address = Based (number_value (field_value Signed word address)) (Some (slot_of Rs word))
operand_value operands.Halves word address = field_operand Unsigned word address

abbrev pub operand_values : List OperandForm → ℕ → ℕ → List OperandValue
operand_values forms word address = map (λ form. operand_value form word address) (filter (λ form. is_written form word) forms)

slot_small : (slot : Slot) (word : ℕ) → slot_of slot word < 32
slot_small slot word = search rules

field_read : (field : Field) (word address : ℕ) → IsOperand (field_text field word address) (field_operand field word address)
field_read field word address = number_operand _ _ (field_text_read field word address)

based_read : (word address : ℕ) → IsOperand (based_text word address) (Based (number_value (field_value Signed word address)) (Some (slot_of Rs word)))
based_read word address =
    let read = based_text_read (field_of Signed word) (slot_of Rs word) (omega arith) (slot_small Rs word) in
    subst (λ (bs : List ℕ). IsOperand bs (Based (number_value (field_value Signed word address)) (Some (slot_of Rs word))))
    (sym (append_assoc (field_text Signed word address ++ 40 ∷ []) (36 ∷ dec_text (slot_of Rs word)) (41 ∷ []))) read

operand_read : (form : OperandForm) (word address : ℕ) → IsOperand (operand_text form word address) (operand_value form word address)
operand_read (operands.Register slot) word address = register_operand (slot_of slot word) (slot_small slot word)
operand_read (operands.Value field) word address = field_read field word address
operand_read (operands.Optional field) word address = field_read field word address
operand_read operands.Based word address = based_read word address
operand_read operands.Halves word address = field_read Unsigned word address

all_read : (forms : List OperandForm) (word address : ℕ) → AreOperands (map (λ form. operand_text form word address) forms) (map (λ form. operand_value form word address) forms)
all_read [] word address = tt
all_read (form ∷ forms) word address = (operand_read form word address, all_read forms word address)

-- each printed operand is read as that
pub texts_read : (forms : List OperandForm) (word address : ℕ) → AreOperands (operand_texts forms word address) (operand_values forms word address)
texts_read forms word address = all_read (filter (λ form. is_written form word) forms) word address

-- a draft that makes a word at an address
pub record Makes (draft : Result Draft AsmWhy) (word address : ℕ) : Type 0 where
  pub made : Draft
  pub is : draft ≡ Ok made
  pub size : draft_length made ≡ 4
  pub words : (names : Names) → encoded_words names address made ≡ Ok (word ∷ [])

-- the same of what is read
record Reads (reading : Result Reading AsmWhy) (word address : ℕ) : Type 0 where
  made : Draft
  is : reading ≡ Ok (record { word = Some made.word; filling = made.filling })
  size : draft_length made ≡ 4
  words : (names : Names) → encoded_words names address made ≡ Ok (word ∷ [])

whole : (reading : Result Reading AsmWhy) (w word address : ℕ) → reading ≡ Ok (record { word = Some w; filling = Whole }) → w ≡ word → Reads reading word address
unfolding filled_words
whole reading w word address is same = record { made = record { word = w; filling = Whole }; is = is; size = refl; words = λ names. ap (λ v. Ok (v ∷ [])) same }

filled : (reading : Result Reading AsmWhy) (field : Field) (w word address : ℕ) → address % 4 ≡ 0 → address + 4 < 2 ^ 32
    → reading ≡ Ok (record { word = Some w; filling = Filled field (number_value (field_value field word address)) }) → w + field_bits field word ≡ word → Reads reading word address
unfolding filled_words value_of
filled reading field w word address aligned below is same = record {
  made = record { word = w; filling = Filled field (number_value (field_value field word address)) };
  is = is;
  size = refl;
  words = λ names. rw (field_back field word address aligned below, same) refl;
}

field_zero : (field : Field) (n : ℕ) → n ≡ 0 → field_word field n ≡ 0
field_zero field n is = search rules

-- operands of the main rows: an expression stands last, and it makes no second word
abbrev pub is_one_word : List OperandForm → Bool
is_one_word [] = true
is_one_word (operands.Register slot ∷ forms) = is_one_word forms
is_one_word (operands.Value field ∷ []) = true
is_one_word (operands.Optional field ∷ []) = true
is_one_word (operands.Based ∷ []) = true
is_one_word _ = false

-- what is printed of a word is read to what makes the word
reads : (forms : List OperandForm) (w word address : ℕ) → is_one_word forms ≡ true → word ≡ w + operand_bits forms word → address % 4 ≡ 0 → address + 4 < 2 ^ 32
    → Reads (read_operands forms (operand_values forms word address) (record { word = Some w; filling = Whole })) word address
reads [] w word address one is aligned below = whole _ w word address refl (omega (arith, is))
reads (operands.Register slot ∷ forms) w word address one is aligned below = reads forms (w + slot_bits slot word) word address one (omega (arith, is)) aligned below
reads (operands.Value field ∷ []) w word address one is aligned below = filled _ field w word address aligned below refl (omega (arith, is))
reads (operands.Optional field ∷ []) w word address one is aligned below = by_number (field_of field word == 0) refl
  where
    by_number : (v : Bool) → (field_of field word == 0) ≡ v →
        Reads (read_operands (operands.Optional field ∷ []) (map (λ form. operand_value form word address) (cond (not v) (operands.Optional field ∷ []) [])) (record { word = Some w; filling = Whole })) word address
    by_number true none = let zero = field_zero field (field_of field word) (eqb-true (field_of field word) 0 none) in whole _ w word address refl (omega (arith, is, zero))
    by_number false some = filled _ field w word address aligned below refl (omega (arith, is))
reads (operands.Based ∷ []) w word address one is aligned below = filled _ Signed (w + slot_bits Rs word) word address aligned below refl (omega (arith, is))
reads _ w word address one is aligned below = cc

-- what is printed of a word makes the word
pub makes_word : (text : TextValue) (word address : ℕ) → is_one_word text.operands ≡ true → word ≡ text.word + operand_bits text.operands word → address % 4 ≡ 0 → address + 4 < 2 ^ 32
    → Makes (draft_of text (operand_values text.operands word address)) word address
makes_word text word address one is aligned below =
    let read = reads text.operands text.word word address one is aligned below in
    record { made = read.made; is = rw read.is refl; size = read.size; words = read.words }

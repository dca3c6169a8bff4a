-- The text of a word: its instruction as the assembler reads it.
use Rattle.std.specs.Prelude.{ℕ, Bool, true, not, map, filter, ◌+◌, ◌-◌, ◌*◌, ◌/◌, ◌%◌, ◌^◌, List, [], ◌∷◌, ◌++◌, Option, Some, None, nat_lt, ◌==◌, if◌then◌else◌, codes}
use Rattle.std.specs.Str.{byte}
use Rattle.line_text.specs.Text.{dec_text, hex_text}
use Rattle.mips_isa.specs.Encoding.{insn_of}
use Rattle.mips_isa.specs.Word.{sign16_of}
use Rattle.mips_text.specs.Texts.{TextValue}
use Rattle.mips_text.specs.WordRows.{field_of, is_nameless, row_of, slot_of}
use Rattle.mips_text.specs.declared.shape.Field.{Field}
use Rattle.mips_text.specs.declared.shape.Field.TheVariants.{Amount, Signed, Unsigned, Code, Branch, Jump}
use Rattle.mips_text.specs.declared.shape.OperandForm.{OperandForm}
use Rattle.mips_text.specs.declared.shape.OperandForm.TheVariants.{Register, Value, Optional, Based, Halves}
use Rattle.mips_text.specs.declared.shape.Slot.{Slot}
use Rattle.mips_text.specs.declared.shape.Slot.TheVariants.{Rs}

-- a number in so many hexadecimal digits
abbrev pub hexadecimal : ℕ → ℕ → List ℕ
hexadecimal digits n = codes "0x" ++ hex_text digits n

-- a half as a number with its sign
abbrev pub signed_text : ℕ → List ℕ
signed_text half = if nat_lt half (2 ^ 15) then dec_text half else codes "-" ++ dec_text (2 ^ 16 - half)

-- where a branch with this half goes, from an address
abbrev pub branch_target : ℕ → ℕ → ℕ
branch_target address half = (address + 4 + 4 * sign16_of half) % 2 ^ 32

-- where a jump with these 26 bits goes, from an address: bits 31:28 are those of the address behind it
abbrev pub jump_target : ℕ → ℕ → ℕ
jump_target address target = (address + 4) % 2 ^ 32 / 2 ^ 28 * 2 ^ 28 + 4 * target

-- the register in a slot of a word
abbrev pub slot_text : Slot → ℕ → List ℕ
slot_text slot word = codes "$" ++ dec_text (slot_of slot word)

-- the number in a field of a word that stands at an address
abbrev pub field_text : Field → ℕ → ℕ → List ℕ
field_text Amount word address = dec_text (field_of Amount word)
field_text Signed word address = signed_text (field_of Signed word)
field_text Unsigned word address = hexadecimal 4 (field_of Unsigned word)
field_text Code word address = dec_text (field_of Code word)
field_text Branch word address = hexadecimal 8 (branch_target address (field_of Branch word))
field_text Jump word address = hexadecimal 8 (jump_target address (field_of Jump word))

-- a signed half, and `rs` in brackets
abbrev pub based_text : ℕ → ℕ → List ℕ
based_text word address = field_text Signed word address ++ codes "(" ++ slot_text Rs word ++ codes ")"

-- how an operand of a word that stands at an address reads
abbrev pub operand_text : OperandForm → ℕ → ℕ → List ℕ
operand_text (Register slot) word address = slot_text slot word
operand_text (Value field) word address = field_text field word address
operand_text (Optional field) word address = field_text field word address
operand_text Based word address = based_text word address
operand_text Halves word address = field_text Unsigned word address

-- whether an operand of a word is written: an optional one that is 0 isn't
abbrev pub is_written : OperandForm → ℕ → Bool
is_written (Optional field) word = not (field_of field word == 0)
is_written _ word = true

-- the operands of a word, in the order in which they are written
abbrev pub operand_texts : List OperandForm → ℕ → ℕ → List (List ℕ)
operand_texts forms word address =
    map (λ form. operand_text form word address) (filter (λ form. is_written form word) forms)

-- texts with a mark before the first, and a comma before each further one
abbrev pub marked : ℕ → List (List ℕ) → List ℕ
marked mark [] = []
marked mark (text ∷ texts) = mark ∷ text ++ marked (byte ",") texts

-- operands behind a name
abbrev pub after_name : List (List ℕ) → List ℕ
after_name texts = marked (byte " ") texts

-- an instruction by its row: its name and its operands
abbrev pub row_text : List ℕ × TextValue → ℕ → ℕ → List ℕ
row_text row word address = row.0 ++ after_name (operand_texts row.1.operands word address)

-- a word as a number
abbrev pub data_text : ℕ → List ℕ
data_text word = codes ".word " ++ hexadecimal 8 word

-- a word by its row, or as a number where it has none
abbrev pub text_by : Option (List ℕ × TextValue) → ℕ → ℕ → List ℕ
text_by None word address = data_text word
text_by (Some row) word address = row_text row word address

-- a word that stands at an address: as a number where its instruction has no name, else by its row
unfoldable pub word_text : ℕ → ℕ → List ℕ
word_text word address =
    if is_nameless (insn_of word) then data_text word else text_by (row_of word) word address

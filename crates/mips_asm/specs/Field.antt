-- The fields of instructions that values give.
use Rattle.std.specs.Prelude.{ℕ, ◌+◌, ◌-◌, ◌/◌, ◌%◌, ◌^◌, Bool, Result, Ok, Err, nat_le, ◌==◌, ◌||◌, if◌then◌else◌}
use Rattle.asm_parse.specs.Expression.{ExpressionValue}
use Rattle.asm_parse.specs.declared.fault.AsmWhy.{AsmWhy}
use Rattle.asm_parse.specs.declared.fault.AsmWhy.TheVariants.{OutOfRange, Unaligned}
use Rattle.mips_text.specs.Texts.{field_word}
use Rattle.mips_text.specs.declared.shape.Field.{Field}
use Rattle.mips_text.specs.declared.shape.Field.TheVariants.{Amount, Signed, Unsigned, Code, Branch, Jump}
use Rattle.line_text.specs.Outcome.{◌>>=◌}
use Rattle.asm_layout.specs.Value.{Names, defined}

-- whether a value is equal to a number from -low to high, modulo 2 ^ 32
abbrev pub lies : ℕ → ℕ → ℕ → Bool
lies low high v = nat_le v high || nat_le (2 ^ 32 - low) v

-- a value, where it passes a test
abbrev pub ranged : Bool → ℕ → Result ℕ AsmWhy
ranged fits v = if fits then Ok v else Err OutOfRange

-- where a branch or a jump goes is a multiple of 4
abbrev pub aligned_target : ℕ → Result ℕ AsmWhy → Result ℕ AsmWhy
aligned_target v field = if v % 4 == 0 then field else Err Unaligned

-- how far an address lies behind the word after a place, modulo 2 ^ 32
abbrev pub distance : ℕ → ℕ → ℕ
distance place v = (v + 2 ^ 32 - (place + 4)) % 2 ^ 32

-- the field of a value, in an instruction at a place
abbrev pub bits_of_field : Field → ℕ → ℕ → Result ℕ AsmWhy
bits_of_field Amount place v = ranged (lies 0 31 v) v
bits_of_field Signed place v = ranged (lies 32768 32767 v) (v % 2 ^ 16)
bits_of_field Unsigned place v = ranged (lies 0 65535 v) v
bits_of_field Code place v = ranged (lies 0 (2 ^ 20 - 1) v) v
-- a branch reaches 2 ^ 15 words back and 2 ^ 15 - 1 words on from the word after it
bits_of_field Branch place v =
    aligned_target v (ranged (lies (2 ^ 17) (2 ^ 17 - 4) (distance place v)) (distance place v / 4 % 2 ^ 16))
-- a jump reaches what has bits 31:28 of the word after it
bits_of_field Jump place v = aligned_target v (ranged (v / 2 ^ 28 == (place + 4) / 2 ^ 28) (v % 2 ^ 28 / 4))

-- the bits of the word that a value's field fills, in an instruction at a place
abbrev pub bits_of : Field → ℕ → ℕ → Result ℕ AsmWhy
bits_of field place v = do
  n ← bits_of_field field place v
  Ok (field_word field n)

-- the bits of the word that the field of an expression fills
abbrev pub field_bits_in : Names → Field → ℕ → ExpressionValue → Result ℕ AsmWhy
field_bits_in names field place e = do
  v ← defined names e
  bits_of field place v

-- Numbers in memory.
use Rattle.std.specs.Prelude.{ℕ, ◌%◌, ◌^◌, Bool, true, List, [], ◌∷◌, Result, Ok, Err, if◌then◌else◌}
use Rattle.std.specs.List.{flat_map, list_all}
use Rattle.std.specs.Int.{w32, to_le_bytes, w16}
use Rattle.asm_parse.specs.declared.fault.AsmWhy.{AsmWhy}
use Rattle.asm_parse.specs.declared.fault.AsmWhy.TheVariants.{OutOfRange}
use Rattle.asm_layout.specs.declared.number.NumberSize.{NumberSize}
use Rattle.asm_layout.specs.declared.number.NumberSize.TheVariants.{Byte, Half, Word}
use Rattle.mips_asm.specs.Field.{lies}

-- whether a value lies in the range of `.byte`, `.half` and `.word`
abbrev pub number_fits : NumberSize → ℕ → Bool
number_fits Byte v = lies 128 255 v
number_fits Half v = lies 32768 65535 v
number_fits Word v = true

-- a number in memory, the lowest byte first
abbrev pub number_bytes : NumberSize → ℕ → List ℕ
number_bytes Byte v = v % 2 ^ 8 ∷ []
number_bytes Half v = to_le_bytes w16 (v % 2 ^ 16)
number_bytes Word v = to_le_bytes w32 v

-- numbers in memory, where each lies in its range
abbrev pub numbers_bytes : NumberSize → List ℕ → Result (List ℕ) AsmWhy
numbers_bytes size vs = if list_all (number_fits size) vs then Ok (flat_map (number_bytes size) vs) else Err OutOfRange

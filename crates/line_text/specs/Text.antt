-- How numbers and bytes stand in what Aegis writes.
use Rattle.std.specs.Prelude.{ℕ, Bool, zero, suc, ◌/◌, ◌%◌, List, [], ◌∷◌, ◌++◌, nat_le, ◌==◌, ◌&&◌, if◌then◌else◌, codes}
use Rattle.std.specs.Char.{digit_char}
use Rattle.std.specs.Fmt.{decimal}
use Rattle.std.specs.List.{flat_map}

-- a number in decimal, without leading zeros
unfoldable pub dec_text : ℕ → List ℕ
dec_text n = decimal n

-- so many low hexadecimal digits of a number, the highest first, leading zeros too
unfoldable pub hex_text : ℕ → ℕ → List ℕ
hex_text zero n = []
hex_text (suc k) n = hex_text k (n / 16) ++ digit_char (n % 16) ∷ []

-- whether a byte is printed as it is: from the space to `~`
abbrev pub is_printable : ℕ → Bool
is_printable b = nat_le 32 b && nat_le b 126

-- a byte between quotation marks
abbrev pub quoted_byte : ℕ → List ℕ
quoted_byte b =
    if b == 34 then codes "\\\"" else
    if b == 92 then codes "\\\\" else
    if b == 10 then codes "\\n" else
    if is_printable b then b ∷ [] else
    codes "\\x" ++ hex_text 2 b

-- bytes between quotation marks, without the marks
unfoldable pub quoted_text : List ℕ → List ℕ
quoted_text bytes = flat_map quoted_byte bytes

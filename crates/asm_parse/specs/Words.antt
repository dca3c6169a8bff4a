-- Names, registers and quoted texts.
use Rattle.std.specs.Prelude.{ℕ, Bool, true, false, List, [], ◌∷◌, Option, Some, None, nat_lt, ◌==◌, ◌&&◌, ◌||◌, length, if◌then◌else◌}
use Rattle.std.specs.Char.{is_ascii_alphanumeric}
use Rattle.std.specs.List.{list_all}
use Rattle.std.specs.Option.{option_map, option_and_then}
use Rattle.std.specs.Str.{byte}
use Rattle.asm_parse.specs.Bytes.{is_name_start}

-- whether bytes begin as a name does: with a letter, `_` or `.`
abbrev pub begins_name : List ℕ → Bool
begins_name [] = false
begins_name (b ∷ bs) = is_name_start b

-- a register: `$` with letters or digits
abbrev pub is_register : List ℕ → Bool
is_register [] = false
is_register (b ∷ bs) = b == byte "$" && nat_lt 0 (length bs) && list_all is_ascii_alphanumeric bs

-- the byte that an escape stands for: `\n`, `\t`, `\0`, `\\` and `\"`
abbrev pub escaped : ℕ → Option ℕ
escaped c =
    if c == byte "n" then Some 10 else
    if c == byte "t" then Some 9 else
    if c == byte "0" then Some 0 else
    if c == byte "\\" || c == byte "\"" then Some c else
    None

-- what stands behind the opening mark of a quoted text, or behind a backslash in one, as the bytes that
-- it means: the closing mark is its end
abbrev pub unquoted_from : Bool → List ℕ → Option (List ℕ)
unquoted_from escape [] = None
unquoted_from false (b ∷ bs) =
    if b == byte "\"" then (if length bs == 0 then Some [] else None) else
    if b == byte "\\" then unquoted_from true bs else
    option_map (λ text. b ∷ text) (unquoted_from false bs)
unquoted_from true (b ∷ bs) = option_and_then (λ e. option_map (λ text. e ∷ text) (unquoted_from false bs)) (escaped b)

-- the bytes that a quoted text means, by what stands behind its opening mark
abbrev pub meant : List ℕ → Option (List ℕ)
meant bs = unquoted_from false bs

-- the bytes that a quoted text means
abbrev pub unquoted : List ℕ → Option (List ℕ)
unquoted [] = None
unquoted (b ∷ bs) = if b == byte "\"" then meant bs else None

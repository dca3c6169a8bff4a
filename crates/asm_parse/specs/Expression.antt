-- Expressions: numbers, names, a name and a number, and the halves of these.
use Rattle.std.specs.Prelude.{ℕ, ◌-◌, ◌*◌, ◌/◌, ◌%◌, ◌^◌, List, [], ◌∷◌, Option, Some, None, nat_le, nat_eq, ◌==◌, ◌&&◌, if◌then◌else◌, length, take, drop, codes}
use Rattle.std.specs.List.{list_all, starts_with, take_while}
use Rattle.std.specs.Option.{option_map, option_and_then}
use Rattle.std.specs.Str.{byte}
use Rattle.line_text.specs.Number.{numeral_of}
use Rattle.asm_parse.specs.Bytes.{is_name_byte}
use Rattle.asm_parse.specs.Words.{begins_name}
use Rattle.asm_parse.specs.declared.openings.Half.{Half}
use Rattle.asm_parse.specs.declared.openings.Half.TheVariants.{High, Low}

-- an expression without brackets; numbers count modulo 2 ^ 32
pub data InnerValue : Type 0 where
  Number : ℕ → InnerValue
  Name : List ℕ → InnerValue
  Sum : List ℕ → ℕ → InnerValue

-- an expression: the halves that it takes, the outermost first, of what stands inside
pub record ExpressionValue : Type 0 where
  pub halves : List Half
  pub inner : InnerValue

-- a half of a value: bits 31:16 or bits 15:0
abbrev pub half_of : Half → ℕ → ℕ
half_of High v = v / 2 ^ 16
half_of Low v = v % 2 ^ 16

-- what halves leave of a value, the outermost of which is taken last
abbrev pub halves_of : List Half → ℕ → ℕ
halves_of [] v = v
halves_of (half ∷ halves) v = half_of half (halves_of halves v)

-- the number modulo 2 ^ 32 that is equal to minus this one
abbrev pub negated : ℕ → ℕ
negated n = (2 ^ 32 - n) % 2 ^ 32

-- a number from -2 ^ 31 to 2 ^ 32 - 1: decimal digits, with a minus sign or without, or `0x` and hexadecimal digits
unfoldable pub literal_value : List ℕ → Option ℕ
literal_value bs =
    if starts_with nat_eq bs (codes "0x") then numeral_of 16 (2 ^ 32 - 1) (drop 2 bs) else
    if starts_with nat_eq bs (codes "-") then option_map negated (numeral_of 10 (2 ^ 31) (drop 1 bs)) else
    numeral_of 10 (2 ^ 32 - 1) bs

-- a name and what follows it: nothing, or a number that is added or taken away
abbrev pub named : List ℕ → List ℕ → Option InnerValue
named name [] = Some (Name name)
named name (sign ∷ number) =
    if sign == byte "+" then option_map (λ n. Sum name n) (literal_value number) else
    if sign == byte "-" then option_map (λ n. Sum name (negated n)) (literal_value number) else
    None

unfoldable pub inner_of : List ℕ → Option InnerValue
inner_of bs =
    if begins_name bs then (let name = take_while is_name_byte bs in named name (drop (length name) bs))
    else option_map (λ n. Number n) (literal_value bs)

-- the half that bytes open at their front, by `hi(` or `lo(`
abbrev pub half_opened : List ℕ → Option Half
half_opened bs =
    if starts_with nat_eq bs (codes "hi(") then Some High else
    if starts_with nat_eq bs (codes "lo(") then Some Low else
    None

-- a half, if there is one, before those that are opened behind it
abbrev pub half_before : Option Half → List Half → List Half
half_before None halves = []
half_before (Some half) halves = half ∷ halves

-- the halves that bytes open at their front, one after another
abbrev pub halves_opened : List ℕ → List Half
halves_opened [] = []
halves_opened (a ∷ []) = []
halves_opened (a ∷ b ∷ []) = []
halves_opened (a ∷ b ∷ c ∷ bs) = half_before (half_opened (a ∷ b ∷ c ∷ [])) (halves_opened bs)

-- bytes less so many closing brackets at their end
abbrev pub without_closings : ℕ → List ℕ → Option (List ℕ)
without_closings depth bs =
    let inside = length bs - depth in
    if nat_le depth (length bs) && list_all (λ b. b == byte ")") (drop inside bs) then Some (take inside bs) else None

-- an expression: openings, what stands inside, and a closing bracket for each of the openings
unfoldable pub expression_of : List ℕ → Option ExpressionValue
expression_of bs =
    let halves = halves_opened bs in
    option_and_then
    (λ inside. option_map (λ inner. record { halves = halves; inner = inner }) (inner_of inside))
    (without_closings (length halves) (drop (3 * length halves) bs))

-- a half of an expression
abbrev pub taken : Half → ExpressionValue → ExpressionValue
taken half e = record { halves = half ∷ e.halves; inner = e.inner }

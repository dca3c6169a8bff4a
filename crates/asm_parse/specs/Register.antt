-- Registers by number and by name.
use Rattle.std.specs.Prelude.{ℕ, List, [], ◌∷◌, Option, drop, codes}
use Rattle.std.specs.Map.{lookup}
use Rattle.std.specs.Option.{option_or}
use Rattle.std.specs.Str.{bytes_eq}
use Rattle.line_text.specs.Number.{numeral_of}

-- the names of the registers, with their numbers
abbrev pub register_names : List (List ℕ × ℕ)
register_names =
    (codes "zero", 0) ∷ (codes "at", 1)
    ∷ (codes "v0", 2) ∷ (codes "v1", 3)
    ∷ (codes "a0", 4) ∷ (codes "a1", 5) ∷ (codes "a2", 6) ∷ (codes "a3", 7)
    ∷ (codes "t0", 8) ∷ (codes "t1", 9) ∷ (codes "t2", 10) ∷ (codes "t3", 11)
    ∷ (codes "t4", 12) ∷ (codes "t5", 13) ∷ (codes "t6", 14) ∷ (codes "t7", 15)
    ∷ (codes "s0", 16) ∷ (codes "s1", 17) ∷ (codes "s2", 18) ∷ (codes "s3", 19)
    ∷ (codes "s4", 20) ∷ (codes "s5", 21) ∷ (codes "s6", 22) ∷ (codes "s7", 23)
    ∷ (codes "t8", 24) ∷ (codes "t9", 25)
    ∷ (codes "k0", 26) ∷ (codes "k1", 27)
    ∷ (codes "gp", 28) ∷ (codes "sp", 29) ∷ (codes "fp", 30) ∷ (codes "ra", 31)
    ∷ []

-- the number of a register without its `$`: a decimal number up to 31, or a name
unfoldable pub number_of_register : List ℕ → Option ℕ
number_of_register name = option_or (numeral_of 10 31 name) (lookup (bytes_eq name) register_names)

-- the number of a register, behind its `$`
abbrev pub register_of : List ℕ → Option ℕ
register_of bs = number_of_register (drop 1 bs)

-- The words of a line of a ledger or a plan, and the numbers that they spell.
use Rattle.std.specs.Prelude.{ℕ, Bool, List, [], Option, Some, None, Result, length, nat_lt, nat_le, ◌==◌, ◌&&◌, codes}
use Rattle.std.specs.Borrow.{Bor}
use Rattle.std.specs.List.{list_all, slice_split}
use Rattle.std.specs.Option.{ok_or}
use Rattle.std.specs.Str.{bytes_eq}
use Rattle.line_text.specs.Number.{numeral_of}
use Rattle.ledger_text.specs.declared.fault.LedgerWhy.{LedgerWhy}
use Rattle.ledger_text.specs.declared.fault.LedgerWhy.TheVariants.{Range}

abbrev pub is_space : ℕ → Bool
is_space b = b == 32

-- what single spaces part
abbrev pub spaced_words : List ℕ → List (List ℕ)
spaced_words text = slice_split is_space text

-- the words of what is left of a line, if anything is
abbrev pub words_left : Option (Bor (List ℕ)) → List (List ℕ)
words_left None = []
words_left (Some rest) = spaced_words rest.now

abbrev pub is_decimal : ℕ → Bool
is_decimal b = nat_le 48 b && nat_le b 57

-- one or more decimal digits
abbrev pub is_numeral : List ℕ → Bool
is_numeral word = nat_lt 0 (length word) && list_all is_decimal word

-- in place of a number that there isn't
abbrev pub is_dash : List ℕ → Bool
is_dash word = bytes_eq word (codes "-")

-- the number that digits spell, which is at most so much
abbrev pub number_in : ℕ → List ℕ → Result ℕ LedgerWhy
number_in most word = ok_or (numeral_of 10 most word) Range

-- What the words of a ledger's row say.
use Rattle.std.specs.Prelude.{ℕ, ◌+◌, Bool, List, [], ◌∷◌, map, Option, Some, None, unwrap_or, Result, Ok, Err, ◌||◌, if◌then◌else◌}
use Rattle.std.specs.List.{list_all}
use Rattle.aegis_limits.specs.Limits.{most_run_ticks}
use Rattle.line_text.specs.Number.{numeral_of}
use Rattle.kernel_journal.specs.declared.reading.RowFault.{RowFault}
use Rattle.kernel_journal.specs.declared.reading.RowFault.TheVariants as fault
use Rattle.kernel_journal.specs.declared.row.Row.{Row}
use Rattle.kernel_journal.specs.RowTable.{row_of}
use Rattle.ledger_text.specs.declared.fault.LedgerWhy.{LedgerWhy}
use Rattle.ledger_text.specs.declared.fault.LedgerWhy.TheVariants.{Syntax, Range}
use Rattle.ledger_text.specs.Limits.{last_environment, most_number}
use Rattle.ledger_text.specs.Words.{is_dash, is_numeral, number_in}

abbrev pub time_in : List ℕ → Result ℕ LedgerWhy
time_in word = number_in most_run_ticks word

abbrev pub env_in : List ℕ → Result ℕ LedgerWhy
env_in word = number_in last_environment word

abbrev pub other_in : List ℕ → Result ℕ LedgerWhy
other_in word = number_in most_number word

-- what is said by words that are all numbers; a word that is none is a fault of form, which comes first
abbrev pub if_numerals : {X : Type 0} → List (List ℕ) → Result X LedgerWhy → Result X LedgerWhy
if_numerals words said = if list_all is_numeral words then said else Err Syntax

-- A word of a row stands for a number, or, as a dash, for none. What is too large for any row stands for 2 ^ 32.
abbrev pub is_said : List ℕ → Bool
is_said word = is_dash word || is_numeral word

abbrev pub number_said : List ℕ → Option ℕ
number_said word = if is_dash word then None else Some (unwrap_or (numeral_of 10 most_number word) (most_number + 1))

-- the row of a name and of words, if these stand for numbers
abbrev pub row_or_fault : Result Row RowFault → Result Row LedgerWhy
row_or_fault (Ok r) = Ok r
row_or_fault (Err fault.Form) = Err Syntax
row_or_fault (Err fault.Range) = Err Range

abbrev pub row_told : List ℕ → List (List ℕ) → Result Row LedgerWhy
row_told name words = if list_all is_said words then row_or_fault (row_of name (map number_said words)) else Err Syntax

abbrev pub row_said : List (List ℕ) → Result Row LedgerWhy
row_said (name ∷ words) = row_told name words
row_said [] = Err Syntax

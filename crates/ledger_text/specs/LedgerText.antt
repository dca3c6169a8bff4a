-- A report as a ledger: what each of its lines says, and the first fault.
use Rattle.std.specs.Prelude.{ℕ, List, [], ◌∷◌, ◌++◌, Bool, true, false, Result, Ok, Err, if◌then◌else◌, codes}
use Rattle.std.specs.Option.{ok_or}
use Rattle.std.specs.Str.{bytes_eq}
use Rattle.line_text.specs.declared.failure.LineFault.{LineFault}
use Rattle.line_text.specs.Failing.{fault_at, in_line}
use Rattle.line_text.specs.Lines.{LineValue, lines_of}
use Rattle.line_text.specs.Outcome.{◌>>=◌}
use Rattle.line_text.specs.Statements.{end_of}
use Rattle.kernel_journal.specs.declared.row.Row.{Row}
use Rattle.ledger_text.specs.declared.fault.LedgerWhy.{LedgerWhy}
use Rattle.ledger_text.specs.declared.fault.LedgerWhy.TheVariants.{Syntax}
use Rattle.ledger_text.specs.declared.kind.LineKind.{LineKind}
use Rattle.ledger_text.specs.declared.kind.LineKind.TheVariants as kind
use Rattle.ledger_text.specs.declared.entry.Entry.{Entry}
use Rattle.ledger_text.specs.declared.entry.Entry.TheVariants as entry
use Rattle.ledger_text.specs.declared.ledger.Ledger.{Ledger}
use Rattle.ledger_text.specs.LineKinds.{first_word, is_kind_done, kind_after, may_follow}
use Rattle.ledger_text.specs.RowText.{env_in, if_numerals, other_in, row_said, time_in}
use Rattle.ledger_text.specs.Words.{spaced_words}

-- Whether the run ended because the board was idle, and when; the lines of the environments; the rows and the sums, each
-- with its line; and the line after these. A sum has an environment, and how many rows of it are runs, pays and overs.
pub record LedgerValue : Type 0 where
  pub idle : Bool
  pub time : ℕ
  pub environments : List ℕ
  pub rows : List (ℕ × Row)
  pub sums : List (ℕ × List ℕ)
  pub done : ℕ

abbrev pub ledger_seen : Ledger → LedgerValue
ledger_seen ledger = record {
  idle = ledger.idle;
  time = ledger.time;
  environments = ledger.environments.items;
  rows = ledger.rows.items;
  sums = ledger.sums.items;
  done = ledger.done;
}

abbrev pub no_ledger : LedgerValue
no_ledger = record { idle = false; time = 0; environments = []; rows = []; sums = []; done = 0 }

-- how a run ended
abbrev pub end_said : Bool → List ℕ → Result Entry LedgerWhy
end_said idle time = if_numerals (time ∷ []) (time_in time >>= λ t. Ok (entry.End idle t))

abbrev pub end_form : List (List ℕ) → Result Entry LedgerWhy
end_form (name ∷ how ∷ time ∷ []) =
    if bytes_eq how (codes "limit") then end_said false time else
    if bytes_eq how (codes "idle") then end_said true time else
    Err Syntax
end_form words = Err Syntax

abbrev pub sum_said : List ℕ → List ℕ → List ℕ → List ℕ → Result Entry LedgerWhy
sum_said env runs pays overs = do
  e ← env_in env
  r ← other_in runs
  p ← other_in pays
  o ← other_in overs
  Ok (entry.Sum (e ∷ r ∷ p ∷ o ∷ []))

unfoldable pub sum_of : List ℕ → List ℕ → List ℕ → List ℕ → Result Entry LedgerWhy
sum_of env runs pays overs = if_numerals (env ∷ runs ∷ pays ∷ overs ∷ []) (sum_said env runs pays overs)

abbrev pub sum_form : List (List ℕ) → Result Entry LedgerWhy
sum_form (name ∷ env ∷ runs ∷ pays ∷ overs ∷ []) =
    if bytes_eq name (codes "sum") then sum_of env runs pays overs else Err Syntax
sum_form words = Err Syntax

-- a line that has just this text
abbrev pub only_text : LineKind → List ℕ → List ℕ → Result Entry LedgerWhy
only_text known wanted text = if bytes_eq text wanted then Ok (entry.Other known) else Err Syntax

-- what a line of a kind says
abbrev pub said_by : LineKind → List ℕ → Result Entry LedgerWhy
said_by kind.Title text = only_text kind.Title (codes "aegis run") text
said_by kind.Done text = only_text kind.Done (codes "done") text
said_by kind.End text = end_form (spaced_words text)
said_by kind.Row text = row_said (spaced_words text) >>= λ r. Ok (entry.Row r)
said_by kind.Sum text = sum_form (spaced_words text)
said_by known text = Ok (entry.Other known)

-- a line of this kind, if it may stand behind the last one
abbrev pub placed : LineKind → LineKind → List ℕ → Result Entry LedgerWhy
placed last known text = if may_follow last known then said_by known text else Err Syntax

abbrev pub line_said : LineKind → List ℕ → Result Entry LedgerWhy
line_said last text = ok_or (kind_after last (first_word text)) Syntax >>= λ known. placed last known text

abbrev pub kind_of : Entry → LineKind
kind_of (entry.Other known) = known
kind_of (entry.End idle time) = kind.End
kind_of (entry.Row r) = kind.Row
kind_of (entry.Sum sum) = kind.Sum

-- the ledger with one line more of which the first word is all that is read
abbrev pub with_kind : ℕ → LineKind → LedgerValue → LedgerValue
with_kind line kind.Env ledger = record ledger { environments = ledger.environments ++ line ∷ [] }
with_kind line kind.Done ledger = record ledger { done = line }
with_kind line known ledger = ledger

-- the ledger with one line more
abbrev pub with_entry : ℕ → Entry → LedgerValue → LedgerValue
with_entry line (entry.Other known) ledger = with_kind line known ledger
with_entry line (entry.End idle time) ledger = record ledger { idle = idle; time = time }
with_entry line (entry.Row r) ledger = record ledger { rows = ledger.rows ++ (line, r) ∷ [] }
with_entry line (entry.Sum sum) ledger = record ledger { sums = ledger.sums ++ (line, sum) ∷ [] }

-- The ledger of lines behind those that are read, the last of them of this kind. A text that ends too early is at fault
-- behind its last line.
abbrev pub read_from : ℕ → LineKind → LedgerValue → List LineValue → Result LedgerValue (LineFault LedgerWhy)
read_from end last ledger [] = if is_kind_done last then Ok ledger else Err (fault_at end Syntax)
read_from end last ledger (line ∷ lines) =
    in_line line.number (line_said last line.text)
    >>= λ said. read_from end (kind_of said) (with_entry line.number said ledger) lines

-- the ledger of a report, or its first fault
unfoldable pub ledger_read : List ℕ → Result LedgerValue (LineFault LedgerWhy)
ledger_read text = read_from (end_of text) kind.Nothing no_ledger (lines_of text)

-- A plan: the scheduler that hands slices on, and its clients with their shares.
use Rattle.std.specs.Prelude.{ℕ, ◌+◌, List, [], ◌∷◌, ◌++◌, Bool, length, not, nat_lt, nat_le, ◌==◌, ◌&&◌, Result, Ok, Err, if◌then◌else◌, codes}
use Rattle.std.specs.Str.{bytes_eq}
use Rattle.line_text.specs.declared.failure.LineFault.{LineFault}
use Rattle.line_text.specs.Failing.{fault_at, in_line}
use Rattle.line_text.specs.Lines.{LineValue, lines_of}
use Rattle.line_text.specs.Outcome.{◌>>=◌}
use Rattle.line_text.specs.Statements.{end_of}
use Rattle.ledger_text.specs.declared.fault.LedgerWhy.{LedgerWhy}
use Rattle.ledger_text.specs.declared.fault.LedgerWhy.TheVariants.{Syntax, Range}
use Rattle.ledger_text.specs.declared.plan.Plan.{Plan}
use Rattle.ledger_text.specs.Limits.{least_clients, most_clients, most_share}
use Rattle.ledger_text.specs.RowText.{env_in, if_numerals}
use Rattle.ledger_text.specs.Words.{number_in, spaced_words}

-- clients by rising number, each with its share
pub record PlanValue : Type 0 where
  pub from : ℕ
  pub clients : List (ℕ × ℕ)

abbrev pub plan_seen : Plan → PlanValue
plan_seen plan = record { from = plan.from; clients = plan.clients.items }

-- the line of the scheduler
abbrev pub from_form : List (List ℕ) → Result ℕ LedgerWhy
from_form (name ∷ env ∷ []) = if bytes_eq name (codes "from") then if_numerals (env ∷ []) (env_in env) else Err Syntax
from_form words = Err Syntax

-- a share, which isn't 0
abbrev pub share_in : List ℕ → Result ℕ LedgerWhy
share_in word = number_in most_share word >>= λ n. if nat_lt 0 n then Ok n else Err Range

-- the line of a client
abbrev pub client_said : List ℕ → List ℕ → Result (ℕ × ℕ) LedgerWhy
client_said env share = do
  e ← env_in env
  s ← share_in share
  Ok (e, s)

abbrev pub client_form : List (List ℕ) → Result (ℕ × ℕ) LedgerWhy
client_form (name ∷ env ∷ share ∷ []) =
    if bytes_eq name (codes "client") then if_numerals (env ∷ share ∷ []) (client_said env share) else Err Syntax
client_form words = Err Syntax

-- whether a client's number is none of the scheduler's, and not below this
abbrev pub may_join : ℕ → ℕ → ℕ → Bool
may_join from least e = nat_le least e && not (e == from)

abbrev pub joined : ℕ → ℕ → ℕ × ℕ → Result (ℕ × ℕ) LedgerWhy
joined from least client = if may_join from least client.0 then Ok client else Err Range

-- a client's line behind so many others, where clients are numbered from the least number on
abbrev pub next_client : ℕ → ℕ → ℕ → List ℕ → Result (ℕ × ℕ) LedgerWhy
next_client from least others text =
    if nat_lt others most_clients then (client_form (spaced_words text) >>= joined from least) else Err Syntax

-- the plan of lines behind that of the scheduler and those of some clients
abbrev pub clients_from : ℕ → ℕ → ℕ → List (ℕ × ℕ) → List LineValue → Result PlanValue (LineFault LedgerWhy)
clients_from end from least clients [] =
    if nat_le least_clients (length clients) then Ok (record { from = from; clients = clients })
    else Err (fault_at end Syntax)
clients_from end from least clients (line ∷ lines) =
    in_line line.number (next_client from least (length clients) line.text)
    >>= λ client. clients_from end from (client.0 + 1) (clients ++ client ∷ []) lines

abbrev pub plan_from : ℕ → List LineValue → Result PlanValue (LineFault LedgerWhy)
plan_from end [] = Err (fault_at end Syntax)
plan_from end (line ∷ lines) =
    in_line line.number (from_form (spaced_words line.text)) >>= λ from. clients_from end from 0 [] lines

-- the plan of a text, or its first fault
unfoldable pub plan_read : List ℕ → Result PlanValue (LineFault LedgerWhy)
plan_read text = plan_from (end_of text) (lines_of text)

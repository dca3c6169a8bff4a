-- What a reader gives is within its limits.
use Rattle.std.proofs.Common.{arith, refl, subst, ◌≡◌, ◌≤◌, ◌+◌, ℕ, zero, suc, List, [], ◌∷◌, ◌++◌, Bool, true, false, ◌&&◌, None, Some, Result, Ok, Err, All, IfOk, length}
use Rattle.std.specs.Prelude.{if◌then◌else◌, nat_lt, nat_le, codes, map}
use Rattle.std.specs.Char.{is_digit}
use Rattle.std.specs.List.{list_all}
use Rattle.std.specs.Option.{ok_or}
use Rattle.std.specs.Str.{bytes_eq}
use Rattle.std.specs.Str.Parse.{digits_value}
use Rattle.std.proofs.lemmas.Bool.{leb-true, ltb-true}
use Rattle.std.proofs.lemmas.List.Elements.{All-append}
use Rattle.aegis_limits.specs.Limits.{most_run_ticks}
use Rattle.line_text.specs.Failing.{fault_at, in_line}
use Rattle.line_text.specs.Lines.{LineValue, lines_of}
use Rattle.line_text.specs.Outcome.{◌>>=◌}
use Rattle.line_text.specs.Statements.{end_of}
use Rattle.kernel_journal.specs.declared.reading.RowFault.{RowFault}
use Rattle.kernel_journal.specs.declared.reading.RowFault.TheVariants as fault
use Rattle.kernel_journal.specs.declared.row.Row.{Row}
use Rattle.kernel_journal.specs.RowTable.{IsRowWithin, ReadRowsAreWithin, row_of}
use Rattle.ledger_text.specs.declared.entry.Entry.{Entry}
use Rattle.ledger_text.specs.declared.entry.Entry.TheVariants as entry
use Rattle.ledger_text.specs.declared.fault.LedgerWhy.{LedgerWhy}
use Rattle.ledger_text.specs.declared.fault.LedgerWhy.TheVariants.{Syntax, Range}
use Rattle.ledger_text.specs.declared.kind.LineKind.{LineKind}
use Rattle.ledger_text.specs.declared.kind.LineKind.TheVariants as kind
use Rattle.ledger_text.specs.LedgerText.{LedgerValue, end_form, end_said, kind_of, ledger_read, line_said, no_ledger, only_text, read_from, said_by, sum_form, sum_of, with_entry, with_kind}
use Rattle.ledger_text.specs.Limits.{last_environment, least_clients, most_clients, most_share}
use Rattle.ledger_text.specs.LineKinds.{first_word, is_kind_done, kind_after, may_follow}
use Rattle.ledger_text.specs.PlanText.{client_form, client_said, clients_from, from_form, may_join, next_client, plan_from, plan_read, share_in}
use Rattle.ledger_text.specs.RowText.{env_in, is_said, number_said, other_in, row_or_fault, row_said, time_in}
use Rattle.ledger_text.specs.Within.{IsClientWithin, IsEnv, IsLedgerWithin, IsPlanWithin, IsSumWithin, IsTime, LedgersAreWithin, PlansAreWithin}
use Rattle.ledger_text.specs.Words.{is_numeral, number_in, spaced_words}

-- two steps, of which the second goes on from what is known of the first's answer
bind_limited : {A B E : Type 0} (P : A → Type 0) (Q : B → Type 0) (r : Result A E) (f : A → Result B E) → IfOk r P
    → ((x : A) → P x → IfOk (f x) Q) → IfOk (r >>= f) Q
bind_limited P Q (Ok x) f first next = next x first
bind_limited P Q (Err e) f first next = tt

-- a step whose answer nothing is known of
bind_any : {A B E : Type 0} (Q : B → Type 0) (r : Result A E) (f : A → Result B E) → ((x : A) → IfOk (f x) Q) → IfOk (r >>= f) Q
bind_any Q (Ok x) f next = next x
bind_any Q (Err e) f next = tt

-- a test before a step
test_limited : {B E : Type 0} (Q : B → Type 0) (b : Bool) (r : Result B E) (e : E) → IfOk r Q → IfOk (if b then r else Err e) Q
test_limited Q true r e first = first
test_limited Q false r e first = tt

number_limited : (most : ℕ) (word : List ℕ) → IfOk (number_in most word) (λ (n : ℕ). n ≤ most)
number_limited most word =
    by_test (nat_lt 0 (length word) && list_all (λ c. is_digit c 10) word) (nat_le (digits_value 10 word) most) (λ is. leb-true (digits_value 10 word) most is)
  where
    by_test : (a b : Bool) → (b ≡ true → digits_value 10 word ≤ most)
        → IfOk (ok_or (if a && b then Some (digits_value 10 word) else None) Range) (λ (n : ℕ). n ≤ most)
    by_test true true less = less refl
    by_test true false less = tt
    by_test false b less = tt

row_limited : ReadRowsAreWithin → (words : List (List ℕ)) → IfOk (row_said words) IsRowWithin
row_limited rows [] = tt
row_limited rows (name ∷ words) = test_limited IsRowWithin (list_all is_said words) _ Syntax (told (row_of name (map number_said words)) (rows name (map number_said words)))
  where
    told : (o : Result Row RowFault) → ((r : Row) → o ≡ Ok r → IsRowWithin r) → IfOk (row_or_fault o) IsRowWithin
    told (Ok r) each = each r refl
    told (Err fault.Form) each = tt
    told (Err fault.Range) each = tt

-- what a line says
abbrev IsEntryWithin : Entry → Type 0
IsEntryWithin (entry.Other known) = Unit {0}
IsEntryWithin (entry.End idle time) = IsTime time
IsEntryWithin (entry.Row r) = IsRowWithin r
IsEntryWithin (entry.Sum sum) = IsSumWithin sum

end_limited : (idle : Bool) (time : List ℕ) → IfOk (end_said idle time) IsEntryWithin
end_limited idle time =
    test_limited IsEntryWithin (list_all is_numeral (time ∷ [])) _ Syntax
    (bind_limited IsTime IsEntryWithin (time_in time) _ (number_limited most_run_ticks time) (λ t first. first))

end_form_limited : (words : List (List ℕ)) → IfOk (end_form words) IsEntryWithin
end_form_limited [] = tt
end_form_limited (name ∷ []) = tt
end_form_limited (name ∷ how ∷ []) = tt
end_form_limited (name ∷ how ∷ time ∷ []) = by_how (bytes_eq how (codes "limit")) (bytes_eq how (codes "idle"))
  where
    by_how : (a b : Bool) → IfOk (if a then end_said false time else if b then end_said true time else Err Syntax) IsEntryWithin
    by_how true b = end_limited false time
    by_how false true = end_limited true time
    by_how false false = tt
end_form_limited (name ∷ how ∷ time ∷ more ∷ words) = tt

sum_limited : (env runs pays overs : List ℕ) → IfOk (sum_of env runs pays overs) IsEntryWithin
unfolding sum_of
sum_limited env runs pays overs =
    test_limited IsEntryWithin (list_all is_numeral (env ∷ runs ∷ pays ∷ overs ∷ [])) _ Syntax
    (bind_limited IsEnv IsEntryWithin (env_in env) _ (number_limited last_environment env)
    (λ e first. bind_any IsEntryWithin (other_in runs) _ (λ r. bind_any IsEntryWithin (other_in pays) _ (λ p. bind_any IsEntryWithin (other_in overs) _ (λ o. first)))))

sum_form_limited : (words : List (List ℕ)) → IfOk (sum_form words) IsEntryWithin
sum_form_limited [] = tt
sum_form_limited (name ∷ []) = tt
sum_form_limited (name ∷ a ∷ []) = tt
sum_form_limited (name ∷ a ∷ b ∷ []) = tt
sum_form_limited (name ∷ a ∷ b ∷ c ∷ []) = tt
sum_form_limited (name ∷ env ∷ runs ∷ pays ∷ overs ∷ []) =
    test_limited IsEntryWithin (bytes_eq name (codes "sum")) _ Syntax (sum_limited env runs pays overs)
sum_form_limited (name ∷ a ∷ b ∷ c ∷ d ∷ e ∷ words) = tt

only_limited : (known : LineKind) (wanted text : List ℕ) → IfOk (only_text known wanted text) IsEntryWithin
only_limited known wanted text = test_limited IsEntryWithin (bytes_eq text wanted) (Ok (entry.Other known)) Syntax tt

said_limited : ReadRowsAreWithin → (known : LineKind) (text : List ℕ) → IfOk (said_by known text) IsEntryWithin
said_limited rows kind.Title text = only_limited kind.Title (codes "aegis run") text
said_limited rows kind.Done text = only_limited kind.Done (codes "done") text
said_limited rows kind.End text = end_form_limited (spaced_words text)
said_limited rows kind.Row text = bind_limited IsRowWithin IsEntryWithin (row_said (spaced_words text)) _ (row_limited rows (spaced_words text)) (λ r all. all)
said_limited rows kind.Sum text = sum_form_limited (spaced_words text)
said_limited rows kind.Nothing text = tt
said_limited rows kind.Env text = tt
said_limited rows kind.Out text = tt
said_limited rows kind.Cpu text = tt
said_limited rows kind.Regs text = tt
said_limited rows kind.Excess text = tt
said_limited rows kind.Keep text = tt
said_limited rows kind.Page text = tt
said_limited rows kind.Bind text = tt
said_limited rows kind.Sent text = tt

line_limited : ReadRowsAreWithin → (last : LineKind) (text : List ℕ) → IfOk (line_said last text) IsEntryWithin
line_limited rows last text =
    bind_any IsEntryWithin (ok_or (kind_after last (first_word text)) Syntax) _
    (λ known. test_limited IsEntryWithin (may_follow last known) _ Syntax (said_limited rows known text))

-- a line's answer with its number
numbered_limited : {X : Type 0} (P : X → Type 0) (line : ℕ) (r : Result X LedgerWhy) → IfOk r P → IfOk (in_line line r) P
numbered_limited P line (Ok x) first = first
numbered_limited P line (Err e) first = tt

-- one more behind others
with_one : {X : Type 0} (P : X → Type 0) (xs : List X) (x : X) → All P xs → P x → All P (xs ++ x ∷ [])
with_one P xs x before here = All-append P xs (x ∷ []) before only
  where
    only : All P (x ∷ [])
    only zero d less = here
    only (suc k) d less = absurd (omega (arith, less))

with_kind_limited : (line : ℕ) (known : LineKind) (ledger : LedgerValue) → IsLedgerWithin ledger → IsLedgerWithin (with_kind line known ledger)
with_kind_limited line kind.Env ledger before = record { time = before.time; rows = before.rows; sums = before.sums }
with_kind_limited line kind.Done ledger before = record { time = before.time; rows = before.rows; sums = before.sums }
with_kind_limited line known ledger before = before

with_limited : (line : ℕ) (e : Entry) (ledger : LedgerValue) → IsEntryWithin e → IsLedgerWithin ledger → IsLedgerWithin (with_entry line e ledger)
with_limited line (entry.Other known) ledger here before = with_kind_limited line known ledger before
with_limited line (entry.End idle time) ledger here before = record { time = here; rows = before.rows; sums = before.sums }
with_limited line (entry.Row r) ledger here before =
    record { time = before.time; rows = with_one (λ (x : ℕ × Row). IsRowWithin x.1) ledger.rows (line, r) before.rows here; sums = before.sums }
with_limited line (entry.Sum sum) ledger here before =
    record { time = before.time; rows = before.rows; sums = with_one (λ (x : ℕ × List ℕ). IsSumWithin x.1) ledger.sums (line, sum) before.sums here }

read_limited : ReadRowsAreWithin → (end : ℕ) (last : LineKind) (ledger : LedgerValue) (lines : List LineValue) → IsLedgerWithin ledger
    → IfOk (read_from end last ledger lines) IsLedgerWithin
read_limited rows end last ledger [] before = test_limited IsLedgerWithin (is_kind_done last) (Ok ledger) (fault_at end Syntax) before
read_limited rows end last ledger (line ∷ lines) before =
    bind_limited IsEntryWithin IsLedgerWithin (in_line line.number (line_said last line.text)) _
    (numbered_limited IsEntryWithin line.number (line_said last line.text) (line_limited rows last line.text))
    (λ said here. read_limited rows end (kind_of said) (with_entry line.number said ledger) lines (with_limited line.number said ledger here before))

along_read : {X F : Type 0} (P : X → Type 0) (r : Result X F) (x : X) → IfOk r P → r ≡ Ok x → P x
along_read {X = X} {F = F} P r x first is = subst (λ (o : Result X F). IfOk o P) is first

pub ledgers_limited : ReadRowsAreWithin → LedgersAreWithin
unfolding ledger_read
ledgers_limited rows text ledger is =
    along_read IsLedgerWithin (ledger_read text) ledger
    (read_limited rows (end_of text) kind.Nothing no_ledger (lines_of text)
    (record { time = omega arith; rows = λ k d less. absurd (omega (arith, less)); sums = λ k d less. absurd (omega (arith, less)) })) is

-- plans
share_limited : (word : List ℕ) → IfOk (share_in word) (λ (n : ℕ). (1 ≤ n) × (n ≤ most_share))
share_limited word =
    bind_limited (λ (n : ℕ). n ≤ most_share) (λ (n : ℕ). (1 ≤ n) × (n ≤ most_share)) (number_in most_share word) _ (number_limited most_share word)
    (λ n most. by_least (nat_lt 0 n) n (λ is. (ltb-true 0 n is, most)))
  where
    by_least : (b : Bool) (n : ℕ) → (b ≡ true → (1 ≤ n) × (n ≤ most_share))
        → IfOk (if b then Ok n else Err Range) (λ (n : ℕ). (1 ≤ n) × (n ≤ most_share))
    by_least true n all = all refl
    by_least false n all = tt

client_limited : (env share : List ℕ) → IfOk (client_said env share) IsClientWithin
client_limited env share =
    bind_limited IsEnv IsClientWithin (env_in env) _ (number_limited last_environment env)
    (λ e first. bind_limited (λ (n : ℕ). (1 ≤ n) × (n ≤ most_share)) IsClientWithin (share_in share) _ (share_limited share)
    (λ s second. record { number = first; least = second.0; most = second.1 }))

client_form_limited : (words : List (List ℕ)) → IfOk (client_form words) IsClientWithin
client_form_limited [] = tt
client_form_limited (name ∷ []) = tt
client_form_limited (name ∷ a ∷ []) = tt
client_form_limited (name ∷ env ∷ share ∷ []) =
    test_limited IsClientWithin (bytes_eq name (codes "client")) _ Syntax
    (test_limited IsClientWithin (list_all is_numeral (env ∷ share ∷ [])) _ Syntax (client_limited env share))
client_form_limited (name ∷ a ∷ b ∷ c ∷ words) = tt

next_limited : (from least others : ℕ) (text : List ℕ) → IfOk (next_client from least others text) IsClientWithin
next_limited from least others text =
    test_limited IsClientWithin (nat_lt others most_clients) _ Syntax
    (bind_limited IsClientWithin IsClientWithin (client_form (spaced_words text)) _ (client_form_limited (spaced_words text))
    (λ client here. test_limited IsClientWithin (may_join from least client.0) (Ok client) Range here))

clients_limited : (end from least : ℕ) (clients : List (ℕ × ℕ)) (lines : List LineValue) → IsEnv from → All IsClientWithin clients
    → IfOk (clients_from end from least clients lines) IsPlanWithin
clients_limited end from least clients [] scheduler before =
    test_limited IsPlanWithin (nat_le least_clients (length clients)) (Ok (record { from = from; clients = clients })) (fault_at end Syntax)
    (record { from = scheduler; clients = before })
clients_limited end from least clients (line ∷ lines) scheduler before =
    bind_limited IsClientWithin IsPlanWithin (in_line line.number (next_client from least (length clients) line.text)) _
    (numbered_limited IsClientWithin line.number (next_client from least (length clients) line.text) (next_limited from least (length clients) line.text))
    (λ client here. clients_limited end from (client.0 + 1) (clients ++ client ∷ []) lines scheduler (with_one IsClientWithin clients client before here))

from_limited : (words : List (List ℕ)) → IfOk (from_form words) IsEnv
from_limited [] = tt
from_limited (name ∷ []) = tt
from_limited (name ∷ env ∷ []) =
    test_limited IsEnv (bytes_eq name (codes "from")) _ Syntax
    (test_limited IsEnv (list_all is_numeral (env ∷ [])) _ Syntax (number_limited last_environment env))
from_limited (name ∷ a ∷ b ∷ words) = tt

plan_limited : (end : ℕ) (lines : List LineValue) → IfOk (plan_from end lines) IsPlanWithin
plan_limited end [] = tt
plan_limited end (line ∷ lines) =
    bind_limited IsEnv IsPlanWithin (in_line line.number (from_form (spaced_words line.text))) _
    (numbered_limited IsEnv line.number (from_form (spaced_words line.text)) (from_limited (spaced_words line.text)))
    (λ from here. clients_limited end from 0 [] lines here (λ k d less. absurd (omega (arith, less))))

pub plans_limited : PlansAreWithin
unfolding plan_read
plans_limited text plan is = along_read IsPlanWithin (plan_read text) plan (plan_limited (end_of text) (lines_of text)) is

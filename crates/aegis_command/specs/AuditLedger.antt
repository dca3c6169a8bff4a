-- `audit REPORT QUANTUM`, with a plan or none, and `strict` behind it or not: whether a report keeps the rules of the ledger.
use Rattle.std.specs.Prelude.{ℕ, Bool, true, false, if◌then◌else◌, List, [], ◌∷◌, Option, Some, None, Result, Ok, Err, option_map, length, codes}
use Rattle.std.specs.Option.{option_copied}
use Rattle.std.specs.Str.{bytes_eq}
use Rattle.line_text.specs.Text.{dec_text}
use Rattle.line_text.specs.WrittenLine.{line}
use Rattle.line_text.specs.declared.failure.LineFault.{LineFault}
use Rattle.ledger_text.specs.declared.fault.LedgerWhy.{LedgerWhy}
use Rattle.ledger_text.specs.LedgerText.{LedgerValue, ledger_read}
use Rattle.ledger_text.specs.Names.{ledger_why_text}
use Rattle.ledger_text.specs.PlanText.{PlanValue, plan_read}
use Rattle.ledger_audit.specs.declared.answer.AuditAnswer.{AuditAnswer}
use Rattle.ledger_audit.specs.declared.answer.AuditAnswer.TheVariants.{Clean, Broken}
use Rattle.ledger_audit.specs.Answer.{audit_of}
use Rattle.ledger_audit.specs.StrictAnswer.{strict_audit_of}
use Rattle.commands.specs.Command.{CommandValue, content, no_further}
use Rattle.commands.specs.Due.{Due, Found, Whole, refused}
use Rattle.aegis_command.specs.Ranges.{quantum_of}
use Rattle.aegis_command.specs.declared.audit_ledger.AuditLedger.{AuditLedger}

-- how many rows keep the rules, or the line that breaks them first
unfoldable pub ok_text : ℕ → List ℕ
ok_text rows = line (codes "audit" ∷ codes "ok" ∷ dec_text rows ∷ [])

unfoldable pub broken_text : ℕ → List ℕ
broken_text place = line (codes "audit" ∷ codes "line" ∷ dec_text place ∷ [])

abbrev pub answer_due : ℕ → AuditAnswer → Due
answer_due rows Clean = Whole (ok_text rows)
answer_due rows (Broken place) = Found (broken_text place)

-- by both tables of rules, or by the first
abbrev pub answer_of : Bool → ℕ → Option PlanValue → LedgerValue → AuditAnswer
answer_of strict quantum plan ledger = if strict then strict_audit_of quantum plan ledger else audit_of quantum plan ledger

abbrev pub audit_due : Bool → ℕ → Option PlanValue → LedgerValue → Due
audit_due strict quantum plan ledger = answer_due (length ledger.rows) (answer_of strict quantum plan ledger)

-- a file of this name is refused for this
abbrev pub file_refused : List ℕ → LineFault LedgerWhy → Due
file_refused name fault = refused name (ledger_why_text fault.why) fault.line

-- a plan with a fault is refused
abbrev pub plan_due : List ℕ → Bool → ℕ → LedgerValue → Result PlanValue (LineFault LedgerWhy) → Due
plan_due name strict quantum ledger (Ok plan) = audit_due strict quantum (Some plan) ledger
plan_due name strict quantum ledger (Err fault) = file_refused name fault

-- what is due for a ledger, and for the text of a plan if one is named
abbrev pub ledger_due : Bool → ℕ → Option (List ℕ) → List ℕ → LedgerValue → Due
ledger_due strict quantum None text ledger = audit_due strict quantum None ledger
ledger_due strict quantum (Some name) text ledger = plan_due name strict quantum ledger (plan_read text)

-- a report with a fault is refused, and before its plan
abbrev pub report_due : List ℕ → Bool → ℕ → Option (List ℕ) → List ℕ → Result LedgerValue (LineFault LedgerWhy) → Due
report_due name strict quantum plan text (Ok ledger) = ledger_due strict quantum plan text ledger
report_due name strict quantum plan text (Err fault) = file_refused name fault

abbrev pub plan_names : Option (List ℕ) → List (List ℕ)
plan_names None = []
plan_names (Some name) = name ∷ []

abbrev pub audit_ledger : List ℕ → ℕ → Option (List ℕ) → Bool → CommandValue
audit_ledger report quantum plan strict = record {
  names = report ∷ plan_names plan;
  further = no_further;
  due = λ contents. Some (report_due report strict quantum plan (content contents 1) (ledger_read (content contents 0)));
}

-- the command that was read from words
abbrev pub audit_seen : AuditLedger → CommandValue
audit_seen c = audit_ledger c.report.now c.quantum.number (option_copied c.plan) c.strict

-- the words behind `audit`, of which the last may be `strict`
abbrev pub is_strict_word : List ℕ → Bool
is_strict_word word = bytes_eq word (codes "strict")

abbrev pub audit_with : List ℕ → List ℕ → Option (List ℕ) → Bool → Option CommandValue
audit_with report quantum plan strict = option_map (λ q. audit_ledger report q plan strict) (quantum_of quantum)

abbrev pub audit_words : List (List ℕ) → Option CommandValue
audit_words (report ∷ quantum ∷ []) = audit_with report quantum None false
audit_words (report ∷ quantum ∷ last ∷ []) =
    if is_strict_word last then audit_with report quantum None true else audit_with report quantum (Some last) false
audit_words (report ∷ quantum ∷ plan ∷ last ∷ []) =
    if is_strict_word last then audit_with report quantum (Some plan) true else None
audit_words words = None

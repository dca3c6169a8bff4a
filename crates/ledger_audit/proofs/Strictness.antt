-- That the strict audit finds no fault is that both tables are kept.
use Rattle.std.proofs.Common.{arith, refl, sym, ◌∙◌, ap, ◌≡◌, ◌≤◌, ◌<◌, ℕ, zero, suc, List, [], ◌∷◌, drop, length, Bool, true, false, ◌&&◌, Option, None, Some, inl, inr}
use Rattle.std.specs.Prelude.{if◌then◌else◌, nat_lt}
use Rattle.std.specs.Option.{option_or}
use Rattle.std.proofs.lemmas.Bool.{and_from, and_parts, cases_lt, le-ltb, lt-ltb}
use Rattle.kernel_journal.specs.declared.row.Row.{Row}
use Rattle.ledger_text.specs.LedgerText.{LedgerValue}
use Rattle.ledger_text.specs.PlanText.{PlanValue}
use Rattle.ledger_audit.specs.Answer.{audit_of, first_fault, rows_of}
use Rattle.ledger_audit.specs.StrictAnswer.{BothKeptIsClean, CleanKeepsBoth, first_line, first_loose, first_strict_fault, strict_audit_of, wrong_count}
use Rattle.ledger_audit.specs.StrictRules.{RequestState, are_strict, is_strict, no_requests, requests_after}
use Rattle.ledger_audit.proofs.Judging.{clean_keeps, clean_none, kept_clean, none_first, passed}

-- rows
strict_all : (n : ℕ) (q : RequestState) (rows : List (ℕ × Row)) → first_loose n q rows ≡ None → are_strict n q (rows_of rows) ≡ true
strict_all n q [] none = refl
strict_all n q (x ∷ rows) none =
    let here = passed (is_strict n q x.1) x.0 (first_loose n (requests_after x.1 q) rows) none in
    and_from (is_strict n q x.1) (are_strict n (requests_after x.1 q) (rows_of rows)) here.0 (strict_all n (requests_after x.1 q) rows here.1)

none_loose : (n : ℕ) (q : RequestState) (rows : List (ℕ × Row)) → are_strict n q (rows_of rows) ≡ true → first_loose n q rows ≡ None
none_loose n q [] strict = refl
none_loose n q (x ∷ rows) strict =
    let parts = and_parts (is_strict n q x.1) (are_strict n (requests_after x.1 q) (rows_of rows)) strict in
    let here : is_strict n q x.1 ≡ true = parts.0 in
    rw here (none_loose n (requests_after x.1 q) rows parts.1)

-- sums
none_behind : (n : ℕ) (sums : List (ℕ × List ℕ)) → first_line (drop n sums) ≡ None → length sums ≤ n
none_behind zero [] none = omega arith
none_behind zero (x ∷ sums) none = cc
none_behind (suc n) [] none = omega arith
none_behind (suc n) (x ∷ sums) none = let rest = none_behind n sums none in omega (arith, rest)

all_behind : (n : ℕ) (sums : List (ℕ × List ℕ)) → length sums ≡ n → first_line (drop n sums) ≡ None
all_behind zero [] is = refl
all_behind zero (x ∷ sums) is = absurd (omega (arith, is))
all_behind (suc n) [] is = refl
all_behind (suc n) (x ∷ sums) is = all_behind n sums (omega (arith, is))

sums_counted : (n done : ℕ) (sums : List (ℕ × List ℕ)) → wrong_count n done sums ≡ None → length sums ≡ n
sums_counted n done sums none =
    elim (cases_lt (length sums) n) [
      | inl less ↦ let some : Some done ≡ None = sym (ap (λ (b : Bool). if b then Some done else first_line (drop n sums)) (lt-ltb _ _ less)) ∙ none in cc
      | inr more ↦
          let rest : first_line (drop n sums) ≡ None = sym (ap (λ (b : Bool). if b then Some done else first_line (drop n sums)) (le-ltb _ _ more)) ∙ none in
          let few = none_behind n sums rest in
          omega (arith, few, more)
    ]

counted_sums : (n done : ℕ) (sums : List (ℕ × List ℕ)) → length sums ≡ n → wrong_count n done sums ≡ None
counted_sums n done sums is =
    ap (λ (b : Bool). if b then Some done else first_line (drop n sums)) (le-ltb (length sums) n (omega (arith, is))) ∙ all_behind n sums is

pub clean_keeps_both : CleanKeepsBoth
unfolding strict_audit_of audit_of
clean_keeps_both q plan ledger clean =
    let n = length ledger.environments in
    let found = none_first (first_fault q plan ledger) (first_strict_fault ledger) (clean_none (option_or (first_fault q plan ledger) (first_strict_fault ledger)) clean) in
    let parts = none_first (first_loose n no_requests ledger.rows) (wrong_count n ledger.done ledger.sums) found.1 in (
      clean_keeps q plan ledger (rw found.0 refl),
      record { rows = strict_all n no_requests ledger.rows parts.0; sums = sums_counted n ledger.done ledger.sums parts.1 },
    )

pub both_kept_clean : BothKeptIsClean
unfolding strict_audit_of audit_of
both_kept_clean q plan ledger kept strict =
    let n = length ledger.environments in
    let first = clean_none (first_fault q plan ledger) (kept_clean q plan ledger kept) in
    let rows = none_loose n no_requests ledger.rows strict.rows in
    let sums = counted_sums n ledger.done ledger.sums strict.sums in
    rw (first, rows, sums) refl

-- A text that is read up to some place: what of it is known there, and what is left.
use Rattle.std.proofs.Common.{refl, sym, ◌∙◌, ap, subst, ◌≡◌, ◌+◌, ℕ, suc, List, [], ◌∷◌, ◌++◌, append_assoc, arith, length, length-append, Bool, true, false, Some, Result, Ok}
use Rattle.std.specs.List.{AllByRecursion, flat_map}
use Rattle.std.proofs.lemmas.List.{append-nil}
use Rattle.kernel_journal.specs.declared.row.Row.{Row}
use Rattle.line_text.specs.declared.failure.LineFault.{LineFault}
use Rattle.line_text.specs.Failing.{in_line}
use Rattle.line_text.specs.Lines.{lines_from, pieces_of, without_end}
use Rattle.line_text.specs.WrittenLine.{line, spaced}
use Rattle.kernel_journal.specs.RowTable.{IsRowWithin, RowsAreReadBack}
use Rattle.ledger_text.specs.declared.entry.Entry.{Entry}
use Rattle.ledger_text.specs.declared.entry.Entry.TheVariants as entry
use Rattle.ledger_text.specs.declared.fault.LedgerWhy.{LedgerWhy}
use Rattle.ledger_text.specs.declared.kind.LineKind.{LineKind}
use Rattle.ledger_text.specs.declared.kind.LineKind.TheVariants as kind
use Rattle.ledger_text.specs.LedgerText.{LedgerValue, kind_of, line_said, read_from, said_by, with_entry, with_kind}
use Rattle.ledger_text.specs.LineKinds.{before_row, first_word, is_kind_end, kind_named, may_follow}
use Rattle.report_law.specs.ReportLaw.{values_of}
use Rattle.report_law.proofs.Bytes.{AtLeast}
use Rattle.report_law.proofs.Cuts.{first_piece, line_end, line_then}
use Rattle.report_law.proofs.Numbers.{then_read}
use Rattle.report_law.proofs.Rows.{known_line, row_body, row_line_is}

abbrev pub reads : ℕ → LineKind → LedgerValue → ℕ → ℕ → List ℕ → Result LedgerValue (LineFault LedgerWhy)
reads end last ledger number start text = read_from end last ledger (lines_from number start (pieces_of text))

-- one line is read
pub one_line : (end : ℕ) (last : LineKind) (ledger : LedgerValue) (number start : ℕ) (body rest : List ℕ) (said : Entry) → AtLeast 32 body → line_said last body ≡ Ok said
    → reads end last ledger number start (body ++ 10 ∷ rest) ≡ reads end (kind_of said) (with_entry number said ledger) (number + 1) (start + length (body ++ 10 ∷ [])) rest
one_line end last ledger number start body rest said plain is =
    ap (λ (pieces : List (List ℕ)). read_from end last ledger (lines_from number start pieces)) (first_piece body rest plain)
    ∙ then_read (in_line number (line_said last (without_end (body ++ 10 ∷ [])))) said _ _
    (ap (λ (text : List ℕ). in_line number (line_said last text)) (line_end body plain) ∙ ap (in_line number) is) refl

pub values_more : {X : Type 0} (xs : List (ℕ × X)) (n : ℕ) (x : X) → values_of (xs ++ (n, x) ∷ []) ≡ values_of xs ++ x ∷ []
values_more [] n x = refl
values_more (y ∷ xs) n x = ap (λ ys. y.1 ∷ ys) (values_more xs n x)

-- what a ledger has
pub record Known : Type 0 where
  pub idle : Bool
  pub time : ℕ
  pub environments : ℕ
  pub rows : List Row
  pub sums : List (List ℕ)

pub record Has (ledger : LedgerValue) (k : Known) : Type 0 where
  pub idle : ledger.idle ≡ k.idle
  pub time : ledger.time ≡ k.time
  pub environments : length ledger.environments ≡ k.environments
  pub rows : values_of ledger.rows ≡ k.rows
  pub sums : values_of ledger.sums ≡ k.sums

-- What a text comes to is what this rest of it comes to, behind a line of such a kind, where the ledger so far has this.
pub record At (end : ℕ) (from : Result LedgerValue (LineFault LedgerWhy)) (P : LineKind → Bool) (k : Known) (rest : List ℕ) : Type 0 where
  pub last : LineKind
  pub passes : P last ≡ true
  pub ledger : LedgerValue
  pub has : Has ledger k
  pub number : ℕ
  pub start : ℕ
  pub same : from ≡ reads end last ledger number start rest

-- a line that says this leads on
pub step_at : (end : ℕ) (from : Result LedgerValue (LineFault LedgerWhy)) (P Q : LineKind → Bool) (k l : Known) (body rest : List ℕ) (said : Entry) → AtLeast 32 body
    → ((last : LineKind) → P last ≡ true → line_said last body ≡ Ok said) → Q (kind_of said) ≡ true → ((number : ℕ) (ledger : LedgerValue) → Has ledger k → Has (with_entry number said ledger) l)
    → At end from P k (body ++ 10 ∷ rest) → At end from Q l rest
step_at end from P Q k l body rest said plain says then more at = record {
  last = kind_of said;
  passes = then;
  ledger = with_entry at.number said at.ledger;
  has = more at.number at.ledger at.has;
  number = at.number + 1;
  start = at.start + length (body ++ 10 ∷ []);
  same = at.same ∙ one_line end at.last at.ledger at.number at.start body rest said plain (says at.last at.passes);
}

-- other words for the kind of the last line, and for the rest
pub weaker : (end : ℕ) (from : Result LedgerValue (LineFault LedgerWhy)) (P Q : LineKind → Bool) (k : Known) (rest : List ℕ) → ((last : LineKind) → P last ≡ true → Q last ≡ true)
    → At end from P k rest → At end from Q k rest
weaker end from P Q k rest more at =
    record { last = at.last; passes = more at.last at.passes; ledger = at.ledger; has = at.has; number = at.number; start = at.start; same = at.same }

pub rest_is : (end : ℕ) (from : Result LedgerValue (LineFault LedgerWhy)) (P : LineKind → Bool) (k : Known) (rest rest' : List ℕ) → rest ≡ rest' → At end from P k rest → At end from P k rest'
rest_is end from P k rest rest' is at = subst (At end from P k) is at

-- A part of a text that leads from lines of some kinds to lines of others, and from a ledger that has this to one that has
-- that; and one that says nothing of the ledger.
abbrev pub Leads : ℕ → Result LedgerValue (LineFault LedgerWhy) → Known → Known → (LineKind → Bool) → (LineKind → Bool) → List ℕ → Type 0
Leads end from k l P Q text = (rest : List ℕ) → At end from P k (text ++ rest) → At end from Q l rest

abbrev pub Passes : ℕ → Result LedgerValue (LineFault LedgerWhy) → Known → (LineKind → Bool) → (LineKind → Bool) → List ℕ → Type 0
Passes end from k P Q text = Leads end from k k P Q text

pub lead_both : (end : ℕ) (from : Result LedgerValue (LineFault LedgerWhy)) (k l m : Known) (P Q R : LineKind → Bool) (xs ys : List ℕ)
    → Leads end from k l P Q xs → Leads end from l m Q R ys → Leads end from k m P R (xs ++ ys)
lead_both end from k l m P Q R xs ys first second rest at =
    second rest (first (ys ++ rest) (rest_is end from P k ((xs ++ ys) ++ rest) (xs ++ (ys ++ rest)) (append_assoc xs ys rest) at))

-- a line that is known by its first word, and not read further
pub lead_line : (end : ℕ) (from : Result LedgerValue (LineFault LedgerWhy)) (k l : Known) (P Q : LineKind → Bool) (known : LineKind) (word : List ℕ) (words : List (List ℕ))
    → is_kind_end known ≡ false → ((last : LineKind) → P last ≡ true → may_follow last known ≡ true) → ((text : List ℕ) → said_by known text ≡ Ok (entry.Other known))
    → ((number : ℕ) (ledger : LedgerValue) → Has ledger k → Has (with_kind number known ledger) l) → Q known ≡ true → kind_named (first_word (word ++ flat_map spaced words)) ≡ Some known
    → AtLeast 32 (word ++ flat_map spaced words) → Leads end from k l P Q (line (word ∷ words))
lead_line end from k l P Q known word words other follows says more then named plain rest at =
    let body = word ++ flat_map spaced words in
    step_at end from P Q k l body rest (entry.Other known) plain
    (λ last passes. known_line last known body (entry.Other known) other (follows last passes) named (says body)) then more
    (rest_is end from P k (line (word ∷ words) ++ rest) (body ++ 10 ∷ rest) (line_then word words rest) at)

-- with one environment more
abbrev pub one_more : Known → Known
one_more k = record k { environments = suc k.environments }

pub has_one_more : (number : ℕ) (ledger : LedgerValue) (k : Known) → Has ledger k → Has (with_kind number kind.Env ledger) (one_more k)
has_one_more number ledger k has =
    record { idle = has.idle; time = has.time; environments = omega (arith, length-append ledger.environments (number ∷ []), has.environments); rows = has.rows; sums = has.sums }

module _ (end : ℕ) (from : Result LedgerValue (LineFault LedgerWhy)) (k : Known) where
  pub pass_none : (P : LineKind → Bool) → Passes end from k P P []
  pass_none P rest at = at

  pub pass_both : (P Q R : LineKind → Bool) (xs ys : List ℕ) → Passes end from k P Q xs → Passes end from k Q R ys → Passes end from k P R (xs ++ ys)
  pass_both P Q R xs ys first second = lead_both end from k k k P Q R xs ys first second

  pub pass_wider : (P Q P' Q' : LineKind → Bool) (xs : List ℕ) → ((last : LineKind) → P' last ≡ true → P last ≡ true) → ((last : LineKind) → Q last ≡ true → Q' last ≡ true)
      → Passes end from k P Q xs → Passes end from k P' Q' xs
  pass_wider P Q P' Q' xs before behind passes rest at = weaker end from Q Q' k rest behind (passes rest (weaker end from P' P k (xs ++ rest) before at))

  pub pass_each : {X : Type 0} (P : LineKind → Bool) (f : X → List ℕ) → ((x : X) → Passes end from k P P (f x)) → (xs : List X) → Passes end from k P P (flat_map f xs)
  pass_each P f each [] = pass_none P
  pass_each P f each (x ∷ xs) = pass_both P P P (f x) (flat_map f xs) (each x) (pass_each P f each xs)

  -- a line that says nothing of the ledger
  pub pass_line : (P Q : LineKind → Bool) (known : LineKind) (word : List ℕ) (words : List (List ℕ)) → is_kind_end known ≡ false → ((last : LineKind) → P last ≡ true → may_follow last known ≡ true)
      → ((text : List ℕ) → said_by known text ≡ Ok (entry.Other known)) → ((number : ℕ) (ledger : LedgerValue) → with_kind number known ledger ≡ ledger) → Q known ≡ true → kind_named (first_word (word ++ flat_map spaced words)) ≡ Some known
      → AtLeast 32 (word ++ flat_map spaced words) → Passes end from k P Q (line (word ∷ words))
  pass_line P Q known word words other follows says leaves then named plain =
      lead_line end from k k P Q known word words other follows says (λ number ledger has. subst (λ (l : LedgerValue). Has l k) (sym (leaves number ledger)) has) then named plain

-- rows
abbrev pub AreWithin : List Row → Type 0
AreWithin rows = AllByRecursion IsRowWithin rows

abbrev pub row_text : Row → List ℕ
row_text r = row_body r ++ 10 ∷ []

abbrev pub with_rows : Known → List Row → Known
with_rows k rows = record k { rows = k.rows ++ rows }

pub rows_at : RowsAreReadBack → (end : ℕ) (from : Result LedgerValue (LineFault LedgerWhy)) (k : Known) (rows : List Row) (rest : List ℕ) → AreWithin rows
    → At end from before_row k (flat_map row_text rows ++ rest) → At end from before_row (with_rows k rows) rest
rows_at back end from k [] rest within at = subst (λ (rows : List Row). At end from before_row (record k { rows = rows }) rest) (sym (append-nil k.rows)) at
rows_at back end from k (r ∷ rows) rest (here, within) at =
    let line = row_line_is back r here in
    let tail = flat_map row_text rows ++ rest in
    let l = with_rows k (r ∷ []) in
    let moved : At end from before_row k (row_body r ++ 10 ∷ tail) =
    rest_is end from before_row k (((row_body r ++ 10 ∷ []) ++ flat_map row_text rows) ++ rest) (row_body r ++ 10 ∷ tail)
    (append_assoc (row_body r ++ 10 ∷ []) (flat_map row_text rows) rest ∙ append_assoc (row_body r) (10 ∷ []) tail) at in
    let next : At end from before_row l tail =
    step_at end from before_row before_row k l (row_body r) tail (entry.Row r) line.plain line.said refl
    (λ number ledger has. record { idle = has.idle; time = has.time; environments = has.environments; rows = values_more ledger.rows number r ∙ ap (λ (rs : List Row). rs ++ r ∷ []) has.rows; sums = has.sums }) moved in
    subst (λ (rs : List Row). At end from before_row (record k { rows = rs }) rest) (append_assoc k.rows (r ∷ []) rows)
    (rows_at back end from l rows rest within next)

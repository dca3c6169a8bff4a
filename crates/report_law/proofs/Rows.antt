-- A row that is written is read back.
use Rattle.std.proofs.Common.{arith, refl, sym, ◌∙◌, ap, subst, ◌≡◌, ◌≤◌, ◌+◌, ℕ, List, [], ◌∷◌, ◌++◌, map, Bool, true, false, ◌&&◌, Option, None, Some, Ok, Err, IfSome, length}
use Rattle.std.specs.Prelude.{◌==◌, if◌then◌else◌, is_some, nat_le, unwrap_or}
use Rattle.std.specs.List.{AllByRecursion, flat_map, list_all}
use Rattle.std.specs.Map.{lookup}
use Rattle.std.specs.Option.{ok_or}
use Rattle.std.specs.Str.{bytes_eq}
use Rattle.std.proofs.lemmas.Bool.{and_from, and_parts, cond-false, cond-true, eqb-true, leb-true, or_right}
use Rattle.std.proofs.lemmas.Slice.Eq.{bytes_eq-Decides}
use Rattle.aegis_limits.specs.Limits.{most_run_ticks}
use Rattle.kernel_journal.specs.declared.reading.RowFault.TheVariants.{Form, Range}
use Rattle.kernel_journal.specs.declared.row.Row.{Row}
use Rattle.kernel_journal.specs.declared.table.NumberKind.{NumberKind}
use Rattle.kernel_journal.specs.declared.table.NumberKind.TheVariants as number
use Rattle.kernel_journal.specs.declared.table.RowName.{RowName}
use Rattle.kernel_journal.specs.RowTable.{IsRowWithin, RowsAreReadBack, all_names, are_within, each_has_kind, has_form, is_within, kinds_of, most_of, name_in, name_of, named_row, numbers_of, row_by, row_of, row_with, text_of, time_of}
use Rattle.line_text.specs.Text.{dec_text}
use Rattle.line_text.specs.WrittenLine.{or_dash, spaced}
use Rattle.ledger_text.specs.declared.entry.Entry.{Entry}
use Rattle.ledger_text.specs.declared.entry.Entry.TheVariants as entry
use Rattle.ledger_text.specs.declared.fault.LedgerWhy.TheVariants.{Syntax}
use Rattle.ledger_text.specs.declared.kind.LineKind.{LineKind}
use Rattle.ledger_text.specs.declared.kind.LineKind.TheVariants as kind
use Rattle.ledger_text.specs.LedgerText.{line_said, said_by}
use Rattle.ledger_text.specs.Limits.{last_environment, most_number}
use Rattle.ledger_text.specs.LineKinds.{before_row, first_word, is_kind_end, is_kind_title, kind_after, kind_named, kind_names, may_follow}
use Rattle.ledger_text.specs.RowText.{env_in, is_said, number_said, other_in, row_or_fault, row_said, row_told, time_in}
use Rattle.ledger_text.specs.Within.{IsEnv, IsTime}
use Rattle.ledger_text.specs.Words.{is_dash, is_numeral, spaced_words}
use Rattle.ledger_text.proofs.Found.{found_passes}
use Rattle.report_law.proofs.Bytes.{AtLeast, both, dec_high, lower}
use Rattle.report_law.proofs.Cuts.{first_plain, words_cut, words_plain}
use Rattle.report_law.proofs.Numbers.{no_dash, number_read, numeral_is, numeral_read, then_read}

-- a row whose numbers are within their limits once its time is
abbrev pub IsSmall : Row → Type 0
IsSmall r = IsTime (time_of r) → IsRowWithin r

-- numbers within the limits
pub time_is : (t : ℕ) → IsTime t → time_in (dec_text t) ≡ Ok t
time_is t within = number_read most_run_ticks t within (omega (arith, within))

pub env_is : (e : ℕ) → IsEnv e → env_in (dec_text e) ≡ Ok e
env_is e within = number_read last_environment e within (omega (arith, within))

pub other_is : (n : ℕ) → n ≤ most_number → other_in (dec_text n) ≡ Ok n
other_is n within = number_read most_number n within (omega (arith, within))

pub time_spells : (t : ℕ) → IsTime t → is_numeral (dec_text t) ≡ true
time_spells t within = numeral_is t (omega (arith, within))

pub env_spells : (e : ℕ) → IsEnv e → is_numeral (dec_text e) ≡ true
env_spells e within = numeral_is e (omega (arith, within))

pub other_spells : (n : ℕ) → n ≤ most_number → is_numeral (dec_text n) ≡ true
other_spells n within = numeral_is n (omega (arith, within))

-- A name and numbers that are a row have its form, and are within its limits.
row_parts : (known : RowName) (numbers : List (Option ℕ)) (r : Row) → row_by known numbers ≡ Ok r → (has_form known numbers ≡ true) × (are_within (kinds_of known) numbers ≡ true)
row_parts known numbers r is = by_tests (has_form known numbers) (are_within (kinds_of known) numbers) refl refl is
  where
    by_tests : (form within : Bool) → has_form known numbers ≡ form → are_within (kinds_of known) numbers ≡ within
        → (if form then (if within then ok_or (row_with known numbers) Form else Err Range) else Err Form) ≡ Ok r
        → (has_form known numbers ≡ true) × (are_within (kinds_of known) numbers ≡ true)
    by_tests true true form within is = (form, within)
    by_tests true false form within is = cc
    by_tests false within form other is = cc

abbrev IsNumberSmall : Option ℕ → Type 0
IsNumberSmall n = IfSome n (λ (x : ℕ). x ≤ most_number)

kind_small : (kind : NumberKind) → most_of kind ≤ most_number
kind_small number.Time = omega arith
kind_small number.Slot = omega arith
kind_small number.Env = omega arith
kind_small number.EnvOrNone = omega arith
kind_small number.Excess = omega arith
kind_small number.Number = omega arith
kind_small number.NumberOrNone = omega arith

number_small : (kind : NumberKind) (n : Option ℕ) → is_within kind n ≡ true → IsNumberSmall n
number_small kind None is = tt
number_small kind (Some n) is = let most = kind_small kind in let less = leb-true n (most_of kind) is in omega (arith, most, less)

all_small : (kinds : List NumberKind) (numbers : List (Option ℕ)) → length numbers ≡ length kinds → are_within kinds numbers ≡ true → AllByRecursion IsNumberSmall numbers
all_small kinds [] many are = tt
all_small [] (n ∷ numbers) many are = absurd (omega (arith, many))
all_small (kind ∷ kinds) (n ∷ numbers) many are =
    let parts = and_parts (is_within kind n) (are_within kinds numbers) are in
    (number_small kind n parts.0, all_small kinds numbers (omega (arith, many)) parts.1)

numbers_small : (text : List ℕ) (numbers : List (Option ℕ)) (r : Row) → row_of text numbers ≡ Ok r → AllByRecursion IsNumberSmall numbers
unfolding row_of
numbers_small text numbers r is = by_name (name_in text) is
  where
    by_name : (known : Option RowName) → named_row known numbers ≡ Ok r → AllByRecursion IsNumberSmall numbers
    by_name None is = cc
    by_name (Some known) is =
        let parts = row_parts known numbers r is in
        let form = (and_parts ((length numbers == length (kinds_of known)) && each_has_kind (kinds_of known) numbers) _ parts.0).0 in
        let many = (and_parts (length numbers == length (kinds_of known)) (each_has_kind (kinds_of known) numbers) form).0 in
        all_small (kinds_of known) numbers (eqb-true (length numbers) (length (kinds_of known)) many) parts.1

-- the words of such numbers stand for them
word_said : (n : Option ℕ) → IsNumberSmall n → (is_said (or_dash n) ≡ true) × (number_said (or_dash n) ≡ n)
word_said None small = (refl, refl)
word_said (Some n) small = (
  or_right (is_dash (dec_text n)) (is_numeral (dec_text n)) (numeral_is n (omega (arith, small))),
  cond-false (is_dash (dec_text n)) None _ (no_dash n) ∙ ap (λ (o : Option ℕ). Some (unwrap_or o (most_number + 1))) (numeral_read most_number n small (omega (arith, small))),
)

words_said : (numbers : List (Option ℕ)) → AllByRecursion IsNumberSmall numbers
    → (list_all is_said (map or_dash numbers) ≡ true) × (map number_said (map or_dash numbers) ≡ numbers)
words_said [] all = (refl, refl)
words_said (n ∷ numbers) (here, rest) =
    let first = word_said n here in
    let others = words_said numbers rest in (
      and_from (is_said (or_dash n)) (list_all is_said (map or_dash numbers)) first.0 others.0,
      ap (λ (m : Option ℕ). m ∷ map number_said (map or_dash numbers)) first.1 ∙ ap (λ (ms : List (Option ℕ)). n ∷ ms) others.1,
    )

abbrev row_words : Row → List (List ℕ)
row_words r = map or_dash (numbers_of r)

row_read : (r : Row) → row_of (name_of r) (numbers_of r) ≡ Ok r → row_told (name_of r) (row_words r) ≡ Ok r
row_read r is =
    let words = words_said (numbers_of r) (numbers_small (name_of r) (numbers_of r) r is) in
    cond-true (list_all is_said (row_words r)) _ (Err Syntax) words.0
    ∙ (ap (λ (numbers : List (Option ℕ)). row_or_fault (row_of (name_of r) numbers)) words.1 ∙ ap row_or_fault is)

-- the name of a row: no byte of it ends a word, and it begins the line of a row
record IsName (text : List ℕ) : Type 0 where
  solid : AtLeast 33 text
  kind : kind_named text ≡ Some kind.Row

solid_text : (text : List ℕ) (known : RowName) → name_in text ≡ Some known → AtLeast 33 text
solid_text text known found =
    let passes = found_passes (λ n. list_all (nat_le 33) (text_of n)) (λ n. bytes_eq text (text_of n)) all_names known refl found in
    subst (AtLeast 33) (sym ((bytes_eq-Decides text (text_of known)).0 passes.1)) passes.0

is_name : (text : List ℕ) (numbers : List (Option ℕ)) (r : Row) → row_of text numbers ≡ Ok r → IsName text
unfolding row_of
is_name text numbers r is = by_name (name_in text) refl is
  where
    by_name : (known : Option RowName) → name_in text ≡ known → named_row known numbers ≡ Ok r → IsName text
    by_name None none is = cc
    by_name (Some known) found is = record {
      solid = solid_text text known found;
      kind = ap (λ (o : Option RowName). if is_some o then Some kind.Row else lookup (bytes_eq text) kind_names) found;
    }

-- the line of a row
abbrev pub row_body : Row → List ℕ
row_body r = name_of r ++ flat_map spaced (row_words r)

pub dec_solid : (n : ℕ) → AtLeast 33 (dec_text n)
dec_solid n = lower 33 48 (dec_text n) (omega arith) (dec_high n)

dash_solid : (o : Option ℕ) → AtLeast 33 (or_dash o)
dash_solid None = refl
dash_solid (Some n) = dec_solid n

numbers_solid : (numbers : List (Option ℕ)) → AllByRecursion (AtLeast 33) (map or_dash numbers)
numbers_solid [] = tt
numbers_solid (n ∷ numbers) = (dash_solid n, numbers_solid numbers)

pub solid_plain : (words : List (List ℕ)) → AllByRecursion (AtLeast 33) words → AllByRecursion (AtLeast 32) words
solid_plain [] are = tt
solid_plain (word ∷ words) (here, rest) = (lower 32 33 word (omega arith) here, solid_plain words rest)

-- only directly behind the title does `end` begin another line
titled : (last known : LineKind) → is_kind_end known ≡ false → may_follow last known ≡ true → is_kind_title last ≡ false
titled kind.Title kind.End other follows = cc
titled kind.Title known other follows = cc
titled last known other follows = refl

untitled : (last : LineKind) (name : List ℕ) → is_kind_title last ≡ false → kind_after last name ≡ kind_named name
untitled kind.Title name is = cc
untitled last name is = refl

-- a line that its first word tells
pub known_line : (last known : LineKind) (text : List ℕ) (said : Entry) → is_kind_end known ≡ false → may_follow last known ≡ true
    → kind_named (first_word text) ≡ Some known → said_by known text ≡ Ok said → line_said last text ≡ Ok said
known_line last known text said other follows named says =
    then_read (ok_or (kind_after last (first_word text)) Syntax) known _ _
    (ap (λ (o : Option LineKind). ok_or o Syntax) (untitled last (first_word text) (titled last known other follows) ∙ named))
    (cond-true (may_follow last known) (said_by known text) (Err Syntax) follows ∙ says)

-- What is written of a row within its limits is its line.
pub record IsRowLine (r : Row) : Type 0 where
  pub plain : AtLeast 32 (row_body r)
  pub said : (last : LineKind) → before_row last ≡ true → line_said last (row_body r) ≡ Ok (entry.Row r)

pub row_line_is : RowsAreReadBack → (r : Row) → IsRowWithin r → IsRowLine r
row_line_is back r within =
    let is = back r within in
    let name = is_name (name_of r) (numbers_of r) r is in
    let words = numbers_solid (numbers_of r) in
    record {
      plain = both 32 (name_of r) (flat_map spaced (row_words r)) (lower 32 33 (name_of r) (omega arith) name.solid) (words_plain (row_words r) (solid_plain (row_words r) words));
      said = λ last follows.
          known_line last kind.Row (row_body r) (entry.Row r) refl follows (ap kind_named (first_plain (name_of r) (row_words r) name.solid) ∙ name.kind)
          (then_read (row_said (spaced_words (row_body r))) r _ _ (ap row_said (words_cut (name_of r) (row_words r) name.solid words) ∙ row_read r is) refl);
    }

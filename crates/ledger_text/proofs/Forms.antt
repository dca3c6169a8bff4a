-- Lines of more than five words have none of the forms.
use Rattle.std.proofs.Common.{◌≡◌, ◌<◌, ℕ, List, ◌∷◌, length, refl, ap, arith, ◌≤◌, ◌&&◌, Bool, false, Option, None, Some}
use Rattle.std.specs.Prelude.{Err, if◌then◌else◌, map, nat_le, ◌==◌}
use Rattle.std.specs.Borrow.{Bor}
use Rattle.std.specs.List.{list_all}
use Rattle.std.specs.Option.{ok_or}
use Rattle.std.specs.Str.{bytes_eq}
use Rattle.std.proofs.lemmas.Bool.{cond_both, leb-true, ne_eqb}
use Rattle.std.proofs.lemmas.List.Folds.{list_all-map}
use Rattle.line_text.specs.WordView.{word_seen, words_seen}
use Rattle.kernel_journal.specs.declared.reading.RowFault.TheVariants as fault
use Rattle.kernel_journal.specs.declared.table.RowName.{RowName}
use Rattle.kernel_journal.specs.RowTable.{all_names, are_paired, are_within, each_has_kind, kinds_of, name_in, named_row, row_by, row_of, row_with, text_of}
use Rattle.ledger_text.specs.declared.fault.LedgerWhy.TheVariants.{Syntax}
use Rattle.ledger_text.specs.LedgerText.{end_form, sum_form}
use Rattle.ledger_text.specs.PlanText.{client_form, from_form}
use Rattle.ledger_text.specs.RowText.{is_said, number_said, row_or_fault, row_said}
use Rattle.ledger_text.proofs.Found.{found_passes}

pub long_end : (words : List (List ℕ)) → 5 < length words → end_form words ≡ Err Syntax
long_end (a ∷ b ∷ c ∷ d ∷ e ∷ f ∷ words) long = refl
long_end words long = absurd (omega arith)

pub long_sum : (words : List (List ℕ)) → 5 < length words → sum_form words ≡ Err Syntax
long_sum (a ∷ b ∷ c ∷ d ∷ e ∷ f ∷ words) long = refl
long_sum words long = absurd (omega arith)

-- words that the program holds, each as what it shows
pub each_seen : (words : List (Bor (List ℕ))) → list_all is_said (words_seen words) ≡ list_all (λ word. is_said word.now) words
each_seen words = list_all-map is_said word_seen words

-- no row has more than four numbers
long_numbers : (known : RowName) (a b c d e : Option ℕ) (numbers : List (Option ℕ)) → length (kinds_of known) ≤ 4
    → row_by known (a ∷ b ∷ c ∷ d ∷ e ∷ numbers) ≡ Err fault.Form
long_numbers known a b c d e numbers four =
    let said = a ∷ b ∷ c ∷ d ∷ e ∷ numbers in
    let other : (length said == length (kinds_of known)) ≡ false = ne_eqb (length said) (length (kinds_of known)) (λ same. omega (arith, same, four)) in
    ap (λ (few : Bool). if (few && each_has_kind (kinds_of known) said) && are_paired known said then
    (if are_within (kinds_of known) said then ok_or (row_with known said) fault.Form else Err fault.Range) else Err fault.Form) other

long_told : (text : List ℕ) (a b c d e : Option ℕ) (numbers : List (Option ℕ)) → row_of text (a ∷ b ∷ c ∷ d ∷ e ∷ numbers) ≡ Err fault.Form
unfolding row_of
long_told text a b c d e numbers = by_name (name_in text) refl
  where
    four : (known : RowName) → name_in text ≡ Some known → length (kinds_of known) ≤ 4
    four known found =
        leb-true (length (kinds_of known)) 4 (found_passes (λ n. nat_le (length (kinds_of n)) 4) (λ n. bytes_eq text (text_of n)) all_names known refl found).0

    by_name : (known : Option RowName) → name_in text ≡ known → named_row known (a ∷ b ∷ c ∷ d ∷ e ∷ numbers) ≡ Err fault.Form
    by_name None none = refl
    by_name (Some known) found = long_numbers known a b c d e numbers (four known found)

pub long_row : (words : List (List ℕ)) → 5 < length words → row_said words ≡ Err Syntax
long_row (name ∷ a ∷ b ∷ c ∷ d ∷ e ∷ words) long =
    cond_both (list_all is_said (a ∷ b ∷ c ∷ d ∷ e ∷ words)) (row_or_fault (row_of name (map number_said (a ∷ b ∷ c ∷ d ∷ e ∷ words)))) (Err Syntax) (λ r. r ≡ Err Syntax)
    (λ all. ap row_or_fault (long_told name (number_said a) (number_said b) (number_said c) (number_said d) (number_said e) (map number_said words))) (λ some. refl)
long_row words long = absurd (omega arith)

pub long_from : (words : List (List ℕ)) → 5 < length words → from_form words ≡ Err Syntax
long_from (a ∷ b ∷ c ∷ d ∷ e ∷ f ∷ words) long = refl
long_from words long = absurd (omega arith)

pub long_client : (words : List (List ℕ)) → 5 < length words → client_form words ≡ Err Syntax
long_client (a ∷ b ∷ c ∷ d ∷ e ∷ f ∷ words) long = refl
long_client words long = absurd (omega arith)

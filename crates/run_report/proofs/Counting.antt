-- Rows are counted one after another.
use Rattle.std.proofs.Common.{◌≡◌, ◌≢◌, ℕ, ◌+◌, ◌<◌, ◌==◌, ◌⊎◌, inl, inr, Bool, false, List, [], length, length-set, replicate, take, sym, ◌∙◌, ap, rules, ne_eqb}
use Rattle.std.specs.Prelude.{count_by, slice_index, slice_index_or, slice_set}
use Rattle.std.proofs.lemmas.Bool.{cases_eq, eq-eqb}
use Rattle.std.proofs.lemmas.List.{get_or-set_same, get_or-set_other, get_or-replicate}
use Rattle.std.proofs.lemmas.List.Sums.{count_by_more_yes, count_by_more_no}
use Rattle.kernel_journal.specs.declared.row.Row.{Row}
use Rattle.kernel_journal.specs.declared.row.Row.TheVariants as row
use Rattle.run_model.specs.Excess.{is_over_of, is_pay_of, is_run_of}
use Rattle.run_report.specs.Sums.{AreCounts, AreSums, byte_values}
use Rattle.run_report.specs.declared.sums.Sums.{Sums}

no_counts : (is_of : ℕ → Row → Bool) → AreCounts is_of [] (replicate byte_values 0)
no_counts is_of = record { places = search rules; each = λ e small. get_or-replicate byte_values e 0 0 small }

pub no_sums : AreSums [] (record { runs = replicate byte_values 0; pays = replicate byte_values 0; overs = replicate byte_values 0 })
no_sums = record { runs = no_counts is_run_of; pays = no_counts is_pay_of; overs = no_counts is_over_of }

-- one more is counted at an environment's place
abbrev pub counted : ℕ → List ℕ → List ℕ
counted who counts = slice_set counts who (slice_index counts who + 1)

-- one row more
module _ (is_of : ℕ → Row → Bool) (rows : List Row) (i : ℕ) (d : Row) (counts : List ℕ) (within : i < length rows) (has : AreCounts is_of (take i rows) counts) where
  module _ (who : ℕ) (small : who < byte_values) (is : (e : ℕ) → is_of e (slice_index_or rows i d) ≡ (who == e)) where
    counted_at : (e : ℕ) → e < byte_values → (who ≡ e) ⊎ (who ≢ e) → slice_index (counted who counts) e ≡ count_by (is_of e) (take (i + 1) rows)
    counted_at e below (inl same) =
        ap (slice_index (counted who counts)) (sym same)
        ∙ get_or-set_same counts who (slice_index counts who + 1) 0 (rw has.places small)
        ∙ ap (λ at. slice_index counts at + 1) same
        ∙ ap (λ n. n + 1) (has.each e below)
        ∙ sym (count_by_more_yes (is_of e) rows i d within (is e ∙ eq-eqb who e same))
    counted_at e below (inr other) =
        get_or-set_other counts who e (slice_index counts who + 1) 0 (λ same. other (sym same))
        ∙ has.each e below
        ∙ sym (count_by_more_no (is_of e) rows i d within (is e ∙ ne_eqb who e other))

  -- of an environment
  yes : (who : ℕ) → who < byte_values → ((e : ℕ) → is_of e (slice_index_or rows i d) ≡ (who == e)) → AreCounts is_of (take (i + 1) rows) (counted who counts)
  yes who small is = record {
    places = length-set counts who (slice_index counts who + 1) ∙ has.places;
    each = λ e below. counted_at who small is e below (cases_eq who e);
  }

  -- of none
  no : ((e : ℕ) → is_of e (slice_index_or rows i d) ≡ false) → AreCounts is_of (take (i + 1) rows) counts
  no none = record { places = has.places; each = λ e below. has.each e below ∙ sym (count_by_more_no (is_of e) rows i d within (none e)) }

no_run : (r : Row) → ((t slot who : ℕ) → r ≡ row.Run t slot who → ⊥) → (e : ℕ) → is_run_of e r ≡ false
no_run r none e = search rules

no_pay : (r : Row) → ((t slot who : ℕ) → r ≡ row.Pay t slot who → ⊥) → (e : ℕ) → is_pay_of e r ≡ false
no_pay r none e = search rules

no_over : (r : Row) → ((t slot who excess : ℕ) → r ≡ row.Over t slot who excess → ⊥) → (e : ℕ) → is_over_of e r ≡ false
no_over r none e = search rules

module _ (rows : List Row) (i : ℕ) (d : Row) (s : Sums) (within : i < length rows) (has : AreSums (take i rows) s) where
  pub run_counted : (t slot who n : ℕ) → n ≡ who → n < byte_values → slice_index_or rows i d ≡ row.Run t slot who → AreSums (take (i + 1) rows) (record s { runs = counted n s.runs })
  run_counted t slot who n same small is = record {
    runs = yes is_run_of rows i d s.runs within has.runs n small (λ e. ap (is_run_of e) is ∙ ap (λ x. x == e) (sym same));
    pays = no is_pay_of rows i d s.pays within has.pays (λ e. ap (is_pay_of e) is);
    overs = no is_over_of rows i d s.overs within has.overs (λ e. ap (is_over_of e) is);
  }

  pub pay_counted : (t slot who n : ℕ) → n ≡ who → n < byte_values → slice_index_or rows i d ≡ row.Pay t slot who → AreSums (take (i + 1) rows) (record s { pays = counted n s.pays })
  pay_counted t slot who n same small is = record {
    runs = no is_run_of rows i d s.runs within has.runs (λ e. ap (is_run_of e) is);
    pays = yes is_pay_of rows i d s.pays within has.pays n small (λ e. ap (is_pay_of e) is ∙ ap (λ x. x == e) (sym same));
    overs = no is_over_of rows i d s.overs within has.overs (λ e. ap (is_over_of e) is);
  }

  pub over_counted : (t slot who excess n : ℕ) → n ≡ who → n < byte_values → slice_index_or rows i d ≡ row.Over t slot who excess → AreSums (take (i + 1) rows) (record s { overs = counted n s.overs })
  over_counted t slot who excess n same small is = record {
    runs = no is_run_of rows i d s.runs within has.runs (λ e. ap (is_run_of e) is);
    pays = no is_pay_of rows i d s.pays within has.pays (λ e. ap (is_pay_of e) is);
    overs = yes is_over_of rows i d s.overs within has.overs n small (λ e. ap (is_over_of e) is ∙ ap (λ x. x == e) (sym same));
  }

  pub none_counted : ((t slot who : ℕ) → slice_index_or rows i d ≡ row.Run t slot who → ⊥) → ((t slot who : ℕ) → slice_index_or rows i d ≡ row.Pay t slot who → ⊥)
      → ((t slot who excess : ℕ) → slice_index_or rows i d ≡ row.Over t slot who excess → ⊥) → AreSums (take (i + 1) rows) s
  none_counted not_run not_pay not_over = record {
    runs = no is_run_of rows i d s.runs within has.runs (no_run (slice_index_or rows i d) not_run);
    pays = no is_pay_of rows i d s.pays within has.pays (no_pay (slice_index_or rows i d) not_pay);
    overs = no is_over_of rows i d s.overs within has.overs (no_over (slice_index_or rows i d) not_over);
  }

-- A row is read back from its own name and numbers.
use Rattle.std.proofs.Common.{refl, sym, ◌∙◌, ap, subst, ◌≡◌, ℕ, List, [], ◌∷◌, Bool, true, false, Option, None, Some, Ok, Err}
use Rattle.std.specs.Prelude.{if◌then◌else◌}
use Rattle.std.specs.Option.{ok_or, option_map}
use Rattle.std.proofs.lemmas.Bool.{and_from, cond-true, leb-true, le-leb, and_parts}
use Rattle.kernel_journal.specs.declared.row.Row.{Row}
use Rattle.kernel_journal.specs.declared.row.Row.TheVariants as row
use Rattle.kernel_journal.specs.declared.table.NumberKind.{NumberKind}
use Rattle.kernel_journal.specs.declared.table.RowName.{RowName}
use Rattle.kernel_journal.specs.declared.table.RowName.TheVariants as name
use Rattle.kernel_journal.specs.declared.reading.RowFault.TheVariants.{Form, Range}
use Rattle.kernel_journal.specs.RowTable.{AreNumbersWithin, IsNumberWithin, IsRowWithin, ReadRowsAreWithin, RowsAreReadBack, are_paired, are_within, asked_of, gift_of, has_form, have_kinds, is_within, kinds_of, most_of, name_in, named_row, numbers_of, over_of, own_of, row_by, row_name, row_of, row_with, take_of, turn_of, unclaimed_of}

-- the test of the limits, and what it says
number_tests : (kind : NumberKind) (number : Option ℕ) → IsNumberWithin kind number → is_within kind number ≡ true
number_tests kind None within = refl
number_tests kind (Some n) within = le-leb n (most_of kind) within

number_tested : (kind : NumberKind) (number : Option ℕ) → is_within kind number ≡ true → IsNumberWithin kind number
number_tested kind None is = tt
number_tested kind (Some n) is = leb-true n (most_of kind) is

within_tests : (kinds : List NumberKind) (numbers : List (Option ℕ)) → AreNumbersWithin kinds numbers → are_within kinds numbers ≡ true
within_tests [] numbers within = refl
within_tests (kind ∷ kinds) [] within = refl
within_tests (kind ∷ kinds) (number ∷ numbers) (here, rest) =
    and_from (is_within kind number) (are_within kinds numbers) (number_tests kind number here) (within_tests kinds numbers rest)

within_tested : (kinds : List NumberKind) (numbers : List (Option ℕ)) → are_within kinds numbers ≡ true → AreNumbersWithin kinds numbers
within_tested [] numbers is = tt
within_tested (kind ∷ kinds) [] is = tt
within_tested (kind ∷ kinds) (number ∷ numbers) is =
    let parts = and_parts (is_within kind number) (are_within kinds numbers) is in
    (number_tested kind number parts.0, within_tested kinds numbers parts.1)

-- numbers of a row's form and within its limits are the row
read : (known : RowName) (numbers : List (Option ℕ)) (r : Row) → has_form known numbers ≡ true → AreNumbersWithin (kinds_of known) numbers → row_with known numbers ≡ Some r
    → row_by known numbers ≡ Ok r
read known numbers r form within made =
    cond-true (has_form known numbers) _ (Err Form) form ∙ (cond-true (are_within (kinds_of known) numbers) _ (Err Range) (within_tests (kinds_of known) numbers within)
    ∙ ap (λ (o : Option Row). ok_or o Form) made)

pub rows_read_back : RowsAreReadBack
unfolding row_of
rows_read_back (row.Own t slot None None) is = read name.Own (Some t ∷ Some slot ∷ None ∷ None ∷ []) (row.Own t slot None None) refl is.numbers refl
rows_read_back (row.Own t slot (Some a) (Some b)) is = read name.Own (Some t ∷ Some slot ∷ Some a ∷ Some b ∷ []) (row.Own t slot (Some a) (Some b)) refl is.numbers refl
rows_read_back (row.Own t slot None (Some b)) is = let no : false ≡ true = is.paired in cc
rows_read_back (row.Own t slot (Some a) None) is = let no : false ≡ true = is.paired in cc
rows_read_back (row.Run t slot e) is = read name.Run (Some t ∷ Some slot ∷ Some e ∷ []) (row.Run t slot e) refl is.numbers refl
rows_read_back (row.Pay t slot e) is = read name.Pay (Some t ∷ Some slot ∷ Some e ∷ []) (row.Pay t slot e) refl is.numbers refl
rows_read_back (row.Give t slot from to) is = read name.Give (Some t ∷ Some slot ∷ Some from ∷ Some to ∷ []) (row.Give t slot from to) refl is.numbers refl
rows_read_back (row.Async t slot from to) is = read name.Async (Some t ∷ Some slot ∷ Some from ∷ Some to ∷ []) (row.Async t slot from to) refl is.numbers refl
rows_read_back (row.Sync t slot from to) is = read name.Sync (Some t ∷ Some slot ∷ Some from ∷ Some to ∷ []) (row.Sync t slot from to) refl is.numbers refl
rows_read_back (row.End t slot e) is = read name.End (Some t ∷ Some slot ∷ Some e ∷ []) (row.End t slot e) refl is.numbers refl
rows_read_back (row.Over t slot e excess) is = read name.Over (Some t ∷ Some slot ∷ Some e ∷ Some excess ∷ []) (row.Over t slot e excess) refl is.numbers refl
rows_read_back (row.Stop t slot e) is = read name.Stop (Some t ∷ Some slot ∷ Some e ∷ []) (row.Stop t slot e) refl is.numbers refl
rows_read_back (row.Dead t slot e) is = read name.Dead (Some t ∷ Some slot ∷ Some e ∷ []) (row.Dead t slot e) refl is.numbers refl
rows_read_back (row.Asked t e outstanding deadline) is =
    read name.Asked (Some t ∷ Some e ∷ Some outstanding ∷ Some deadline ∷ []) (row.Asked t e outstanding deadline) refl is.numbers refl
rows_read_back (row.Take t e page None) is = read name.Take (Some t ∷ Some e ∷ Some page ∷ None ∷ []) (row.Take t e page None) refl is.numbers refl
rows_read_back (row.Take t e page (Some copy)) is = read name.Take (Some t ∷ Some e ∷ Some page ∷ Some copy ∷ []) (row.Take t e page (Some copy)) refl is.numbers refl
rows_read_back (row.Unclaimed t size) is = read name.Unclaimed (Some t ∷ Some size ∷ []) (row.Unclaimed t size) refl is.numbers refl

-- a row that is read has this name and these numbers
record Has (known : RowName) (numbers : List (Option ℕ)) (r : Row) : Type 0 where
  called : known ≡ row_name r
  all : numbers ≡ numbers_of r

turn_has : (known : RowName) (made : ℕ → ℕ → ℕ → Row) (numbers : List (Option ℕ)) (r : Row) → ((t slot e : ℕ) → Has known (Some t ∷ Some slot ∷ Some e ∷ []) (made t slot e))
    → option_map (λ x. made x.0 x.1 x.2) (turn_of numbers) ≡ Some r → Has known numbers r
turn_has known made (Some t ∷ Some slot ∷ Some e ∷ []) r has is = let same : made t slot e ≡ r = cc in subst (Has known (Some t ∷ Some slot ∷ Some e ∷ [])) same (has t slot e)
turn_has known made numbers r has is = cc

gift_has : (known : RowName) (made : ℕ → ℕ → ℕ → ℕ → Row) (numbers : List (Option ℕ)) (r : Row)
    → ((t slot from to : ℕ) → Has known (Some t ∷ Some slot ∷ Some from ∷ Some to ∷ []) (made t slot from to)) → option_map (λ x. made x.0 x.1 x.2 x.3) (gift_of numbers) ≡ Some r
    → Has known numbers r
gift_has known made (Some t ∷ Some slot ∷ Some from ∷ Some to ∷ []) r has is =
    let same : made t slot from to ≡ r = cc in
    subst (Has known (Some t ∷ Some slot ∷ Some from ∷ Some to ∷ [])) same (has t slot from to)
gift_has known made numbers r has is = cc

own_has : (numbers : List (Option ℕ)) (r : Row) → own_of numbers ≡ Some r → Has name.Own numbers r
own_has (Some t ∷ Some slot ∷ owner ∷ holder ∷ []) r is = let same : row.Own t slot owner holder ≡ r = cc in subst (Has name.Own _) same (record { called = refl; all = refl })
own_has numbers r is = cc

over_has : (numbers : List (Option ℕ)) (r : Row) → over_of numbers ≡ Some r → Has name.Over numbers r
over_has (Some t ∷ Some slot ∷ Some e ∷ Some excess ∷ []) r is = let same : row.Over t slot e excess ≡ r = cc in subst (Has name.Over _) same (record { called = refl; all = refl })
over_has numbers r is = cc

asked_has : (numbers : List (Option ℕ)) (r : Row) → asked_of numbers ≡ Some r → Has name.Asked numbers r
asked_has (Some t ∷ Some e ∷ Some many ∷ Some deadline ∷ []) r is = let same : row.Asked t e many deadline ≡ r = cc in subst (Has name.Asked _) same (record { called = refl; all = refl })
asked_has numbers r is = cc

take_has : (numbers : List (Option ℕ)) (r : Row) → take_of numbers ≡ Some r → Has name.Take numbers r
take_has (Some t ∷ Some e ∷ Some page ∷ backup ∷ []) r is = let same : row.Take t e page backup ≡ r = cc in subst (Has name.Take _) same (record { called = refl; all = refl })
take_has numbers r is = cc

unclaimed_has : (numbers : List (Option ℕ)) (r : Row) → unclaimed_of numbers ≡ Some r → Has name.Unclaimed numbers r
unclaimed_has (Some t ∷ Some size ∷ []) r is = let same : row.Unclaimed t size ≡ r = cc in subst (Has name.Unclaimed _) same (record { called = refl; all = refl })
unclaimed_has numbers r is = cc

row_has : (known : RowName) (numbers : List (Option ℕ)) (r : Row) → row_with known numbers ≡ Some r → Has known numbers r
row_has name.Own numbers r is = own_has numbers r is
row_has name.Run numbers r is = turn_has name.Run row.Run numbers r (λ t slot e. record { called = refl; all = refl }) is
row_has name.Pay numbers r is = turn_has name.Pay row.Pay numbers r (λ t slot e. record { called = refl; all = refl }) is
row_has name.Give numbers r is = gift_has name.Give row.Give numbers r (λ t slot from to. record { called = refl; all = refl }) is
row_has name.Async numbers r is = gift_has name.Async row.Async numbers r (λ t slot from to. record { called = refl; all = refl }) is
row_has name.Sync numbers r is = gift_has name.Sync row.Sync numbers r (λ t slot from to. record { called = refl; all = refl }) is
row_has name.End numbers r is = turn_has name.End row.End numbers r (λ t slot e. record { called = refl; all = refl }) is
row_has name.Over numbers r is = over_has numbers r is
row_has name.Stop numbers r is = turn_has name.Stop row.Stop numbers r (λ t slot e. record { called = refl; all = refl }) is
row_has name.Dead numbers r is = turn_has name.Dead row.Dead numbers r (λ t slot e. record { called = refl; all = refl }) is
row_has name.Asked numbers r is = asked_has numbers r is
row_has name.Take numbers r is = take_has numbers r is
row_has name.Unclaimed numbers r is = unclaimed_has numbers r is

has_within : (known : RowName) (numbers : List (Option ℕ)) (r : Row) → Has known numbers r → has_form known numbers ≡ true → are_within (kinds_of known) numbers ≡ true → IsRowWithin r
has_within known numbers r has form within = record {
  numbers = subst (λ k. AreNumbersWithin (kinds_of k) (numbers_of r)) has.called (subst (AreNumbersWithin (kinds_of known)) has.all (within_tested (kinds_of known) numbers within));
  paired = subst (λ k. are_paired k (numbers_of r) ≡ true) has.called
      (subst (λ ns. are_paired known ns ≡ true) has.all (and_parts (have_kinds (kinds_of known) numbers) (are_paired known numbers) form).1);
}

by_within : (known : RowName) (numbers : List (Option ℕ)) (r : Row) → row_by known numbers ≡ Ok r → IsRowWithin r
by_within known numbers r is = by_tests (has_form known numbers) (are_within (kinds_of known) numbers) (row_with known numbers) refl refl refl is
  where
    by_tests : (form within : Bool) (made : Option Row) → form ≡ has_form known numbers → within ≡ are_within (kinds_of known) numbers → made ≡ row_with known numbers
        → (if form then (if within then ok_or made Form else Err Range) else Err Form) ≡ Ok r → IsRowWithin r
    by_tests false within made is_form is_within is_made is = cc
    by_tests true false made is_form is_within is_made is = cc
    by_tests true true None is_form is_within is_made is = cc
    by_tests true true (Some x) is_form is_within is_made is =
        let same : x ≡ r = cc in
        has_within known numbers r (row_has known numbers r (sym is_made ∙ ap Some same)) (sym is_form) (sym is_within)

pub read_rows_within : ReadRowsAreWithin
unfolding row_of
read_rows_within text numbers r is = by_name (name_in text) is
  where
    by_name : (known : Option RowName) → named_row known numbers ≡ Ok r → IsRowWithin r
    by_name None is = cc
    by_name (Some known) is = by_within known numbers r is

-- The text of rows, as one table: what each is called, and its numbers in their order, each of a kind that has a limit.
use Rattle.std.specs.Prelude.{◌≡◌, ℕ, ◌+◌, ◌-◌, ◌^◌, ◌≤◌, nat_le, ◌==◌, Bool, true, false, ◌&&◌, if◌then◌else◌, List, [], ◌∷◌, length, Option, None, Some, IfSome, Result, Ok, Err, codes}
use Rattle.std.specs.List.{find, list_all, zip}
use Rattle.std.specs.Option.{ok_or, option_map}
use Rattle.std.specs.Str.{bytes_eq}
use Rattle.aegis_limits.specs.Limits.{excess_limit, most_environments, most_slots, most_run_ticks}
use Rattle.kernel_journal.specs.declared.row.Row.{Row}
use Rattle.kernel_journal.specs.declared.row.Row.TheVariants as row
use Rattle.kernel_journal.specs.declared.table.NumberKind.{NumberKind}
use Rattle.kernel_journal.specs.declared.table.NumberKind.TheVariants.{Time, Slot, Env, EnvOrNone, Excess, Number, NumberOrNone}
use Rattle.kernel_journal.specs.declared.table.RowName.{RowName}
use Rattle.kernel_journal.specs.declared.table.RowName.TheVariants as name
use Rattle.kernel_journal.specs.declared.reading.RowFault.{RowFault}
use Rattle.kernel_journal.specs.declared.reading.RowFault.TheVariants.{Form, Range}

-- how each row is called
abbrev pub text_of : RowName → List ℕ
text_of name.Own = codes "own"
text_of name.Run = codes "run"
text_of name.Pay = codes "pay"
text_of name.Give = codes "give"
text_of name.Async = codes "async"
text_of name.Sync = codes "sync"
text_of name.End = codes "end"
text_of name.Over = codes "over"
text_of name.Stop = codes "stop"
text_of name.Dead = codes "dead"
text_of name.Asked = codes "asked"
text_of name.Take = codes "take"
text_of name.Unclaimed = codes "drop"

-- the kinds of its numbers, in their order
abbrev pub kinds_of : RowName → List NumberKind
kinds_of name.Own = Time ∷ Slot ∷ EnvOrNone ∷ EnvOrNone ∷ []
kinds_of name.Run = Time ∷ Slot ∷ Env ∷ []
kinds_of name.Pay = Time ∷ Slot ∷ Env ∷ []
kinds_of name.Give = Time ∷ Slot ∷ Env ∷ Env ∷ []
kinds_of name.Async = Time ∷ Slot ∷ Env ∷ Env ∷ []
kinds_of name.Sync = Time ∷ Slot ∷ Env ∷ Env ∷ []
kinds_of name.End = Time ∷ Slot ∷ Env ∷ []
kinds_of name.Over = Time ∷ Slot ∷ Env ∷ Excess ∷ []
kinds_of name.Stop = Time ∷ Slot ∷ Env ∷ []
kinds_of name.Dead = Time ∷ Slot ∷ Env ∷ []
kinds_of name.Asked = Time ∷ Env ∷ Number ∷ Number ∷ []
kinds_of name.Take = Time ∷ Env ∷ Number ∷ NumberOrNone ∷ []
kinds_of name.Unclaimed = Time ∷ Number ∷ []

-- the highest number of a kind
abbrev pub most_of : NumberKind → ℕ
most_of Time = most_run_ticks
most_of Slot = most_slots - 1
most_of Env = most_environments - 1
most_of EnvOrNone = most_environments - 1
most_of Excess = excess_limit + 1
most_of Number = 2 ^ 32 - 1
most_of NumberOrNone = 2 ^ 32 - 1

-- the name and the numbers of a row
abbrev pub row_name : Row → RowName
row_name (row.Own t slot owner holder) = name.Own
row_name (row.Run t slot e) = name.Run
row_name (row.Pay t slot e) = name.Pay
row_name (row.Give t slot from to) = name.Give
row_name (row.Async t slot from to) = name.Async
row_name (row.Sync t slot from to) = name.Sync
row_name (row.End t slot e) = name.End
row_name (row.Over t slot e excess) = name.Over
row_name (row.Stop t slot e) = name.Stop
row_name (row.Dead t slot e) = name.Dead
row_name (row.Asked t e outstanding deadline) = name.Asked
row_name (row.Take t e page backup) = name.Take
row_name (row.Unclaimed t size) = name.Unclaimed

abbrev pub name_of : Row → List ℕ
name_of r = text_of (row_name r)

abbrev pub numbers_of : Row → List (Option ℕ)
numbers_of (row.Own t slot owner holder) = Some t ∷ Some slot ∷ owner ∷ holder ∷ []
numbers_of (row.Run t slot e) = Some t ∷ Some slot ∷ Some e ∷ []
numbers_of (row.Pay t slot e) = Some t ∷ Some slot ∷ Some e ∷ []
numbers_of (row.Give t slot from to) = Some t ∷ Some slot ∷ Some from ∷ Some to ∷ []
numbers_of (row.Async t slot from to) = Some t ∷ Some slot ∷ Some from ∷ Some to ∷ []
numbers_of (row.Sync t slot from to) = Some t ∷ Some slot ∷ Some from ∷ Some to ∷ []
numbers_of (row.End t slot e) = Some t ∷ Some slot ∷ Some e ∷ []
numbers_of (row.Over t slot e excess) = Some t ∷ Some slot ∷ Some e ∷ Some excess ∷ []
numbers_of (row.Stop t slot e) = Some t ∷ Some slot ∷ Some e ∷ []
numbers_of (row.Dead t slot e) = Some t ∷ Some slot ∷ Some e ∷ []
numbers_of (row.Asked t e outstanding deadline) = Some t ∷ Some e ∷ Some outstanding ∷ Some deadline ∷ []
numbers_of (row.Take t e page backup) = Some t ∷ Some e ∷ Some page ∷ backup ∷ []
numbers_of (row.Unclaimed t size) = Some t ∷ Some size ∷ []

-- the time of a row is its first number
abbrev pub first_number : List (Option ℕ) → ℕ
first_number (Some n ∷ numbers) = n
first_number numbers = 0

abbrev pub time_of : Row → ℕ
time_of r = first_number (numbers_of r)

-- The numbers of a row are within the limits of their kinds; and a slot has an owner and a holder, or neither.
abbrev pub IsNumberWithin : NumberKind → Option ℕ → Type 0
IsNumberWithin kind number = IfSome number (λ n. n ≤ most_of kind)

abbrev pub AreNumbersWithin : List NumberKind → List (Option ℕ) → Type 0
AreNumbersWithin (kind ∷ kinds) (number ∷ numbers) = IsNumberWithin kind number × AreNumbersWithin kinds numbers
AreNumbersWithin kinds numbers = Unit {0}

abbrev pub both_or_neither : Option ℕ → Option ℕ → Bool
both_or_neither None None = true
both_or_neither None (Some b) = false
both_or_neither (Some a) None = false
both_or_neither (Some a) (Some b) = true

abbrev pub are_paired : RowName → List (Option ℕ) → Bool
are_paired name.Own (t ∷ slot ∷ owner ∷ holder ∷ []) = both_or_neither owner holder
are_paired known numbers = true

pub record IsRowWithin (r : Row) : Type 0 where
  pub numbers : AreNumbersWithin (kinds_of (row_name r)) (numbers_of r)
  pub paired : are_paired (row_name r) (numbers_of r) ≡ true

-- READING. The name that a text is.
abbrev pub all_names : List RowName
all_names =
    name.Run ∷ name.Stop ∷ name.Own ∷ name.Pay ∷ name.Give ∷ name.Async ∷ name.Sync ∷ name.End ∷ name.Over ∷ name.Dead
    ∷ name.Asked ∷ name.Take ∷ name.Unclaimed ∷ []

abbrev pub name_in : List ℕ → Option RowName
name_in text = find (λ known. bytes_eq text (text_of known)) all_names

-- Numbers have a row's form where there are as many as the row has, each is there unless there may be none of its kind,
-- and owner and holder are both there or neither is.
abbrev pub may_be_none : NumberKind → Bool
may_be_none EnvOrNone = true
may_be_none NumberOrNone = true
may_be_none kind = false

abbrev pub has_kind : NumberKind → Option ℕ → Bool
has_kind kind None = may_be_none kind
has_kind kind (Some n) = true

abbrev pub each_has_kind : List NumberKind → List (Option ℕ) → Bool
each_has_kind kinds numbers = list_all (λ x. has_kind x.0 x.1) (zip kinds numbers)

abbrev pub have_kinds : List NumberKind → List (Option ℕ) → Bool
have_kinds kinds numbers = length numbers == length kinds && each_has_kind kinds numbers

abbrev pub has_form : RowName → List (Option ℕ) → Bool
has_form known numbers = have_kinds (kinds_of known) numbers && are_paired known numbers

-- whether each is within the limit of its kind
abbrev pub is_within : NumberKind → Option ℕ → Bool
is_within kind None = true
is_within kind (Some n) = nat_le n (most_of kind)

abbrev pub are_within : List NumberKind → List (Option ℕ) → Bool
are_within kinds numbers = list_all (λ x. is_within x.0 x.1) (zip kinds numbers)

-- a time, a slot and an environment; and with two of these
abbrev pub turn_of : List (Option ℕ) → Option (ℕ × ℕ × ℕ)
turn_of (Some t ∷ Some slot ∷ Some e ∷ []) = Some (t, slot, e)
turn_of numbers = None

abbrev pub gift_of : List (Option ℕ) → Option (ℕ × ℕ × ℕ × ℕ)
gift_of (Some t ∷ Some slot ∷ Some from ∷ Some to ∷ []) = Some (t, slot, from, to)
gift_of numbers = None

abbrev pub own_of : List (Option ℕ) → Option Row
own_of (Some t ∷ Some slot ∷ owner ∷ holder ∷ []) = Some (row.Own t slot owner holder)
own_of numbers = None

abbrev pub over_of : List (Option ℕ) → Option Row
over_of (Some t ∷ Some slot ∷ Some e ∷ Some excess ∷ []) = Some (row.Over t slot e excess)
over_of numbers = None

abbrev pub asked_of : List (Option ℕ) → Option Row
asked_of (Some t ∷ Some e ∷ Some outstanding ∷ Some deadline ∷ []) = Some (row.Asked t e outstanding deadline)
asked_of numbers = None

abbrev pub take_of : List (Option ℕ) → Option Row
take_of (Some t ∷ Some e ∷ Some page ∷ backup ∷ []) = Some (row.Take t e page backup)
take_of numbers = None

abbrev pub unclaimed_of : List (Option ℕ) → Option Row
unclaimed_of (Some t ∷ Some size ∷ []) = Some (row.Unclaimed t size)
unclaimed_of numbers = None

-- the row of a name with these numbers, if they have its form
abbrev pub row_with : RowName → List (Option ℕ) → Option Row
row_with name.Own numbers = own_of numbers
row_with name.Run numbers = option_map (λ x. row.Run x.0 x.1 x.2) (turn_of numbers)
row_with name.Pay numbers = option_map (λ x. row.Pay x.0 x.1 x.2) (turn_of numbers)
row_with name.Give numbers = option_map (λ x. row.Give x.0 x.1 x.2 x.3) (gift_of numbers)
row_with name.Async numbers = option_map (λ x. row.Async x.0 x.1 x.2 x.3) (gift_of numbers)
row_with name.Sync numbers = option_map (λ x. row.Sync x.0 x.1 x.2 x.3) (gift_of numbers)
row_with name.End numbers = option_map (λ x. row.End x.0 x.1 x.2) (turn_of numbers)
row_with name.Over numbers = over_of numbers
row_with name.Stop numbers = option_map (λ x. row.Stop x.0 x.1 x.2) (turn_of numbers)
row_with name.Dead numbers = option_map (λ x. row.Dead x.0 x.1 x.2) (turn_of numbers)
row_with name.Asked numbers = asked_of numbers
row_with name.Take numbers = take_of numbers
row_with name.Unclaimed numbers = unclaimed_of numbers

-- A fault of form comes before one of range.
abbrev pub row_by : RowName → List (Option ℕ) → Result Row RowFault
row_by known numbers =
    if has_form known numbers then
    (if are_within (kinds_of known) numbers then ok_or (row_with known numbers) Form else Err Range)
    else Err Form

abbrev pub named_row : Option RowName → List (Option ℕ) → Result Row RowFault
named_row None numbers = Err Form
named_row (Some known) numbers = row_by known numbers

-- the row that a name and numbers are
unfoldable pub row_of : List ℕ → List (Option ℕ) → Result Row RowFault
row_of text numbers = named_row (name_in text) numbers

-- A row is read back from its own name and numbers.
abbrev pub RowsAreReadBack : Type 0
RowsAreReadBack = (r : Row) → IsRowWithin r → row_of (name_of r) (numbers_of r) ≡ Ok r

-- The numbers of each row that is read are within their limits.
abbrev pub ReadRowsAreWithin : Type 0
ReadRowsAreWithin = (text : List ℕ) (numbers : List (Option ℕ)) (r : Row) → row_of text numbers ≡ Ok r → IsRowWithin r

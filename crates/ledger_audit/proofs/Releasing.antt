-- The rows of the slots that a death changes.
use Rattle.std.proofs.Common.{arith, refl, sym, ◌∙◌, ap, subst, ◌≡◌, ◌<◌, ◌≤◌, ◌+◌, inl, inr, ℕ, zero, suc, List, [], ◌∷◌, ◌++◌, drop, length, length-append, add-one, Bool, true, false, ◌&&◌, Option}
use Rattle.std.specs.Prelude.{if◌then◌else◌}
use Rattle.std.proofs.lemmas.Bool.{and_left, and_right, and_from, cases_lt}
use Rattle.kernel_journal.specs.declared.row.Row.{Row}
use Rattle.world_model.specs.declared.hold.Hold.{Hold}
use Rattle.world_model.specs.Book.{has_part, hold_without}
use Rattle.world_model.specs.Death.{released_row, released_rows}
use Rattle.world_model.specs.SlotCalls.{slot_row}
use Rattle.aegis_limits.specs.Limits.{most_slots}
use Rattle.ledger_audit.specs.LedgerState.{released_by}
use Rattle.ledger_audit.specs.RowRules.{is_row, stand_first}
use Rattle.ledger_audit.specs.Auditor.{IsBehind}

-- how many there are
pub count_next : (t e : ℕ) (slots : ℕ → Option Hold) (k : ℕ)
    → length (released_rows t e slots (k + 1)) ≡ (if has_part e (slots k) then length (released_rows t e slots k) + 1 else length (released_rows t e slots k))
count_next t e slots k = rw (add-one k) (length-append (released_rows t e slots k) (released_row t e k (slots k)) ∙ by_part (has_part e (slots k)))
  where
    by_part : (b : Bool) → length (released_rows t e slots k) + length (if b then slot_row t k (hold_without e (slots k)) ∷ [] else []) ≡ (if b then length (released_rows t e slots k) + 1 else length (released_rows t e slots k))
    by_part true = refl
    by_part false = omega arith

pub count_all : (t e : ℕ) (slots : ℕ → Option Hold) (k n : ℕ) → k ≤ most_slots → most_slots ≤ k → n ≡ length (released_rows t e slots k)
    → n ≡ length (released_by t e slots)
unfolding released_by
count_all t e slots k n most least same =
    let all : k ≡ most_slots = omega (arith, most, least) in same ∙ ap (λ (m : ℕ). length (released_rows t e slots m)) all

-- rows in two parts
stand_append : (xs ys later : List Row) → stand_first (xs ++ ys) later ≡ (stand_first xs later && stand_first ys (drop (length xs) later))
stand_append [] ys later = refl
stand_append (x ∷ xs) ys [] = refl
stand_append (x ∷ xs) ys (r ∷ later) = by_first (is_row x r) _ _ _ (stand_append xs ys later)
  where
    by_first : (b c d e : Bool) → c ≡ (d && e) → (b && c) ≡ ((b && d) && e)
    by_first true c d e same = same
    by_first false c d e same = refl

drop_append : (xs ys later : List Row) → drop (length ys) (drop (length xs) later) ≡ drop (length (xs ++ ys)) later
drop_append [] ys later = refl
drop_append (x ∷ xs) ys [] = drop_none (length ys)
  where
    drop_none : (n : ℕ) → drop {A = Row} n [] ≡ []
    drop_none zero = refl
    drop_none (suc n) = refl
drop_append (x ∷ xs) ys (r ∷ later) = drop_append xs ys later

-- one slot more
pub goes_on : (t e : ℕ) (slots : ℕ → Option Hold) (k : ℕ) (later left rest : List Row) → IsBehind (released_rows t e slots k) later left
    → IsBehind (released_row t e k (slots k)) left rest → IsBehind (released_rows t e slots (k + 1)) later rest
goes_on t e slots k later left rest before here =
    let xs = released_rows t e slots k in
    let ys = released_row t e k (slots k) in
    rw (add-one k) (record {
      stand = stand_append xs ys later ∙ and_from (stand_first xs later) (stand_first ys (drop (length xs) later)) before.stand (ap (stand_first ys) (sym before.rest) ∙ here.stand);
      rest = here.rest ∙ ap (drop (length ys)) before.rest ∙ drop_append xs ys later;
    })

-- a row that isn't there is missed by all that are due
fails : (t e : ℕ) (slots : ℕ → Option Hold) (n k : ℕ) (later left : List Row) → IsBehind (released_rows t e slots k) later left → k < n
    → stand_first (released_row t e k (slots k)) left ≡ false → stand_first (released_rows t e slots n) later ≡ false
fails t e slots zero k later left before less missing = absurd (omega (arith, less))
fails t e slots (suc n) k later left before less missing =
    let xs = released_rows t e slots n in
    let ys = released_row t e n (slots n) in
    stand_append xs ys later ∙ elim (cases_lt k n) [
      | inl below ↦ and_left (stand_first xs later) (stand_first ys (drop (length xs) later)) (fails t e slots n k later left before below missing)
      | inr past ↦ and_right (stand_first xs later) (stand_first ys (drop (length xs) later)) (last (omega (arith, less, past)))
    ]
  where
    last : k ≡ n → stand_first (released_row t e n (slots n)) (drop (length (released_rows t e slots n)) later) ≡ false
    last is =
        subst (λ (m : ℕ). stand_first (released_row t e m (slots m)) (drop (length (released_rows t e slots m)) later) ≡ false) is
        (ap (stand_first (released_row t e k (slots k))) (sym before.rest) ∙ missing)

-- all of them
pub all_stand : (t e : ℕ) (slots : ℕ → Option Hold) (k : ℕ) (later left : List Row) → IsBehind (released_rows t e slots k) later left
    → k ≤ most_slots → most_slots ≤ k → stand_first (released_by t e slots) later ≡ true
unfolding released_by
all_stand t e slots k later left before most least =
    let all : k ≡ most_slots = omega (arith, most, least) in
    subst (λ (n : ℕ). stand_first (released_rows t e slots n) later ≡ true) all before.stand

pub one_fails : (t e : ℕ) (slots : ℕ → Option Hold) (k : ℕ) (later left : List Row) → IsBehind (released_rows t e slots k) later left → k < most_slots
    → stand_first (released_row t e k (slots k)) left ≡ false → stand_first (released_by t e slots) later ≡ false
unfolding released_by
one_fails t e slots k later left before less missing = fails t e slots most_slots k later left before less missing

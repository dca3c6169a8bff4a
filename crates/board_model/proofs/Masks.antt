-- The rows of the slots that a mask names.
use Rattle.std.proofs.Common.{◌≡◌, ◌≢◌, ℕ, zero, suc, ◌+◌, ◌*◌, ◌/◌, ◌%◌, List, [], ◌∷◌, ◌++◌, length, map, Bool, Option, refl, sym, ◌∙◌, ap, append_assoc, add-one, rules}
use Rattle.std.specs.Prelude.{◌==◌, if◌then◌else◌}
use Rattle.std.proofs.lemmas.List.{append-nil, length-append, length-map}
use Rattle.std.proofs.lemmas.Bool.{ne_eqb, eq-eqb}
use Rattle.kernel_journal.specs.Ledger.{Ledger, with_row}
use Rattle.kernel_journal.specs.declared.row.Row.{Row}
use Rattle.slot_vector.specs.Slices.{bit, hold_at, mask_of}
use Rattle.world_model.specs.declared.hold.Hold.{Hold}
use Rattle.world_model.specs.Book.{hold_without, has_part}
use Rattle.world_model.specs.Death.{released_rows}
use Rattle.world_model.specs.SlotCalls.{slot_row}
use Rattle.board_model.specs.Doing.{mask_rows, mask_from, with_rows}
use Rattle.board_model.proofs.Sound.{hold_at-released}

pub shifted_on : (mask k : ℕ) → mask_from mask (suc k) ≡ mask_from mask k / 2
shifted_on mask zero = refl
shifted_on mask (suc k) = shifted_on (mask / 2) k

shifted_none : (k : ℕ) → mask_from 0 k ≡ 0
shifted_none zero = refl
shifted_none (suc k) = shifted_none k

halved : (b : Bool) (m : ℕ) → (bit b + 2 * m) / 2 ≡ m
halved b m = search rules

lowest : (b : Bool) (m : ℕ) → (bit b + 2 * m) % 2 ≡ bit b
lowest b m = search rules

-- the mask has a bit for a slot exactly where the environment has a part in it
mask_bit : (e : ℕ) (slots : List (Option Hold)) (k : ℕ) → mask_from (mask_of e slots) k % 2 ≡ bit (has_part e (hold_at slots k))
mask_bit e [] k = ap (λ (n : ℕ). n % 2) (shifted_none k)
mask_bit e (slot ∷ slots) zero = lowest (has_part e slot) (mask_of e slots)
mask_bit e (slot ∷ slots) (suc k) = ap (λ (n : ℕ). mask_from n k % 2) (halved (has_part e slot) (mask_of e slots)) ∙ mask_bit e slots k

named_row : (t k : ℕ) (b : Bool) (hold : Option Hold) → (if bit b == 1 then slot_row t k hold ∷ [] else []) ≡ (if b then slot_row t k hold ∷ [] else [])
named_row t k b hold = search rules

rows_below : (t e : ℕ) (slots : List (Option Hold)) (k : ℕ) → mask_rows t (mask_of e slots) (hold_at (map (hold_without e) slots)) k ≡ released_rows t e (hold_at slots) k
rows_below t e slots zero = refl
rows_below t e slots (suc k) = search (rules, mask_bit, named_row, hold_at-released, (rows_below t e slots k))

-- the rows that the mask names once the environment is gone
pub rows_named : (t e : ℕ) (slots : List (Option Hold)) → mask_rows t (mask_of e slots) (hold_at (map (hold_without e) slots)) (length (map (hold_without e) slots)) ≡ released_rows t e (hold_at slots) (length slots)
rows_named t e slots = ap (mask_rows t (mask_of e slots) (hold_at (map (hold_without e) slots))) (length-map slots (hold_without e)) ∙ rows_below t e slots (length slots)

-- The rows so far, and that of the next slot, if the mask names it.
pub both_rows : (j : Ledger) (xs ys : List Row) → with_rows (with_rows j xs) ys ≡ with_rows j (xs ++ ys)
both_rows j xs ys = search (rules, length-append, append_assoc)

longer : (t mask : ℕ) (slots : ℕ → Option Hold) (k : ℕ) → mask_rows t mask slots (k + 1) ≡ mask_rows t mask slots k ++ (if mask_from mask k % 2 == 1 then slot_row t k (slots k) ∷ [] else [])
longer t mask slots k = rw (add-one k) refl

pub named_on : (j : Ledger) (t mask : ℕ) (slots : ℕ → Option Hold) (k rest : ℕ) → rest ≡ mask_from mask k → rest % 2 ≡ 1 →
    with_row (with_rows j (mask_rows t mask slots k)) (slot_row t k (slots k)) ≡ with_rows j (mask_rows t mask slots (k + 1))
named_on j t mask slots k rest is odd = search (rules, eq-eqb, both_rows, longer)

pub unnamed_on : (j : Ledger) (t mask : ℕ) (slots : ℕ → Option Hold) (k rest : ℕ) → rest ≡ mask_from mask k → rest % 2 ≢ 1 →
    with_rows j (mask_rows t mask slots k) ≡ with_rows j (mask_rows t mask slots (k + 1))
unnamed_on j t mask slots k rest is even = search (rules, ne_eqb, append-nil, longer)

-- what is left of the mask
pub left_on : (mask k rest : ℕ) → rest ≡ mask_from mask k → rest / 2 ≡ mask_from mask (k + 1)
left_on mask k rest is = ap (λ (n : ℕ). n / 2) is ∙ sym (shifted_on mask k) ∙ ap (mask_from mask) (sym (add-one k))

-- The vector of slots as a list and as a table.
use Rattle.std.proofs.Common.{◌≡◌, ◌≢◌, ◌<◌, ℕ, zero, suc, List, [], ◌∷◌, length, true, Option, None, is_some, refl, arith, rules, get_or-set_same, get_or-set_other, ◌∙◌, sym}
use Rattle.std.specs.Option.{option_map}
use Rattle.std.specs.Prelude.{nat_lt, slice_get, slice_set, slice_index_or}
use Rattle.std.proofs.lemmas.Bool.{cases_lt, lt-ltb, le-ltb}
use Rattle.std.proofs.lemmas.Option.{slice_get_past}
use Rattle.slot_vector.specs.Slices.{hold_at}
use Rattle.world_model.specs.declared.hold.Hold.{Hold}
use Rattle.world_model.specs.Table.{set_at}
use Rattle.board_model.proofs.Parts.{by_env, set_here, set_else}

some_within : {A : Type 0} (xs : List A) (k : ℕ) → k < length xs → is_some (slice_get xs k) ≡ true
some_within [] k within = absurd (omega arith)
some_within (x ∷ xs) zero within = refl
some_within (x ∷ xs) (suc k) within = some_within xs k (omega arith)

-- what is below the length is there
pub is_there : {A : Type 0} (xs : List A) (k : ℕ) → nat_lt k (length xs) ≡ is_some (slice_get xs k)
is_there xs k = search (rules, cases_lt, lt-ltb, some_within, le-ltb, slice_get_past)

-- the holds are the elements of the list, and none behind it
pub hold_is : (slots : List (Option Hold)) (k : ℕ) → hold_at slots k ≡ slice_index_or slots k None
hold_is [] k = refl
hold_is (slot ∷ slots) zero = refl
hold_is (slot ∷ slots) (suc k) = hold_is slots k

-- the slot itself, and the others
pub hold_here : (slots : List (Option Hold)) (k : ℕ) (hold : Option Hold) → k < length slots → hold_at (slice_set slots k hold) k ≡ hold
hold_here slots k hold within = hold_is (slice_set slots k hold) k ∙ get_or-set_same slots k hold None within

hold_else : (slots : List (Option Hold)) (k i : ℕ) (hold : Option Hold) → i ≢ k → hold_at (slice_set slots k hold) i ≡ hold_at slots i
hold_else slots k i hold ne = hold_is (slice_set slots k hold) i ∙ get_or-set_other slots k i hold None ne ∙ sym (hold_is slots i)

-- the slots once one of them has another hold
pub hold_set : (slots : List (Option Hold)) (k : ℕ) (hold : Option Hold) → k < length slots → (i : ℕ) → hold_at (slice_set slots k hold) i ≡ set_at k hold (hold_at slots) i
hold_set slots k hold within = search (rules, by_env, hold_here, set_here, hold_else, set_else)

-- once it is handed on, if there is one
pub handed_here : (f : Hold → Hold) (slots : List (Option Hold)) (k : ℕ) → hold_at (slice_set slots k (option_map f (hold_at slots k))) k ≡ option_map f (hold_at slots k)
handed_here f [] k = refl
handed_here f (slot ∷ slots) zero = refl
handed_here f (slot ∷ slots) (suc k) = handed_here f slots k

pub hold_changed : (f : Hold → Hold) (slots : List (Option Hold)) (k i : ℕ) → hold_at (slice_set slots k (option_map f (hold_at slots k))) i ≡ set_at k (option_map f (hold_at slots k)) (hold_at slots) i
hold_changed f slots k = search (rules, by_env, handed_here, set_here, hold_else, set_else)

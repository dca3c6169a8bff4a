-- What a sweep leaves.
use Rattle.std.proofs.Common.{arith, refl, ap, ◌∙◌, ◌≡◌, ◌+◌, ◌*◌, ◌/◌, ℕ, zero, suc, Bool, inl, inr, List, [], ◌∷◌, length, Option, None, get_or, true, false, Some, sym}
use Rattle.std.proofs.lemmas.Bool.{cases_lt, lt-ltb, le-ltb, eq-eqb}
use Rattle.std.proofs.lemmas.Nat.{div-mul-add}
use Rattle.std.specs.Prelude.{if◌then◌else◌}
use Rattle.page_book.specs.declared.row.PageRow.{PageRow}
use Rattle.bind_book.specs.declared.binding.Binding.{Binding}
use Rattle.bind_book.specs.Laws.{SweptByRow}
use Rattle.bind_book.specs.Stripe.{without, swept_from, swept_rows, goes_with}
use Rattle.aegis_limits.specs.declared.version.Version.{Version}
use Rattle.aegis_limits.specs.VersionLimits.{stripe_rows}

pub swept_place : (count place : ℕ) (broken : ℕ → Binding → Bool) (rows : List (Option Binding)) (i : ℕ) → get_or (swept_from count place broken rows) i None ≡ without (broken ((place + i) / count)) (get_or rows i None)
swept_place count place broken [] i = refl
swept_place count place broken (row ∷ rows) zero = let here : place + zero ≡ place = omega arith in rw here refl
swept_place count place broken (row ∷ rows) (suc i) =
    let next : place + suc i ≡ place + 1 + i = omega arith in
    rw next (swept_place count (place + 1) broken rows i)

-- a sweep leaves in each row what was there, if it isn't broken for its environment
pub swept_row : SweptByRow
unfolding swept_rows
swept_row broken binds e row =
    let count = stripe_rows binds.version in
    elim (cases_lt row count) [
      | inl below ↦
          let env : (0 + (e * count + row)) / count ≡ e = ap (λ (n : ℕ). n / count) (omega arith) ∙ div-mul-add e count row below in
          rw (lt-ltb row count below) (swept_place count 0 broken binds.rows (e * count + row) ∙ ap (λ (n : ℕ). without (broken n) (get_or binds.rows (e * count + row) None)) env)
      | inr past ↦ rw (le-ltb row count past) refl
    ]

length_from : (count place : ℕ) (broken : ℕ → Binding → Bool) (rows : List (Option Binding)) → length (swept_from count place broken rows) ≡ length rows
length_from count place broken [] = refl
length_from count place broken (row ∷ rows) = ap suc (length_from count (place + 1) broken rows)

-- a sweep leaves as many rows
pub length-swept : (v : Version) (broken : ℕ → Binding → Bool) (rows : List (Option Binding)) → length (swept_rows v broken rows) ≡ length rows
unfolding swept_rows
length-swept v broken rows = length_from (stripe_rows v) 0 broken rows

-- a sweep from the first row on
pub swept_none : (v : Version) (broken : ℕ → Binding → Bool) (rows : List (Option Binding)) → swept_from (stripe_rows v) 0 broken rows ≡ swept_rows v broken rows
unfolding swept_rows
swept_none v broken rows = refl

-- what is left in a row was there, and isn't broken
pub left_in_row : (broken : Binding → Bool) (row : Option Binding) (b : Binding) → without broken row ≡ Some b → (row ≡ Some b) × (broken b ≡ false)
left_in_row broken None b is = cc
left_in_row broken (Some x) b is = by_test (broken x) refl is
  where
    by_test : (t : Bool) → broken x ≡ t → (if t then None else Some x) ≡ Some b → (Some x ≡ Some b) × (broken b ≡ false)
    by_test true gone is = cc
    by_test false spared is = let same : x ≡ b = cc in (is, ap broken (sym same) ∙ spared)

-- the bindings of an environment that is gone go
pub own_goes : (pages : ℕ → PageRow) (e : ℕ) (row : Option Binding) → without (goes_with pages e e) row ≡ None
own_goes pages e None = refl
own_goes pages e (Some b) = rw (eq-eqb e e refl) refl

-- Rows of a table, one after another.
use Rattle.std.proofs.Common.{◌≡◌, ℕ, ◌+◌, ◌<◌, List, [], ◌∷◌, Option, Some, Bool, true, length, drop, get_or, refl, add-one, drop-cons, cond, IfSome, nat_lt, inl, inr}
use Rattle.std.proofs.lemmas.Bool.{and_parts, cases_Bool, ltb-true}
use Rattle.std.specs.List.{list_all}
use Rattle.std.specs.Map.{lookup}
use Rattle.std.specs.Str.{bytes_eq}
use Rattle.line_text.specs.declared.table.TableRow.{TableRow}
use Rattle.line_text.specs.Table.{rows_seen}

-- what the rows from a place on say of a name
abbrev pub said_from : {T : Type 0} → List ℕ → List (TableRow T) → ℕ → Option T
said_from name rows i = lookup (bytes_eq name) (rows_seen (drop i rows))

-- the row at the place, or the rows behind it
pub said_at : {T : Type 0} (name : List ℕ) (rows : List (TableRow T)) (i : ℕ) (row : TableRow T) → i < length rows → row ≡ get_or rows i row →
    said_from name rows i ≡ cond (bytes_eq name row.name.now) (Some row.meaning) (said_from name rows (i + 1))
said_at name rows i row within is = rw (add-one, drop-cons rows i row within, ← is) refl

-- a bound on what the rows mean is one on what is found
pub lookup_below : {T : Type 0} (size : T → ℕ) (n : ℕ) (test : List ℕ → Bool) (rows : List (List ℕ × T)) → list_all (λ r. nat_lt (size r.1) n) rows ≡ true → IfSome (lookup test rows) (λ v. size v < n)
lookup_below size n test [] all = tt
lookup_below size n test (r ∷ rows) all =
    let small = and_parts (nat_lt (size r.1) n) (list_all (λ q. nat_lt (size q.1) n) rows) all in
    elim (cases_Bool (test r.0)) [
      | inl is ↦ rw is (ltb-true (size r.1) n small.0)
      | inr is ↦ rw is (lookup_below size n test rows small.1)
    ]

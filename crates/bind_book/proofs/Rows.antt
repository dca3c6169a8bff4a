-- The rows of a stripe: at the start, after a write, and where a binding is found.
use Rattle.std.proofs.Common.{arith, refl, inl, inr, ◌≡◌, ◌≢◌, ◌<◌, ◌≤◌, ◌+◌, ◌*◌, ℕ, false, cond, eqb, ◌&&◌, List, length, Option, None, get_or, replicate, slice_set, get_or-set_same, get_or-set_other, Some}
use Rattle.std.proofs.lemmas.Bool.{cases_eq, cases_lt, and_right, eq-eqb, ne_eqb, lt-ltb, le-ltb}
use Rattle.std.proofs.lemmas.List.{length-replicate, get_or-replicate, get_or_past}
use Rattle.std.proofs.lemmas.Nat.{same_from_place}
use Rattle.bind_book.specs.declared.binding.Binding.{Binding}
use Rattle.bind_book.specs.Laws.{SetInOneRow}
use Rattle.bind_book.specs.Stripe.{stripe_place, empty_stripes, stripes, of_number, row_of}
use Rattle.aegis_limits.specs.declared.version.Version.{Version}
use Rattle.aegis_limits.specs.declared.version.Version.TheVariants.{One, Two}
use Rattle.aegis_limits.specs.Limits.{most_stripe_rows}
use Rattle.aegis_limits.specs.VersionLimits.{stripe_rows}

-- rows that are all empty
empty_place : (places place : ℕ) → get_or (replicate {A = Option Binding} places None) place None ≡ None
empty_place places place =
    elim (cases_lt place places) [
      | inl below ↦ get_or-replicate places place None None below
      | inr past ↦ get_or_past (replicate {A = Option Binding} places None) place None (rw (length-replicate {A = Option Binding} places None) past)
    ]

pub empty_row : (v : Version) (envs e row : ℕ) → stripes (empty_stripes v envs) e row ≡ None
empty_row v envs e row =
    elim (cases_lt row (stripe_rows v)) [
      | inl below ↦ rw (lt-ltb row (stripe_rows v) below) (empty_place (envs * stripe_rows v) (stripe_place v e row))
      | inr past ↦ rw (le-ltb row (stripe_rows v) past) refl
    ]

-- what stands at a place of the rows after a write at another row of a stripe, or at the same
set_place : (count : ℕ) (rows : List (Option Binding)) (e row i r : ℕ) (x : Option Binding) → e * count + count ≤ length rows → row < count → r < count
    → get_or (slice_set rows (e * count + row) x) (i * count + r) None ≡ cond (eqb i e && eqb r row) x (get_or rows (i * count + r) None)
set_place count rows e row i r x has below within =
    elim (cases_eq i e) [
      | inl same_env ↦
          elim (cases_eq r row) [
            | inl same_row ↦
                let there : e * count + row < length rows = omega (arith, has, below) in
                rw (eq-eqb i e same_env, eq-eqb r row same_row, same_env, same_row) (get_or-set_same rows (e * count + row) x None there)
            | inr other_row ↦ let apart : i * count + r ≢ e * count + row = λ p. other_row (same_from_place i r e row count within below p).1 in
                rw (ne_eqb r row other_row, and_right (eqb i e) false refl) (get_or-set_other rows (e * count + row) (i * count + r) x None apart)
          ]
      | inr other_env ↦ let apart : i * count + r ≢ e * count + row = λ p. other_env (same_from_place i r e row count within below p).0 in
          rw (ne_eqb i e other_env) (get_or-set_other rows (e * count + row) (i * count + r) x None apart)
    ]

-- what is put into a row of a stripe stands in that row alone
pub row_set : SetInOneRow
row_set binds e row x has below i r =
    let count = stripe_rows binds.version in
    elim (cases_lt r count) [
      | inl within ↦ rw (lt-ltb r count within) (set_place count binds.rows e row i r x has below within)
      | inr past ↦
          let other : eqb r row ≡ false = ne_eqb r row (λ e. absurd (omega (arith, e, past))) in
          rw (le-ltb r count past, other, and_right (eqb i e) false refl) refl
    ]

-- each VPN has a row
pub row_within : (v : Version) (vpn : ℕ) → row_of v vpn < stripe_rows v
unfolding stripe_rows
row_within One vpn = omega arith
row_within Two vpn = omega arith

pub row_most : (v : Version) (vpn : ℕ) → row_of v vpn < most_stripe_rows
unfolding stripe_rows
row_most One vpn = omega arith
row_most Two vpn = omega arith

-- behind the most rows there is none of a version's
pub rows_end : (v : Version) (row : ℕ) → most_stripe_rows ≤ row → stripe_rows v ≤ row
unfolding stripe_rows
rows_end One row behind = behind
rows_end Two row behind = omega (arith, behind)

-- a binding that is found by its VPN in a row stands there
pub found_in_row : (vpn : ℕ) (row : Option Binding) (b : Binding) → of_number vpn row ≡ Some b → row ≡ Some b
found_in_row vpn None b is = cc
found_in_row vpn (Some x) b is = grind arith

-- What holds of both values of a choice, and of one environment and all others.
use Rattle.std.proofs.Common.{◌≢◌, ℕ, Bool, true, false, inl, inr, sym, subst}
use Rattle.std.specs.Prelude.{if◌then◌else◌}
use Rattle.std.proofs.lemmas.Bool.{cases_eq}

-- what holds of both values holds of the one that a test chooses
pub either : {A : Type 0} (P : A → Type 0) (test : Bool) (x y : A) → P x → P y → P (if test then x else y)
either P true x y first next = first
either P false x y first next = next

-- what holds of one environment, and of all others, holds of each
pub for_each : (P : ℕ → Type 0) (e : ℕ) → P e → ((i : ℕ) → i ≢ e → P i) → (i : ℕ) → P i
for_each P e own others i = elim (cases_eq i e) [ inl same ↦ subst P (sym same) own | inr ne ↦ others i ne ]

-- Slots in circular order, and what their holders owe.
use Rattle.std.proofs.Common.{arith, ap, subst, ◌∙◌, inl, inr, ◌≡◌, ◌+◌, ◌-◌, ◌<◌, ◌≤◌, ◌%◌, ℕ, zero, suc, Option, None, Some}
use Rattle.std.specs.Option.{option_map}
use Rattle.std.proofs.lemmas.Bool.{cases_eq, eq-eqb, ne_eqb}
use Rattle.std.proofs.Math.Nat.{mod-add-mod}
use Rattle.world_model.specs.declared.hold.Hold.{Hold}
use Rattle.world_model.specs.Book.{excess_after_forfeit, owed, owed_in}

-- a slot from the next one on, counted from this one
pub step_on : (place j count : ℕ) → 1 ≤ j → ((place + 1) % count + (j - 1)) % count ≡ (place + j) % count
step_on place j count least =
    let sum : place + 1 + (j - 1) ≡ place + j = omega arith in
    mod-add-mod (place + 1) count (j - 1) ∙ ap (λ (n : ℕ). n % count) sum

-- who holds a slot
abbrev pub holder_in : Option Hold → Option ℕ
holder_in hold = option_map (λ (h : Hold). h.holder) hold

-- where one's excess is lowered nobody owes more, and the holder of a slot owes less
lowered_most : (e : ℕ) (excess : ℕ → ℕ) (i : ℕ) → excess_after_forfeit e excess i ≤ excess i
lowered_most e excess i =
    elim (cases_eq i e) [
      | inl same ↦ rw (eq-eqb i e same, same) (omega arith)
      | inr other ↦ rw (ne_eqb i e other) (omega arith)
    ]

owed_in_most : (e : ℕ) (excess : ℕ → ℕ) (hold : Option Hold) → owed_in (excess_after_forfeit e excess) hold ≤ owed_in excess hold
owed_in_most e excess None = omega arith
owed_in_most e excess (Some hold) = lowered_most e excess hold.holder

owed_most : (e : ℕ) (excess : ℕ → ℕ) (slots : ℕ → Option Hold) (count : ℕ) → owed (excess_after_forfeit e excess) slots count ≤ owed excess slots count
owed_most e excess slots zero = omega arith
owed_most e excess slots (suc k) = omega (arith, owed_most e excess slots k, owed_in_most e excess (slots k))

holder_owes_less : (e : ℕ) (excess : ℕ → ℕ) (hold : Option Hold) → holder_in hold ≡ Some e → 0 < excess e → owed_in (excess_after_forfeit e excess) hold < owed_in excess hold
holder_owes_less e excess None is owes = cc
holder_owes_less e excess (Some hold) is owes =
    let same : hold.holder ≡ e = cc in
    let as_much : excess hold.holder ≡ excess e = ap excess same in
    rw (eq-eqb hold.holder e same) (omega arith)

pub owed_less : (e : ℕ) (excess : ℕ → ℕ) (slots : ℕ → Option Hold) (count k : ℕ) → k < count → holder_in (slots k) ≡ Some e → 0 < excess e → owed (excess_after_forfeit e excess) slots count < owed excess slots count
owed_less e excess slots zero k below is owes = absurd (omega arith)
owed_less e excess slots (suc n) k below is owes =
    elim (cases_eq k n) [
      | inl same ↦
          let less = holder_owes_less e excess (slots n) (subst (λ (j : ℕ). holder_in (slots j) ≡ Some e) same is) owes in
          omega (arith, owed_most e excess slots n)
      | inr other ↦
          let less = owed_less e excess slots n k (omega (arith, other)) is owes in
          omega (arith, owed_in_most e excess (slots n))
    ]

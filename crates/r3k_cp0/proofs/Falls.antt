-- So many falls of Random.
use Rattle.std.proofs.Common.{arith, ap, sym, refl, ◌∙◌, ◌≡◌, ◌+◌, ◌-◌, ◌%◌, ℕ, zero, suc, inl, inr}
use Rattle.std.proofs.lemmas.Bool.{cases_eq, eq-eqb, ne_eqb}
use Rattle.r3k_cp0.specs.Random.{fallen, fallen_times}

-- the row after so many falls from the last, at once
abbrev at_once : ℕ → ℕ
at_once falls = 63 - falls % 56

one_fall : (falls : ℕ) → at_once (suc falls) ≡ fallen (at_once falls)
one_fall falls =
    elim (cases_eq (at_once falls) 8) [
      | inl first ↦ rw (eq-eqb (at_once falls) 8 first) (omega arith)
      | inr other ↦ rw (ne_eqb (at_once falls) 8 other) (omega arith)
    ]

pub row_of_falls : (falls : ℕ) → 63 - falls % 56 ≡ fallen_times 63 falls
row_of_falls zero = refl
row_of_falls (suc falls) = one_fall falls ∙ ap fallen (row_of_falls falls)

-- falls behind falls
pub falls_on : (row falls times : ℕ) → fallen_times row (falls + times) ≡ fallen_times (fallen_times row falls) times
falls_on row falls zero = let none : falls + zero ≡ falls = omega arith in ap (fallen_times row) none
falls_on row falls (suc times) =
    let one : falls + suc times ≡ suc (falls + times) = omega arith in
    ap (fallen_times row) one ∙ ap fallen (falls_on row falls times)

-- whole rounds lead back
pub whole_rounds : (falls : ℕ) → fallen_times 63 (falls % 56) ≡ fallen_times 63 falls
whole_rounds falls =
    let rest : 63 - falls % 56 % 56 ≡ 63 - falls % 56 = omega arith in
    sym (row_of_falls (falls % 56)) ∙ rest ∙ row_of_falls falls

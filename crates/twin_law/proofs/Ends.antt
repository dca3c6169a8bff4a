-- Where a slice ends, as a comparison finds it.
use Rattle.std.proofs.Common.{◌≡◌, ◌<◌, ◌≤◌, ◌∙◌, ℕ, zero, suc, Bool, true, false, Option, Some, None, ap, arith, refl, sym, inl, inr, eq-eqb}
use Rattle.std.specs.Prelude.{◌==◌, if◌then◌else◌}
use Rattle.std.proofs.lemmas.Bool.Decides.{Decides-eqb}
use Rattle.std.specs.Option.{option_or}
use Rattle.std.proofs.lemmas.Bool.{cases_lt}
use Rattle.run_model.specs.Run.{System}
use Rattle.run_model.specs.Slices.{IsEndOf, slices}
use Rattle.twin_run.specs.Answer.{end_in_time, end_within, if_ended, is_there}

-- slices end one after another
slices_rise : (s : System) (e t u : ℕ) → t ≤ u → slices s e t ≤ slices s e u
slices_rise s e t zero before =
    let first : t ≡ 0 = omega (arith, before) in
    let same : slices s e t ≡ slices s e zero = ap (slices s e) first in
    omega (arith, same)
slices_rise s e t (suc u) before = elim (cases_lt t (suc u)) as (λ w. slices s e t ≤ slices s e (suc u)) [
  | inl less ↦ let so_far = slices_rise s e t u (omega (arith, less)) in omega (arith, so_far)
  | inr past ↦
      let last : t ≡ suc u = omega (arith, past, before) in
      let same : slices s e t ≡ slices s e (suc u) = ap (slices s e) last in
      omega (arith, same)
]

-- what a place answers
here_is : (s : System) (e n t u : ℕ) → if_ended s e n t ≡ Some u → (u ≡ t) × (slices s e t ≡ n)
here_is s e n t u found = by_test (slices s e t == n) refl found
  where
    by_test : (b : Bool) → (slices s e t == n) ≡ b → (if b then Some t else None) ≡ Some u → (u ≡ t) × (slices s e t ≡ n)
    by_test true is same = (cc, (Decides-eqb (slices s e t) n).0 is)
    by_test false is same = absurd (cc)

missed : (s : System) (e n t : ℕ) → if_ended s e n t ≡ None → slices s e t ≡ n → ⊥
missed s e n t none is = let found : Some t ≡ None = ap (λ (b : Bool). if b then Some t else None) (sym (eq-eqb (slices s e t) n is)) ∙ none in cc

either_none : {A : Type 0} (o p : Option A) → option_or o p ≡ None → (o ≡ None) × (p ≡ None)
either_none None p none = (refl, none)
either_none (Some x) p none = absurd (cc)

-- where none is found there is none
missed_all : (s : System) (e n most : ℕ) → end_within s e n most ≡ None → (u : ℕ) → u ≤ most → slices s e u ≡ n → ⊥
missed_all s e n zero none u within is =
    let first : u ≡ 0 = omega (arith, within) in
    missed s e n 0 none (ap (slices s e) (sym first) ∙ is)
missed_all s e n (suc most) none u within is = elim (cases_lt u (suc most)) as (λ w. ⊥) [
  | inl before ↦ missed_all s e n most (either_none (end_within s e n most) (if_ended s e n (suc most)) none).0 u (omega (arith, before)) is
  | inr past ↦
      let last : u ≡ suc most = omega (arith, past, within) in
      missed s e n (suc most) (either_none (end_within s e n most) (if_ended s e n (suc most)) none).1 (ap (slices s e) (sym last) ∙ is)
]

-- what is found is an end
found_end : (s : System) (e n most t : ℕ) → end_within s e n most ≡ Some t → IsEndOf s e n t × (t ≤ most)
found_end s e n zero t found =
    let is = here_is s e n 0 t found in
    (record { reached = ap (slices s e) is.0 ∙ is.1; fewest = λ u less. absurd (omega (arith, less, is.0)) }, omega (arith, is.0))
found_end s e n (suc most) t found = by_first (end_within s e n most) refl (found_end s e n most t)
  where
    by_first : (o : Option ℕ) → end_within s e n most ≡ o → (end_within s e n most ≡ Some t → IsEndOf s e n t × (t ≤ most)) → IsEndOf s e n t × (t ≤ suc most)
    by_first (Some u) is rest =
        let same : Some u ≡ Some t = ap (λ (o : Option ℕ). option_or o (if_ended s e n (suc most))) (sym is) ∙ found in
        let before = rest (is ∙ same) in
        (before.0, omega (arith, before.1))
    by_first None is rest =
        let last : if_ended s e n (suc most) ≡ Some t = ap (λ (o : Option ℕ). option_or o (if_ended s e n (suc most))) (sym is) ∙ found in
        let at = here_is s e n (suc most) t last in
        let reached : slices s e t ≡ n = ap (slices s e) at.0 ∙ at.1 in (
          record {
            reached = reached;
            fewest = λ u less.
                let rises : slices s e u ≤ slices s e t = slices_rise s e u t (omega (arith, less)) in
                elim (cases_lt (slices s e u) n) as (λ w. slices s e u < n) [
                  | inl fewer ↦ fewer
                  | inr enough ↦ absurd (missed_all s e n most is u (omega (arith, less, at.0)) (omega (arith, rises, reached, enough)))
                ];
          },
          omega (arith, at.0),
        )

end_by : (s : System) (e n most t : ℕ) (there : Bool) → (if there then end_within s e n most else None) ≡ Some t → IsEndOf s e n t × (t ≤ most)
end_by s e n most t true is = found_end s e n most t is
end_by s e n most t false is = absurd (cc)

pub is_end : (s : System) (e n most t : ℕ) → end_in_time s e n most ≡ Some t → IsEndOf s e n t × (t ≤ most)
unfolding end_in_time
is_end s e n most t is = end_by s e n most t (is_there s e) is

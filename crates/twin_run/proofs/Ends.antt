-- Where a slice ends.
use Rattle.std.proofs.Common.{◌≡◌, ◌<◌, ◌≤◌, ◌∙◌, ℕ, zero, suc, Bool, true, false, Option, Some, None, ap, arith, refl, subst, sym, inl, inr, eq-eqb}
use Rattle.std.specs.Prelude.{◌==◌, if◌then◌else◌}
use Rattle.std.proofs.lemmas.Bool.Decides.{Decides-eqb}
use Rattle.std.specs.Option.{option_or}
use Rattle.std.proofs.lemmas.Bool.{cases_lt}
use Rattle.run_model.specs.Run.{System}
use Rattle.run_model.specs.Slices.{IsEndOf, slices}
use Rattle.twin_run.specs.Answer.{end_in_time, end_within, if_ended, is_there, slices_in}
use Rattle.twin_run.proofs.Feeds.{slices_rise}

here : (s : System) (e n t : ℕ) → slices s e t ≡ n → if_ended s e n t ≡ Some t
here s e n t is = ap (λ (b : Bool). if b then Some t else None) (eq-eqb (slices s e t) n is)

not_here : (s : System) (e n t : ℕ) → slices s e t < n → if_ended s e n t ≡ None
not_here s e n t fewer = ap (λ (b : Bool). if b then Some t else None) (neq (slices s e t) n fewer)
  where
    neq : (m k : ℕ) → m < k → (m == k) ≡ false
    neq m k less = grind (arith, less)

pub no_end : (s : System) (e n most : ℕ) → ((u : ℕ) → u ≤ most → slices s e u < n) → end_within s e n most ≡ None
no_end s e n zero fewer = not_here s e n 0 (fewer 0 (omega arith))
no_end s e n (suc most) fewer =
    ap (λ (o : Option ℕ). option_or o (if_ended s e n (suc most))) (no_end s e n most (λ u less. fewer u (omega (arith, less))))
    ∙ not_here s e n (suc most) (fewer (suc most) (omega arith))

pub end_found : (s : System) (e n most t : ℕ) → IsEndOf s e n t → t ≤ most → end_within s e n most ≡ Some t
end_found s e n zero t is within =
    let first : t ≡ 0 = omega (arith, within) in
    subst (λ (u : ℕ). if_ended s e n 0 ≡ Some u) (sym first) (here s e n 0 (ap (slices s e) (sym first) ∙ is.reached))
end_found s e n (suc most) t is within = elim (cases_lt t (suc most)) as (λ w. end_within s e n (suc most) ≡ Some t) [
  | inl before ↦ ap (λ (o : Option ℕ). option_or o (if_ended s e n (suc most))) (end_found s e n most t is (omega (arith, before)))
  | inr past ↦
      let last : t ≡ suc most = omega (arith, past, within) in
      ap (λ (o : Option ℕ). option_or o (if_ended s e n (suc most))) (no_end s e n most (λ u less. is.fewest u (omega (arith, less, last))))
      ∙ subst (λ (u : ℕ). if_ended s e n u ≡ Some t) last (here s e n t is.reached)
]

or_none : {A : Type 0} (o p : Option A) → option_or o p ≡ None → (o ≡ None) × (p ≡ None)
or_none None p none = (refl, none)
or_none (Some x) p none = absurd (cc)

here_is : (s : System) (e n t u : ℕ) → if_ended s e n t ≡ Some u → (u ≡ t) × (slices s e t ≡ n)
here_is s e n t u found = by_test (slices s e t == n) refl found
  where
    by_test : (b : Bool) → (slices s e t == n) ≡ b → (if b then Some t else None) ≡ Some u → (u ≡ t) × (slices s e t ≡ n)
    by_test true is same = (cc, (Decides-eqb (slices s e t) n).0 is)
    by_test false is same = absurd (cc)

missed : (s : System) (e n t : ℕ) → if_ended s e n t ≡ None → slices s e t ≡ n → ⊥
missed s e n t none is = let found : if_ended s e n t ≡ Some t = here s e n t is in cc

-- where none is found there is none
missed_all : (s : System) (e n most : ℕ) → end_within s e n most ≡ None → (u : ℕ) → u ≤ most → slices s e u ≡ n → ⊥
missed_all s e n zero none u within is =
    let first : u ≡ 0 = omega (arith, within) in
    missed s e n 0 none (ap (slices s e) (sym first) ∙ is)
missed_all s e n (suc most) none u within is = elim (cases_lt u (suc most)) as (λ w. ⊥) [
  | inl before ↦ missed_all s e n most (or_none (end_within s e n most) (if_ended s e n (suc most)) none).0 u (omega (arith, before)) is
  | inr past ↦
      let last : u ≡ suc most = omega (arith, past, within) in
      missed s e n (suc most) (or_none (end_within s e n most) (if_ended s e n (suc most)) none).1 (ap (slices s e) (sym last) ∙ is)
]

-- what is found is an end
pub found_end : (s : System) (e n most t : ℕ) → end_within s e n most ≡ Some t → IsEndOf s e n t × (t ≤ most)
found_end s e n zero t found =
    let is = here_is s e n 0 t found in
    (record { reached = ap (slices s e) is.0 ∙ is.1; fewest = λ u less. absurd (omega (arith, less, is.0)) }, omega (arith, is.0))
found_end s e n (suc most) t found = by_first (end_within s e n most) refl (found_end s e n most t)
  where
    by_first : (o : Option ℕ) → end_within s e n most ≡ o → (end_within s e n most ≡ Some t → IsEndOf s e n t × (t ≤ most)) → IsEndOf s e n t × (t ≤ suc most)
    by_first (Some u) is rest =
        let same : Some u ≡ Some t = ap (λ (o : Option ℕ). option_or o (if_ended s e n (suc most))) (sym is) ∙ found in
        let before = rest (is ∙ same) in
        (before.0, omega (arith, before.1))
    by_first None is rest =
        let last : if_ended s e n (suc most) ≡ Some t = ap (λ (o : Option ℕ). option_or o (if_ended s e n (suc most))) (sym is) ∙ found in
        let at = here_is s e n (suc most) t last in
        let reached : slices s e t ≡ n = ap (slices s e) at.0 ∙ at.1 in (
          record {
            reached = reached;
            fewest = λ u less.
                let rises : slices s e u ≤ slices s e t = slices_rise s e u t (omega (arith, less)) in
                elim (cases_lt (slices s e u) n) as (λ w. slices s e u < n) [
                  | inl fewer ↦ fewer
                  | inr enough ↦ absurd (missed_all s e n most is u (omega (arith, less, at.0)) (omega (arith, rises, reached, enough)))
                ];
          },
          omega (arith, at.0),
        )

-- of an environment that is there, or isn't
pub end_there : (s : System) (e n most t : ℕ) → is_there s e ≡ true → IsEndOf s e n t → t ≤ most → end_in_time s e n most ≡ Some t
unfolding end_in_time
end_there s e n most t present is within =
    ap (λ (b : Bool). if b then end_within s e n most else None) present ∙ end_found s e n most t is within

pub end_absent : (s : System) (e n most : ℕ) → is_there s e ≡ false → end_in_time s e n most ≡ None
unfolding end_in_time
end_absent s e n most absent = ap (λ (b : Bool). if b then end_within s e n most else None) absent

none_by : (there : Bool) (o : Option ℕ) → o ≡ None → (if there then o else None) ≡ None
none_by true o none = none
none_by false o none = refl

pub end_none : (s : System) (e n most : ℕ) → ((u : ℕ) → u ≤ most → slices s e u < n) → end_in_time s e n most ≡ None
unfolding end_in_time
end_none s e n most fewer = none_by (is_there s e) (end_within s e n most) (no_end s e n most fewer)

end_by : (s : System) (e n most t : ℕ) (there : Bool) → (if there then end_within s e n most else None) ≡ Some t → IsEndOf s e n t × (t ≤ most)
end_by s e n most t true is = found_end s e n most t is
end_by s e n most t false is = absurd (cc)

pub is_end : (s : System) (e n most t : ℕ) → end_in_time s e n most ≡ Some t → IsEndOf s e n t × (t ≤ most)
unfolding end_in_time
is_end s e n most t is = end_by s e n most t (is_there s e) is

pub slices_there : (s : System) (e most : ℕ) → is_there s e ≡ true → slices_in s e most ≡ slices s e most
unfolding slices_in
slices_there s e most present = ap (λ (b : Bool). if b then slices s e most else 0) present

pub slices_absent : (s : System) (e most : ℕ) → is_there s e ≡ false → slices_in s e most ≡ 0
unfolding slices_in
slices_absent s e most absent = ap (λ (b : Bool). if b then slices s e most else 0) absent

-- How many pages are taken from an environment: no more than are outstanding, where the deadline has come.
use Rattle.std.proofs.Common.{arith, ◌≡◌, ◌≢◌, ◌<◌, ◌≤◌, ◌+◌, ℕ, zero, suc, List, [], ◌∷◌, ◌++◌, Bool, true, false, cond, Option, refl, sym, ◌∙◌, ap, subst, length, inl, inr}
use Rattle.std.specs.Prelude.{◌==◌}
use Rattle.std.proofs.lemmas.Bool.{cases_eq, eq-eqb, ne_eqb}
use Rattle.std.proofs.lemmas.List.{length-take}
use Rattle.revocation_book.specs.declared.revocation.Pending.{Pending}
use Rattle.revocation_book.specs.declared.revocation.Taking.{Taking}
use Rattle.revocation_book.specs.Pending.{is_due, outstanding_in}
use Rattle.revocation_book.specs.Takings.{Books, paired, takings_below, takings_of, victims, victims_below}

-- whether a page is taken from the environment
abbrev pub one_if : Bool → ℕ
one_if mine = cond mine 1 0

-- how many pages are
abbrev pub taken_from : ℕ → List Taking → ℕ
taken_from e [] = 0
taken_from e (x ∷ xs) = one_if (e == x.env) + taken_from e xs

-- and how many may be, by what is pending
abbrev pub allowed : ℕ → Option Pending → ℕ
allowed time pending = cond (is_due time pending) (outstanding_in pending) 0

from_both : (e : ℕ) (xs ys : List Taking) → taken_from e (xs ++ ys) ≡ taken_from e xs + taken_from e ys
from_both e [] ys = omega arith
from_both e (x ∷ xs) ys = omega (arith, from_both e xs ys)

-- from its own victims as many as there are, and from another's none
own_paired : (e : ℕ) (pages backups : List ℕ) → taken_from e (paired e pages backups) ≡ length pages
own_paired e [] backups = refl
own_paired e (page ∷ pages) [] =
    let one : one_if (e == e) ≡ 1 = ap one_if (eq-eqb e e refl) in omega (arith, one, own_paired e pages [])
own_paired e (page ∷ pages) (backup ∷ backups) =
    let one : one_if (e == e) ≡ 1 = ap one_if (eq-eqb e e refl) in omega (arith, one, own_paired e pages backups)

other_paired : (e i : ℕ) → (e == i) ≡ false → (pages backups : List ℕ) → taken_from e (paired i pages backups) ≡ 0
other_paired e i other [] backups = refl
other_paired e i other (page ∷ pages) [] =
    let none : one_if (e == i) ≡ 0 = ap one_if other in omega (arith, none, other_paired e i other pages [])
other_paired e i other (page ∷ pages) (backup ∷ backups) =
    let none : one_if (e == i) ≡ 0 = ap one_if other in omega (arith, none, other_paired e i other pages backups)

module _ (b : Books) (time e : ℕ) where
  abbrev pending : Option Pending
  pending = b.pending e

  own_of : taken_from e (takings_of b time e) ≤ allowed time pending
  own_of = by_test (is_due time pending)
    where
      by_test : (due : Bool) → taken_from e (cond due (paired e (victims b e) (b.backups e)) []) ≤ cond due (outstanding_in pending) 0
      by_test true =
          let some = own_paired e (victims b e) (b.backups e) in
          let few : length (victims b e) ≤ outstanding_in pending = rw length-take (omega arith) in
          omega (arith, some, few)
      by_test false = omega arith

  other_of : (i : ℕ) → i ≢ e → taken_from e (takings_of b time i) ≡ 0
  other_of i other = by_test (is_due time (b.pending i))
    where
      by_test : (due : Bool) → taken_from e (cond due (paired i (victims b i) (b.backups i)) []) ≡ 0
      by_test true = other_paired e i (ne_eqb e i (λ same. other (sym same))) (victims b i) (b.backups i)
      by_test false = refl

  -- from those below a number
  record AreFew (n taken : ℕ) : Type 0 where
    most : taken ≤ allowed time pending
    none : n ≤ e → taken ≡ 0

  few_below : (n : ℕ) → AreFew n (taken_from e (takings_below b time n))
  few_below zero = record { most = omega arith; none = λ below. refl }
  few_below (suc n) =
      let both = from_both e (takings_below b time n) (takings_of b time n) in
      let before = few_below n in
      elim (cases_eq n e) [
        | inl same ↦
            let none = before.none (omega (arith, same)) in
            let few : taken_from e (takings_of b time n) ≤ allowed time pending = subst (λ (i : ℕ). taken_from e (takings_of b time i) ≤ allowed time pending) (sym same) own_of in
            record { most = omega (arith, both, none, few); none = λ below. absurd (omega (arith, same, below)) }
        | inr other ↦
            let nothing = other_of n other in
            record { most = omega (arith, both, nothing, before.most); none = λ below. let earlier = before.none (omega (arith, below)) in omega (arith, both, nothing, earlier) }
      ]

  pub few_taken : (n : ℕ) → taken_from e (takings_below b time n) ≤ allowed time pending
  few_taken n = (few_below n).most

  -- where the deadline has come, and there are pages to take, some are taken
  own_counted : is_due time pending ≡ true → taken_from e (takings_of b time e) ≡ length (victims b e)
  own_counted due = ap (λ (t : Bool). taken_from e (cond t (paired e (victims b e) (b.backups e)) [])) due ∙ own_paired e (victims b e) (b.backups e)

  own_below : (n : ℕ) → e < n → taken_from e (takings_of b time e) ≤ taken_from e (takings_below b time n)
  own_below zero below = absurd (omega (arith, below))
  own_below (suc n) below =
      let both = from_both e (takings_below b time n) (takings_of b time n) in
      elim (cases_eq n e) [
        | inl same ↦
            let last : taken_from e (takings_of b time n) ≡ taken_from e (takings_of b time e) = ap (λ (i : ℕ). taken_from e (takings_of b time i)) same in
            omega (arith, both, last)
        | inr other ↦ let earlier = own_below n (omega (arith, below, other)) in omega (arith, both, earlier)
      ]

  pub some_taken : is_due time pending ≡ true → 0 < outstanding_in pending → 0 < length (victims_below b e b.page_count) → (n : ℕ) → e < n → 0 < taken_from e (takings_below b time n)
  some_taken due some victims_some n below =
      let more : 0 < length (victims b e) = rw length-take (omega (arith, some, victims_some)) in
      let counted = own_counted due in
      let least = own_below n below in
      omega (arith, more, counted, least)

-- Marks outside quoted texts: the bytes before the first, and the parts between them.
use Rattle.std.proofs.Common.{◌≡◌, ℕ, suc, ◌+◌, ◌<◌, ◌≤◌, List, [], ◌∷◌, Bool, length, take, drop, refl, arith, inl, inr}
use Rattle.std.proofs.lemmas.Bool.{cases_Bool}
use Rattle.std.specs.Prelude.{◌==◌, ◌&&◌}
use Rattle.asm_parse.specs.declared.quoting.Quoting.{Quoting}
use Rattle.asm_parse.specs.declared.quoting.Quoting.TheVariants.{Outside}
use Rattle.asm_parse.specs.Form.{before_mark, parts_at, behind, is_outside}

abbrev pub is_mark : ℕ → Quoting → ℕ → Bool
is_mark mark q b = is_outside q && b == mark

-- what stands before a mark is the front of the bytes
pub before_mark_front : (mark : ℕ) (q : Quoting) (bs : List ℕ) → take (length (before_mark mark q bs)) bs ≡ before_mark mark q bs
before_mark_front mark q [] = refl
before_mark_front mark q (b ∷ bs) =
    elim (cases_Bool (is_mark mark q b)) [ inl is ↦ rw is refl | inr is ↦ rw (is, before_mark_front mark (behind q b) bs) refl ]

-- where there is a mark, the parts are what stands before it and the parts behind it
pub parts_more : (mark : ℕ) (q : Quoting) (bs : List ℕ) → length (before_mark mark q bs) < length bs →
    parts_at mark q bs ≡ before_mark mark q bs ∷ parts_at mark Outside (drop (length (before_mark mark q bs) + 1) bs)
parts_more mark q [] within = absurd (omega arith)
parts_more mark q (b ∷ bs) within =
    elim (cases_Bool (is_mark mark q b)) [
      | inl is ↦ rw is refl
      | inr is ↦
          let short = rw is at within in
          let inner : length (before_mark mark (behind q b) bs) < length bs = omega (arith, short) in
          let next : suc (length (before_mark mark (behind q b) bs)) + 1 ≡ suc (length (before_mark mark (behind q b) bs) + 1) = omega arith in
          rw (is, next, parts_more mark (behind q b) bs inner) refl
    ]

-- where there is none, they are one part
pub parts_last : (mark : ℕ) (q : Quoting) (bs : List ℕ) → length bs ≤ length (before_mark mark q bs) → parts_at mark q bs ≡ before_mark mark q bs ∷ []
parts_last mark q [] none = refl
parts_last mark q (b ∷ bs) none =
    elim (cases_Bool (is_mark mark q b)) [
      | inl is ↦ let short = rw is at none in absurd (omega (arith, short))
      | inr is ↦
          let short = rw is at none in
          let inner : length bs ≤ length (before_mark mark (behind q b) bs) = omega (arith, short) in
          rw (is, parts_last mark (behind q b) bs inner) refl
    ]

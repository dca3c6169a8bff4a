-- What is said of a line has no blank at either end, and no comment.
use Rattle.std.proofs.Common.{◌≡◌, ℕ, zero, suc, ◌+◌, ◌-◌, List, [], ◌∷◌, true, false, length, take, drop, reverse, refl, ap, arith, inl, inr}
use Rattle.std.proofs.lemmas.List.{get_or-reverse, length-reverse}
use Rattle.std.proofs.lemmas.Bool.{cases_Bool, cases_lt, eqb-true, or_cases}
use Rattle.std.proofs.lemmas.List.Sums.{suffix_len-take_no, prefix_len_stops}
use Rattle.std.specs.Prelude.{◌==◌}
use Rattle.std.specs.List.{prefix_len, suffix_len}
use Rattle.line_text.specs.Characters.{is_blank}
use Rattle.line_text.proofs.WordLemmas.{blanks_gone}
use Rattle.asm_parse.specs.declared.quoting.Quoting.{Quoting}
use Rattle.asm_parse.specs.declared.quoting.Quoting.TheVariants.{Outside}
use Rattle.asm_parse.specs.Form.{before_mark, behind}
use Rattle.asm_parse.proofs.MarkLemmas.{is_mark}

blanks_front : (k : ℕ) (bs : List ℕ) → prefix_len is_blank bs ≡ 0 → prefix_len is_blank (take k bs) ≡ 0
blanks_front zero bs none = refl
blanks_front (suc k) [] none = refl
blanks_front (suc k) (b ∷ bs) none =
    elim (cases_Bool (is_blank b)) [ inl is ↦ let some = rw is at none in absurd (omega (arith, some)) | inr is ↦ rw is refl ]

-- before the blanks at the end no blank stands
pub blanks_back : (bs : List ℕ) → suffix_len is_blank (take (length bs - suffix_len is_blank bs) bs) ≡ 0
blanks_back bs =
    let blanks = suffix_len is_blank bs in
    elim (cases_lt blanks (length bs)) [
      | inl some ↦
          let place : length bs - 1 - blanks ≡ length bs - blanks - 1 = omega arith in
          let last = prefix_len_stops is_blank (reverse bs) 0 (omega (arith, length-reverse bs)) in
          suffix_len-take_no is_blank bs (length bs - blanks) 0 (omega arith) (omega arith) (rw (get_or-reverse bs blanks 0 some, place) at last)
      | inr all ↦ let none : length bs - blanks ≡ 0 = omega arith in rw none refl
    ]

pub front_bare : (k : ℕ) (bs : List ℕ) → prefix_len is_blank (take k (drop (prefix_len is_blank bs) bs)) ≡ 0
front_bare k bs = blanks_front k (drop (prefix_len is_blank bs) bs) (blanks_gone bs)

-- what stands before a mark has none
mark_gone : (mark : ℕ) (q : Quoting) (bs : List ℕ) → before_mark mark q (before_mark mark q bs) ≡ before_mark mark q bs
mark_gone mark q [] = refl
mark_gone mark q (b ∷ bs) =
    elim (cases_Bool (is_mark mark q b)) [ inl is ↦ rw is refl | inr is ↦ rw (is, is, mark_gone mark (behind q b) bs) refl ]

mark_front : (mark : ℕ) (q : Quoting) (k : ℕ) (bs : List ℕ) → before_mark mark q bs ≡ bs → before_mark mark q (take k bs) ≡ take k bs
mark_front mark q zero bs none = refl
mark_front mark q (suc k) [] none = refl
mark_front mark q (suc k) (b ∷ bs) none =
    elim (cases_Bool (is_mark mark q b)) [
      | inl is ↦ let some : 0 ≡ suc (length bs) = ap length (rw is at none) in absurd (omega (arith, some))
      | inr is ↦ rw (is, mark_front mark (behind q b) k bs (ap (drop 1) (rw is at none))) refl
    ]

-- a blank is neither a mark nor a quotation mark
blank_is_plain : (b : ℕ) → is_blank b ≡ true → (is_mark 35 Outside b ≡ false) × (behind Outside b ≡ Outside)
blank_is_plain b is =
    elim (or_cases (b == 32) (b == 9) is) [
      | inl space ↦ rw (eqb-true b 32 space) (refl, refl)
      | inr tab ↦ rw (eqb-true b 9 tab) (refl, refl)
    ]

mark_behind_blanks : (bs : List ℕ) → before_mark 35 Outside bs ≡ bs → before_mark 35 Outside (drop (prefix_len is_blank bs) bs) ≡ drop (prefix_len is_blank bs) bs
mark_behind_blanks [] none = refl
mark_behind_blanks (b ∷ bs) none =
    let next : 1 + prefix_len is_blank bs ≡ suc (prefix_len is_blank bs) = omega arith in
    elim (cases_Bool (is_blank b)) [
      | inl is ↦
          let plain = blank_is_plain b is in
          rw (is, next) (mark_behind_blanks bs (ap (drop 1) (rw (plain.0, plain.1) at none)))
      | inr is ↦ rw is none
    ]

pub comment_gone : (k : ℕ) (text : List ℕ) → let code = before_mark 35 Outside text in let rest = drop (prefix_len is_blank code) code in
    before_mark 35 Outside (take k rest) ≡ take k rest
comment_gone k text =
    mark_front 35 Outside k _ (mark_behind_blanks (before_mark 35 Outside text) (mark_gone 35 Outside text))

-- Marks: what a write of a row and a sweep leave of them, and that rows elsewhere needn't be looked at.
use Rattle.std.proofs.Common.{arith, refl, ap, sym, inl, inr, ◌∙◌, ◌≡◌, ◌≢◌, ◌<◌, ◌≤◌, ◌+◌, ◌/◌, ℕ, zero, suc, Bool, false, true, eqb, List, [], ◌∷◌, length, Option, None, Some, get_or, slice_set, get_or-set_same, get_or-set_other, if◌then◌else◌, ◌&&◌, ◌++◌, take, drop}
use Rattle.std.proofs.lemmas.Grind.{common_steps}
use Rattle.std.proofs.lemmas.Bool.{cases_eq, cases_Bool, eq-eqb, eqb-true, ne_eqb}
use Rattle.bind_book.specs.declared.binding.Binding.{Binding}
use Rattle.bind_book.specs.declared.mark.Mark.{Mark}
use Rattle.bind_book.specs.declared.mark.Mark.TheVariants.{Nowhere, At, Anywhere}
use Rattle.bind_book.specs.Marks.{AreMarked, IsMarked, mark_of, marked_too, may_stand}
use Rattle.bind_book.specs.Stripe.{is_of_page, leads_to_page, most_places, swept_from, swept_rows, without}
use Rattle.bind_book.proofs.Swept.{length-swept, swept_place}
use Rattle.aegis_limits.specs.declared.version.Version.{Version}
use Rattle.aegis_limits.specs.VersionLimits.{stripe_rows}

-- a row leads nowhere else once its binding may be broken
left_of_page : (page : ℕ) (broken : Binding → Bool) (row : Option Binding) → is_of_page page (without broken row) ≡ true → is_of_page page row ≡ true
left_of_page page broken None is = is
left_of_page page broken (Some b) is = by_test (broken b) is
  where
    by_test : (t : Bool) → is_of_page page (if t then None else Some b) ≡ true → is_of_page page (Some b) ≡ true
    by_test true is = let never : false ≡ true = is in cc
    by_test false is = is

-- a sweep leaves rows that stand where the mark says
pub sweep_keeps : (mark : Mark) (page : ℕ) (v : Version) (broken : ℕ → Binding → Bool) (rows : List (Option Binding)) → IsMarked mark page rows → IsMarked mark page (swept_rows v broken rows)
unfolding swept_rows
sweep_keeps mark page v broken rows marked place is =
    let count = stripe_rows v in
    marked place (left_of_page page (broken ((0 + place) / count)) (get_or rows place None) (ap (is_of_page page) (sym (swept_place count 0 broken rows place)) ∙ is))

-- a sweep leaves marks that fit
pub swept_marked : (marks : List Mark) (v : Version) (broken : ℕ → Binding → Bool) (rows : List (Option Binding)) → AreMarked marks rows → AreMarked marks (swept_rows v broken rows)
swept_marked marks v broken rows marked page = sweep_keeps (mark_of marks page) page v broken rows (marked page)

-- a binding that stays where those of a page go is of another page
stays_elsewhere : (page gone e : ℕ) (row : Option Binding) → is_of_page page (without (leads_to_page gone None e) row) ≡ true → page ≢ gone
stays_elsewhere page gone e None is = let never : false ≡ true = is in cc
stays_elsewhere page gone e (Some b) is = by_test (eqb b.page gone) refl is
  where
    by_test : (t : Bool) → eqb b.page gone ≡ t → is_of_page page (if t && true then None else Some b) ≡ true → page ≢ gone
    by_test true same is = let never : false ≡ true = is in cc
    by_test false other is = λ same. let never : false ≡ true = sym other ∙ ap (eqb b.page) (sym same) ∙ is in cc

-- once no row leads to a page, its mark says so
pub unmarked_fits : (marks : List Mark) (v : Version) (page : ℕ) (rows : List (Option Binding)) → AreMarked marks rows → AreMarked (slice_set marks page Nowhere) (swept_rows v (leads_to_page page None) rows)
unfolding swept_rows
unmarked_fits marks v page rows marked p place is =
    let count = stripe_rows v in
    let other : p ≢ page = stays_elsewhere p page ((0 + place) / count) (get_or rows place None) (ap (is_of_page p) (sym (swept_place count 0 (leads_to_page page None) rows place)) ∙ is) in
    rw (get_or-set_other marks page p Nowhere Nowhere other) (sweep_keeps (mark_of marks p) p v (leads_to_page page None) rows (marked p) place is)

-- a row that doesn't lead to the page stays as it is
other_stays : (page e : ℕ) (but : Option ℕ) (row : Option Binding) → is_of_page page row ≡ false → without (leads_to_page page but e) row ≡ row
other_stays page e but None other = refl
other_stays page e but (Some b) other = rw other refl

-- a row at a place that the mark doesn't say doesn't lead to the page
no_row : (mark : Mark) (page : ℕ) (rows : List (Option Binding)) (place : ℕ) → IsMarked mark page rows → may_stand mark place ≡ false → is_of_page page (get_or rows place None) ≡ false
no_row mark page rows place marked elsewhere =
    elim (cases_Bool (is_of_page page (get_or rows place None))) [
      | inl is ↦ let never : false ≡ true = sym elsewhere ∙ marked place is in cc
      | inr other ↦ other
    ]

stays_from : (count place page : ℕ) (but : Option ℕ) (rows : List (Option Binding)) → ((i : ℕ) → is_of_page page (get_or rows i None) ≡ false) → swept_from count place (leads_to_page page but) rows ≡ rows
stays_from count place page but [] others = refl
stays_from count place page but (row ∷ rows) others =
    rw (other_stays page (place / count) but row (others 0))
    (ap (λ (rest : List (Option Binding)). row ∷ rest) (stays_from count (place + 1) page but rows (λ i. others (suc i))))

-- where no row leads to the page, nothing is broken with it
pub nowhere_stays : (v : Version) (page : ℕ) (but : Option ℕ) (rows : List (Option Binding)) → IsMarked Nowhere page rows → swept_rows v (leads_to_page page but) rows ≡ rows
unfolding swept_rows
nowhere_stays v page but rows marked = stays_from (stripe_rows v) 0 page but rows (λ i. no_row Nowhere page rows i marked refl)

broken_from : (count place page : ℕ) (but : Option ℕ) (rows : List (Option Binding)) (at : ℕ) → ((i : ℕ) → i ≢ at → is_of_page page (get_or rows i None) ≡ false)
    → swept_from count place (leads_to_page page but) rows ≡ slice_set rows at (without (leads_to_page page but ((place + at) / count)) (get_or rows at None))
broken_from count place page but [] at others = refl
broken_from count place page but (row ∷ rows) zero others =
    let here : place + zero ≡ place = omega arith in
    let other : (i : ℕ) → suc i ≢ zero = λ i p. absurd (omega (arith, p)) in
    rw here (ap (λ (rest : List (Option Binding)). without (leads_to_page page but (place / count)) row ∷ rest) (stays_from count (place + 1) page but rows (λ i. others (suc i) (other i))))
broken_from count place page but (row ∷ rows) (suc at) others =
    let next : place + suc at ≡ place + 1 + at = omega arith in
    let first : zero ≢ suc at = λ p. absurd (omega (arith, p)) in
    let later : (i : ℕ) → i ≢ at → suc i ≢ suc at = λ i apart p. apart (omega (arith, p)) in
    rw (next, other_stays page (place / count) but row (others 0 first))
    (ap (λ (rest : List (Option Binding)). row ∷ rest) (broken_from count (place + 1) page but rows at (λ i apart. others (suc i) (later i apart))))

-- where one row alone may lead to the page, no other is broken with it
pub one_broken : (v : Version) (at page : ℕ) (but : Option ℕ) (rows : List (Option Binding)) → IsMarked (At at) page rows
    → swept_rows v (leads_to_page page but) rows ≡ slice_set rows at (without (leads_to_page page but (at / stripe_rows v)) (get_or rows at None))
unfolding swept_rows
one_broken v at page but rows marked =
    let from_start : 0 + at ≡ at = omega arith in
    broken_from (stripe_rows v) 0 page but rows at (λ i apart. no_row (At at) page rows i marked (ne_eqb at i (λ p. apart (sym p))))
    ∙ ap (λ (place : ℕ). slice_set rows at (without (leads_to_page page but (place / stripe_rows v)) (get_or rows at None))) from_start

-- a mark says a place once a row there may lead to the page
says_place : (mark : Mark) (place : ℕ) → may_stand (marked_too mark place) place ≡ true
says_place Nowhere place = eq-eqb place place refl
says_place (At at) place = by_test (eqb at place) refl
  where
    by_test : (t : Bool) → eqb at place ≡ t → may_stand (if t then At at else Anywhere) place ≡ true
    by_test true is = is
    by_test false is = refl
says_place Anywhere place = refl

-- the places that it said it says still
says_still : (mark : Mark) (place i : ℕ) → may_stand mark i ≡ true → may_stand (marked_too mark place) i ≡ true
says_still Nowhere place i is = let never : false ≡ true = is in cc
says_still (At at) place i is = by_test (eqb at place)
  where
    by_test : (t : Bool) → may_stand (if t then At at else Anywhere) i ≡ true
    by_test true = is
    by_test false = refl
says_still Anywhere place i is = refl

-- a page that is bound at a place has a mark that says so
pub bound_marked : (marks : List Mark) (rows : List (Option Binding)) (place : ℕ) (b : Binding) (mark : Mark) → place < length rows
    → mark ≡ marked_too (mark_of marks b.page) place → mark_of (slice_set marks b.page mark) b.page ≡ mark → AreMarked marks rows
    → AreMarked (slice_set marks b.page mark) (slice_set rows place (Some b))
bound_marked marks rows place b mark there mark_is has_mark marked page i is =
    elim (cases_eq i place) [
      | inl here ↦
          let stands : get_or (slice_set rows place (Some b)) i None ≡ Some b = rw here (get_or-set_same rows place (Some b) None there) in
          let of_b : eqb b.page page ≡ true = ap (is_of_page page) (sym stands) ∙ is in
          rw (← eqb-true b.page page of_b, has_mark, mark_is, here) (says_place (mark_of marks b.page) place)
      | inr elsewhere ↦ keeps (ap (is_of_page page) (sym (get_or-set_other rows place i (Some b) None elsewhere)) ∙ is)
    ]
  where
    keeps : is_of_page page (get_or rows i None) ≡ true → may_stand (mark_of (slice_set marks b.page mark) page) i ≡ true
    keeps old =
        elim (cases_eq page b.page) [
          | inl same ↦
              let old_mark : may_stand (mark_of marks b.page) i ≡ true = ap (λ (p : ℕ). may_stand (mark_of marks p) i) (sym same) ∙ marked page i old in
              rw (same, has_mark, mark_is) (says_still (mark_of marks b.page) place i old_mark)
          | inr other ↦ rw (get_or-set_other marks b.page page mark Nowhere other) (marked page i old)
        ]

-- as many rows as before, put in their place, are all rows
in_place : (len : ℕ) (items new : List (Option Binding)) → length new ≡ len → take len (new ++ drop (length new) items) ≡ new
in_place len items new is = grind (arith, common_steps)

-- rows that are swept in place are as many, and have the marks that fit a sweep
pub swept_in_place : (marks : List Mark) (v : Version) (broken : ℕ → Binding → Bool) (len : ℕ) (items now new : List (Option Binding))
    → now ≡ items → length now ≡ len → length items ≤ most_places → new ≡ swept_rows v broken now → AreMarked marks (swept_rows v broken items)
    → (length (take len (new ++ drop (length new) items)) ≤ most_places) × AreMarked marks (take len (new ++ drop (length new) items))
swept_in_place marks v broken len items now new is count most swept marked =
    let new_is : new ≡ swept_rows v broken items = swept ∙ ap (swept_rows v broken) is in
    let new_count : length new ≡ length items = ap length new_is ∙ length-swept v broken items in
    let len_is : length new ≡ len = new_count ∙ ap length (sym is) ∙ count in
    rw (in_place len items new len_is) (rw new_count most, rw new_is marked)

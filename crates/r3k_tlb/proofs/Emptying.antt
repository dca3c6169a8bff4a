-- One row more of those that a pass looks at.
use Rattle.std.proofs.Common.{arith, refl, ap, sym, ◌∙◌, ◌≡◌, ◌<◌, ◌+◌, ◌++◌, ℕ, Bool, true, false, List, length, map, take, drop, [], ◌∷◌, ◌&&◌, ◌||◌, eqb, is_some, inl, inr}
use Rattle.std.proofs.lemmas.Bool.{cases_Bool, or_parts}
use Rattle.std.proofs.lemmas.List.{get_or_default, set-get_or}
use Rattle.std.proofs.lemmas.List.Edits.{map_over_more}
use Rattle.std.specs.List.{list_any}
use Rattle.r3k_tlb.specs.declared.row.Row.{Row}
use Rattle.r3k_tlb.specs.Row.{emptied_row, fits, is_global, row_pid, row_vpn}
use Rattle.r3k_tlb.specs.Rows.{emptied_if, emptied_where, first_fitting, has_pair, row_at, row_count, with_row_at}

one_more : (test : Row → Bool) (old now after : List Row) (i : ℕ) (row : Row) → length old ≡ row_count → i < row_count
    → now ≡ map (emptied_if test) (take i old) ++ drop i old → length now ≡ row_count → row ≡ row_at now i → after ≡ with_row_at now i (emptied_if test row)
    → after ≡ map (emptied_if test) (take (i + 1) old) ++ drop (i + 1) old
one_more test old now after i row count within so_far long is then =
    let here : i < length now = omega arith in
    then ∙ map_over_more (emptied_if test) old now i row (omega arith) so_far (is ∙ get_or_default now i emptied_row row here)

pub one_emptied : (test : Row → Bool) (old now after emptied : List Row) (held : Bool) (i : ℕ) (row : Row) → length old ≡ row_count → i < row_count
    → now ≡ map (emptied_if test) (take i old) ++ drop i old → length now ≡ row_count → row ≡ row_at now i → held ≡ test row → held ≡ true → after ≡ emptied → emptied ≡ with_row_at now i emptied_row
    → after ≡ map (emptied_if test) (take (i + 1) old) ++ drop (i + 1) old
one_emptied test old now after emptied held i row count within so_far long is asked holds last then =
    let holds_there : test row ≡ true = sym asked ∙ holds in
    let gone : emptied_if test row ≡ emptied_row = rw holds_there refl in
    one_more test old now after i row count within so_far long is (last ∙ then ∙ ap (with_row_at now i) (sym gone))

pub one_left : (test : Row → Bool) (old now after : List Row) (held : Bool) (i : ℕ) (row : Row) → length old ≡ row_count → i < row_count
    → now ≡ map (emptied_if test) (take i old) ++ drop i old → length now ≡ row_count → row ≡ row_at now i → held ≡ test row → held ≡ false → after ≡ now
    → after ≡ map (emptied_if test) (take (i + 1) old) ++ drop (i + 1) old
one_left test old now after held i row count within so_far long is asked spared same =
    let spared_there : test row ≡ false = sym asked ∙ spared in
    let stays : emptied_if test row ≡ row = rw spared_there refl in
    let itself : with_row_at now i (emptied_if test row) ≡ now = ap (with_row_at now i) (stays ∙ is) ∙ set-get_or now i emptied_row in
    one_more test old now after i row count within so_far long is (same ∙ sym itself)

narrower : (v p g : Bool) → (v && (p || g)) ≡ false → (v && p) ≡ false
narrower true true g e = e
narrower true false g e = refl
narrower false p g e = refl

-- where no row fits a pair, none is of it
pub none_of_pair : (vpn pid : ℕ) (rows : List Row) → is_some (first_fitting vpn pid rows) ≡ false → rows ≡ emptied_where (has_pair vpn pid) rows
none_of_pair vpn pid [] none = refl
none_of_pair vpn pid (x ∷ xs) none =
    elim (cases_Bool (fits vpn pid x)) [
      | inl is ↦ let wrong : true ≡ false = rw is at none in cc
      | inr is ↦
          let other : has_pair vpn pid x ≡ false = narrower (eqb (row_vpn x) vpn) (eqb (row_pid x) pid) (is_global x) is in
          rw other (ap (λ (rest : List Row). x ∷ rest) (none_of_pair vpn pid xs (rw is at none)))
    ]

-- where a test says so of no row, none is emptied
pub none_to_empty : (test : Row → Bool) (rows : List Row) → list_any test rows ≡ false → rows ≡ emptied_where test rows
none_to_empty test [] none = refl
none_to_empty test (x ∷ xs) none =
    let parts = or_parts (test x) (list_any test xs) none in
    rw parts.0 (ap (λ (rest : List Row). x ∷ rest) (none_to_empty test xs parts.1))

-- A half of an expression is an expression.
use Rattle.std.proofs.Common.{◌≡◌, ℕ, suc, ◌+◌, ◌-◌, ◌*◌, ◌≤◌, List, [], ◌∷◌, ◌++◌, Bool, Option, Some, None, length, drop, refl, ap, arith, length-append}
use Rattle.std.proofs.Math.Bool.{and-false}
use Rattle.std.proofs.Math.Dec.{leb-suc-suc}
use Rattle.std.proofs.lemmas.List.{drop-append-le, take-append-le}
use Rattle.std.specs.Prelude.{◌==◌, ◌&&◌, codes}
use Rattle.std.specs.List.{list_all}
use Rattle.std.specs.Option.{option_map, option_and_then}
use Rattle.asm_parse.specs.Expression.{ExpressionValue, InnerValue, half_opened, half_before, halves_opened, without_closings, inner_of, expression_of, taken}
use Rattle.asm_parse.specs.declared.openings.Half.{Half}
use Rattle.asm_parse.specs.declared.openings.Half.TheVariants.{High, Low}

not_opening : (a b : ℕ) → half_opened (a ∷ b ∷ 41 ∷ []) ≡ None
not_opening a b = simp and-false

-- a closing bracket behind bytes makes no opening
opened_closed : (bs : List ℕ) → halves_opened (bs ++ 41 ∷ []) ≡ halves_opened bs
opened_closed [] = refl
opened_closed (a ∷ []) = refl
opened_closed (a ∷ b ∷ []) = rw (not_opening a b) refl
opened_closed (a ∷ b ∷ c ∷ bs) = ap (half_before (half_opened (a ∷ b ∷ c ∷ []))) (opened_closed bs)

opened_more : (first : Option Half) (halves : List Half) (n : ℕ) → 3 * length halves ≤ n → 3 * length (half_before first halves) ≤ n + 3
opened_more None halves n short = omega arith
opened_more (Some half) halves n short = omega (arith, short)

opened_short : (bs : List ℕ) → 3 * length (halves_opened bs) ≤ length bs
opened_short [] = omega arith
opened_short (a ∷ []) = omega arith
opened_short (a ∷ b ∷ []) = omega arith
opened_short (a ∷ b ∷ c ∷ bs) = omega (arith, opened_more (half_opened (a ∷ b ∷ c ∷ [])) (halves_opened bs) (length bs) (opened_short bs))

abbrev is_closing : ℕ → Bool
is_closing b = b == 41

all_and_one : (bs : List ℕ) → list_all is_closing (bs ++ 41 ∷ []) ≡ list_all is_closing bs
all_and_one [] = refl
all_and_one (b ∷ bs) = ap (λ v. is_closing b && v) (all_and_one bs)

-- one more closing bracket
closings_more : (depth : ℕ) (bs : List ℕ) → without_closings (suc depth) (bs ++ 41 ∷ []) ≡ without_closings depth bs
closings_more depth bs =
    let long : length (bs ++ 41 ∷ []) ≡ suc (length bs) = omega (arith, length-append bs (41 ∷ [])) in
    let same : suc (length bs) - suc depth ≡ length bs - depth = omega arith in
    let short : length bs - depth ≤ length bs = omega arith in
    rw (
      long,
      same,
      leb-suc-suc depth (length bs),
      drop-append-le (length bs - depth) bs (41 ∷ []) short,
      all_and_one (drop (length bs - depth) bs),
      take-append-le (length bs - depth) bs (41 ∷ []) short,
    ) refl

abbrev expression_at : List Half → InnerValue → ExpressionValue
expression_at halves inner = record { halves = halves; inner = inner }

-- the same inside, of which one more half is taken
inside_taken : (half : Half) (halves : List Half) (inside : Option (List ℕ)) →
    option_and_then (λ i. option_map (λ inner. expression_at (half ∷ halves) inner) (inner_of i)) inside
    ≡ option_map (taken half) (option_and_then (λ i. option_map (λ inner. expression_at halves inner) (inner_of i)) inside)
inside_taken half halves None = refl
inside_taken half halves (Some i) = by_inner (inner_of i)
  where
    by_inner : (o : Option InnerValue) → option_map (λ inner. expression_at (half ∷ halves) inner) o ≡ option_map (taken half) (option_map (λ inner. expression_at halves inner) o)
    by_inner None = refl
    by_inner (Some inner) = refl

-- three bytes that open a half, and a closing bracket, around bytes
around : (a b c : ℕ) (half : Half) (bs : List ℕ) → half_opened (a ∷ b ∷ c ∷ []) ≡ Some half →
    expression_of (a ∷ b ∷ c ∷ (bs ++ 41 ∷ [])) ≡ option_map (taken half) (expression_of bs)
unfolding expression_of
around a b c half bs is =
    let depth = length (halves_opened bs) in
    let three : 3 * suc depth ≡ suc (suc (suc (3 * depth))) = omega arith in
    rw (is, opened_closed bs, three, drop-append-le (3 * depth) bs (41 ∷ []) (opened_short bs), closings_more depth (drop (3 * depth) bs))
    (inside_taken half (halves_opened bs) (without_closings depth (drop (3 * depth) bs)))

pub high_enclosed : (bs : List ℕ) → expression_of (codes "hi(" ++ bs ++ codes ")") ≡ option_map (taken High) (expression_of bs)
high_enclosed bs = around 104 105 40 High bs refl

pub low_enclosed : (bs : List ℕ) → expression_of (codes "lo(" ++ bs ++ codes ")") ≡ option_map (taken Low) (expression_of bs)
low_enclosed bs = around 108 111 40 Low bs refl

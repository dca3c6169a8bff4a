-- How many different prefixes there are.
use Rattle.std.proofs.Common.{◌≡◌, ℕ, ◌+◌, ◌≤◌, Bool, true, false, not, List, [], ◌∷◌, ◌++◌, length, drop, refl, sym, ap, ◌∙◌, arith, inl, inr}
use Rattle.std.specs.List.{flat_map, list_all, list_any}
use Rattle.std.specs.Prelude.{◌==◌, ◌||◌, filter, map, sum_by, if◌then◌else◌}
use Rattle.std.proofs.lemmas.Grind.{common_steps}
use Rattle.std.proofs.lemmas.Bool.{and_parts, cases_Bool, eq-eqb, or_left, or_right}
use Rattle.std.proofs.lemmas.List.{drop-drop, length-map}
use Rattle.std.proofs.lemmas.List.Folds.{list_all-map, list_any-append}
use Rattle.filter_core.specs.declared.atom.Atom.{Atom}
use Rattle.filter_tree.specs.ClaimBook.{ClaimBook, ClaimValue, RowValue, claim_in}
use Rattle.filter_tree.specs.Claims.{atom_count}
use Rattle.filter_tree.specs.Prefixes.{Shape, distinct, prefixes, prefixes_from, prefixes_of, same_shape, same_shapes, shape_of, shapes_from}
use Rattle.filter_tree.specs.Tree.{begins, begins_with, is_branch, starts_with, leaf_value}

-- equal shapes, and lists of them
shape_same : (s t : Shape) → same_shape s t ≡ true → s ≡ t
shape_same s t is = grind (arith, common_steps)

same_itself : (s : Shape) → same_shape s s ≡ true
same_itself s = rw (eq-eqb s.offset s.offset refl, eq-eqb s.width s.width refl, eq-eqb s.mask s.mask refl) refl

lists_same : (p q : List Shape) → same_shapes p q ≡ true → p ≡ q
lists_same [] [] is = refl
lists_same [] (t ∷ q) is = cc
lists_same (s ∷ p) [] is = cc
lists_same (s ∷ p) (t ∷ q) is = grind (arith, common_steps, shape_same, (lists_same p q))

list_itself : (p : List Shape) → same_shapes p p ≡ true
list_itself [] = refl
list_itself (s ∷ p) = rw (same_itself s) (list_itself p)

other_way : (p q : List Shape) → same_shapes p q ≡ false → same_shapes q p ≡ false
other_way p q not = grind (arith, common_steps, (lists_same q p), list_itself)

abbrev pub is_in : List Shape → List (List Shape) → Bool
is_in p lists = list_any (same_shapes p) lists

-- the lists that differ from one
abbrev others : List Shape → List (List Shape) → List (List Shape)
others p lists = filter (λ q. not (same_shapes p q)) lists

none_else : (p : List Shape) (lists : List (List Shape)) → is_in p lists ≡ false → others p lists ≡ lists
none_else p [] is = refl
none_else p (q ∷ lists) is = grind (arith, common_steps, (none_else p lists))

still_in : (p q : List Shape) (lists : List (List Shape)) → same_shapes p q ≡ false → is_in q (others p lists) ≡ is_in q lists
still_in p q [] not = refl
still_in p q (r ∷ lists) not = grind (arith, common_steps, (lists_same p r), (other_way p q), (still_in p q lists))

one_less : (p : List Shape) (lists : List (List Shape)) → is_in p lists ≡ true → distinct lists ≡ 1 + distinct (others p lists)
one_less p [] is = cc
one_less p (q ∷ lists) is = grind (arith, common_steps, (lists_same p q), (none_else p lists), (still_in p q lists), (one_less p lists))

-- where each list of some is one of others, there are no more different ones
pub distinct_below : (some all : List (List Shape)) → ((p : List Shape) → is_in p some ≡ true → is_in p all ≡ true) → distinct some ≤ distinct all
distinct_below [] all within = omega arith
distinct_below (p ∷ some) all within =
    elim (cases_Bool (is_in p some)) [
      | inl again ↦
          let rest = distinct_below some all (λ q is. within q (or_right (same_shapes q p) (is_in q some) is)) in
          rw again (omega (arith, rest))
      | inr last ↦
          let there : is_in p all ≡ true = within p (or_left (same_shapes p p) (is_in p some) (list_itself p)) in
          let less = one_less p all there in
          let rest = distinct_below some (others p all) (λ q is. kept q is last) in
          rw last (omega (arith, less, rest))
    ]
  where
    kept : (q : List Shape) → is_in q some ≡ true → is_in p some ≡ false → is_in q (others p all) ≡ true
    kept q is last = grind (arith, common_steps, (lists_same p q), (still_in p q all), (within q))

-- lists of which none is among others
distinct_apart : (some more : List (List Shape)) → ((p : List Shape) → is_in p some ≡ true → is_in p more ≡ false) → distinct (some ++ more) ≡ distinct some + distinct more
distinct_apart [] more apart = omega arith
distinct_apart (p ∷ some) more apart =
    let rest = distinct_apart some more (λ q is. apart q (or_right (same_shapes q p) (is_in q some) is)) in
    grind (arith, common_steps, list_itself, (apart p), rest)

-- lists with one shape at the front
front_in : (s : Shape) (p : List Shape) (lists : List (List Shape)) → is_in (s ∷ p) (map (λ prefix. s ∷ prefix) lists) ≡ is_in p lists
front_in s p [] = refl
front_in s p (q ∷ lists) = rw (same_itself s) (ap (λ x. same_shapes p q || x) (front_in s p lists))

distinct_front : (s : Shape) (lists : List (List Shape)) → distinct (map (λ prefix. s ∷ prefix) lists) ≡ distinct lists
distinct_front s [] = refl
distinct_front s (p ∷ lists) = rw (front_in s p lists) (ap (λ x. (if is_in p lists then 0 else 1) + x) (distinct_front s lists))

-- no prefix is empty
not_in_front : (s : Shape) (lists : List (List Shape)) → is_in [] (map (λ prefix. s ∷ prefix) lists) ≡ false
not_in_front s [] = refl
not_in_front s (p ∷ lists) = not_in_front s lists

none_empty : (shapes : List Shape) → is_in [] (prefixes_of shapes) ≡ false
none_empty [] = refl
none_empty (s ∷ shapes) = not_in_front s (prefixes_of shapes)

-- the prefixes of some claims
abbrev pub of_claim : ℕ → ClaimValue → List (List Shape)
of_claim depth c = prefixes_of (shapes_from depth c)

abbrev pub of_claims : ℕ → List ClaimValue → List (List Shape)
of_claims depth claims = flat_map (of_claim depth) claims

none_empty_of : (depth : ℕ) (claims : List ClaimValue) → is_in [] (of_claims depth claims) ≡ false
none_empty_of depth [] = refl
none_empty_of depth (c ∷ claims) = list_any-append (same_shapes []) (of_claim depth c) (of_claims depth claims) ∙ rw (none_empty (shapes_from depth c)) (none_empty_of depth claims)

-- the prefixes of a claim that begins with a shape
prefixes_begin : (a : Atom) (f : List Atom) → begins_with a f ≡ true
    → prefixes_of (map shape_of f) ≡ (shape_of a ∷ []) ∷ map (λ prefix. shape_of a ∷ prefix) (prefixes_of (map shape_of (drop 1 f)))
prefixes_begin a [] is = cc
prefixes_begin a (b ∷ f) is =
    let e : shape_of a ≡ shape_of b = shape_same (shape_of a) (shape_of b) is in
    ap (λ (s : Shape). (s ∷ []) ∷ map (λ prefix. s ∷ prefix) (prefixes_of (map shape_of f))) (sym e)

claim_begins : (depth : ℕ) (a : Atom) (c : ClaimValue) → begins depth a c ≡ true
    → of_claim depth c ≡ (shape_of a ∷ []) ∷ map (λ prefix. shape_of a ∷ prefix) (of_claim (depth + 1) c)
claim_begins depth a c is = rw (← drop-drop 1 depth c.filter) (prefixes_begin a (drop depth c.filter) is)

-- what stands behind a shape stands behind it among all
behind_shape : (depth v : ℕ) (a : Atom) (claims : List ClaimValue) (p : List Shape) → list_all (begins depth a) claims ≡ true
    → is_in p (map (λ prefix. shape_of a ∷ prefix) (of_claims (depth + 1) (filter (λ c. v == leaf_value depth c) claims))) ≡ true → is_in p (of_claims depth claims) ≡ true
behind_shape depth v a [] p all is = cc
behind_shape depth v a (c ∷ claims) p all is = grind (arith, common_steps, (claim_begins depth a c), (behind_shape depth v a claims p))

shape_alone : (depth : ℕ) (a : Atom) (claims : List ClaimValue) → starts_with depth a claims ≡ true → is_in (shape_of a ∷ []) (of_claims depth claims) ≡ true
shape_alone depth a [] first = cc
shape_alone depth a (c ∷ claims) first = grind (arith, common_steps, claim_begins, list_itself)

-- a branch has one prefix more than those of its claims that are reached
pub one_prefix_more : (depth v : ℕ) (a : Atom) (claims : List ClaimValue) → is_branch depth a claims ≡ true
    → prefixes_from (depth + 1) (filter (λ c. v == leaf_value depth c) claims) + 1 ≤ prefixes_from depth claims
one_prefix_more depth v a claims branch =
    let parts = and_parts (starts_with depth a claims) (list_all (begins depth a) claims) branch in
    let reached : List ClaimValue = filter (λ c. v == leaf_value depth c) claims in
    let longer : List (List Shape) = map (λ prefix. shape_of a ∷ prefix) (of_claims (depth + 1) reached) in
    let alone : is_in (shape_of a ∷ []) longer ≡ false = front_in (shape_of a) [] (of_claims (depth + 1) reached) ∙ none_empty_of (depth + 1) reached in
    let same = distinct_front (shape_of a) (of_claims (depth + 1) reached) in
    let count : distinct ((shape_of a ∷ []) ∷ longer) ≡ 1 + distinct longer = ap (λ (b : Bool). (if b then 0 else 1) + distinct longer) alone in
    let below = distinct_below ((shape_of a ∷ []) ∷ longer) (of_claims depth claims) (λ p is. within p parts.0 parts.1 is) in
    omega (arith, same, count, below)
  where
    within : (p : List Shape) → starts_with depth a claims ≡ true → list_all (begins depth a) claims ≡ true
        → is_in p ((shape_of a ∷ []) ∷ map (λ prefix. shape_of a ∷ prefix) (of_claims (depth + 1) (filter (λ c. v == leaf_value depth c) claims))) ≡ true → is_in p (of_claims depth claims) ≡ true
    within p first all is = grind (arith, common_steps, (lists_same p (shape_of a ∷ [])), (shape_alone depth a claims first), (behind_shape depth v a claims p))

pub some_prefix : (depth : ℕ) (a : Atom) (claims : List ClaimValue) → is_branch depth a claims ≡ true → 1 ≤ prefixes_from depth claims
some_prefix depth a claims branch = let more = one_prefix_more depth 0 a claims branch in omega (arith, more)

-- the prefixes of claims that begin with a shape do, and the others don't
abbrev head_is : Atom → List Shape → Bool
head_is a [] = false
head_is a (s ∷ p) = same_shape (shape_of a) s

constant : {X : Type 0} (b : Bool) (xs : List X) → b ≡ true → list_all (λ x. b) xs ≡ true
constant b [] is = refl
constant b (x ∷ xs) is = rw is (constant b xs is)

heads : (a : Atom) (f : List Atom) → begins_with a f ≡ true → list_all (head_is a) (prefixes_of (map shape_of f)) ≡ true
heads a [] is = cc
heads a (b ∷ f) is =
    rw is (list_all-map (head_is a) (λ prefix. shape_of b ∷ prefix) (prefixes_of (map shape_of f)) ∙ constant (same_shape (shape_of a) (shape_of b)) (prefixes_of (map shape_of f)) is)

no_heads : (a : Atom) (f : List Atom) → begins_with a f ≡ false → list_all (λ p. not (head_is a p)) (prefixes_of (map shape_of f)) ≡ true
no_heads a [] is = refl
no_heads a (b ∷ f) is =
    rw is (list_all-map (λ p. not (head_is a p)) (λ prefix. shape_of b ∷ prefix) (prefixes_of (map shape_of f)) ∙ constant (not (same_shape (shape_of a) (shape_of b))) (prefixes_of (map shape_of f)) (ap not is))

heads_of : (depth : ℕ) (a : Atom) (claims : List ClaimValue) → list_all (head_is a) (of_claims depth (filter (begins depth a) claims)) ≡ true
heads_of depth a [] = refl
heads_of depth a (c ∷ claims) = grind (arith, common_steps, heads, (heads_of depth a claims))

no_heads_of : (depth : ℕ) (a : Atom) (claims : List ClaimValue) → list_all (λ p. not (head_is a p)) (of_claims depth (filter (λ c. not (begins depth a c)) claims)) ≡ true
no_heads_of depth a [] = refl
no_heads_of depth a (c ∷ claims) = grind (arith, common_steps, no_heads, (no_heads_of depth a claims))

in_all : (h : List Shape → Bool) (p : List Shape) (lists : List (List Shape)) → list_all h lists ≡ true → is_in p lists ≡ true → h p ≡ true
in_all h p [] all is = cc
in_all h p (q ∷ lists) all is = grind (arith, common_steps, (lists_same p q), (in_all h p lists))

kept_in : (depth : ℕ) (k : ClaimValue → Bool) (claims : List ClaimValue) (p : List Shape) → is_in p (of_claims depth (filter k claims)) ≡ true → is_in p (of_claims depth claims) ≡ true
kept_in depth k [] p is = is
kept_in depth k (c ∷ claims) p is = grind (arith, common_steps, (kept_in depth k claims p))

-- the prefixes of a branch and of all others
pub prefixes_apart : (depth : ℕ) (a : Atom) (claims : List ClaimValue)
    → prefixes_from depth (filter (begins depth a) claims) + prefixes_from depth (filter (λ c. not (begins depth a c)) claims) ≤ prefixes_from depth claims
prefixes_apart depth a claims =
    let some : List (List Shape) = of_claims depth (filter (begins depth a) claims) in
    let more : List (List Shape) = of_claims depth (filter (λ c. not (begins depth a c)) claims) in
    let joined = distinct_apart some more away in
    let below = distinct_below (some ++ more) (of_claims depth claims) within in
    omega (arith, joined, below)
  where
    away : (p : List Shape) → is_in p (of_claims depth (filter (begins depth a) claims)) ≡ true → is_in p (of_claims depth (filter (λ c. not (begins depth a c)) claims)) ≡ false
    away p is =
        let own = in_all (head_is a) p (of_claims depth (filter (begins depth a) claims)) (heads_of depth a claims) is in
        grind (arith, common_steps, own, (in_all (λ q. not (head_is a q)) p (of_claims depth (filter (λ c. not (begins depth a c)) claims)) (no_heads_of depth a claims)))

    within : (p : List Shape) → is_in p (of_claims depth (filter (begins depth a) claims) ++ of_claims depth (filter (λ c. not (begins depth a c)) claims)) ≡ true → is_in p (of_claims depth claims) ≡ true
    within p is = grind (arith, common_steps, (kept_in depth (begins depth a) claims p), (kept_in depth (λ c. not (begins depth a c)) claims p))

pub in_joined : (p : List Shape) (some more : List (List Shape)) → is_in p (some ++ more) ≡ (is_in p some || is_in p more)
in_joined p some more = list_any-append (same_shapes p) some more

-- there are no more prefixes than atoms
pub distinct_few : (lists : List (List Shape)) → distinct lists ≤ length lists
distinct_few [] = omega arith
distinct_few (p ∷ lists) = grind (arith, common_steps, (distinct_few lists))

pub length_prefixes : (shapes : List Shape) → length (prefixes_of shapes) ≡ length shapes
length_prefixes [] = refl
length_prefixes (s ∷ shapes) = omega (arith, length-map (prefixes_of shapes) (λ prefix. s ∷ prefix), length_prefixes shapes)

length_of : (rows : List RowValue) → length (of_claims 0 (map claim_in rows)) ≡ sum_by (λ (r : RowValue). length r.claim.filter) rows
length_of [] = refl
length_of (r ∷ rows) = grind (arith, common_steps, length_prefixes, (length_of rows))

pub few_prefixes : (book : ClaimBook) → prefixes book ≤ atom_count book
few_prefixes book = omega (arith, distinct_few (of_claims 0 (map claim_in book.rows)), length_of book.rows)

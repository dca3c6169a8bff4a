-- Claims that are parted by the values for which they ask, and single claims.
use Rattle.std.proofs.Common.{◌≡◌, ℕ, zero, suc, ◌+◌, ◌*◌, ◌<◌, ◌≤◌, Bool, true, List, [], ◌∷◌, ◌++◌, length, drop, refl, sym, ap, ◌∙◌, arith}
use Rattle.std.specs.List.{AllByRecursion, flat_map, list_all}
use Rattle.std.specs.List.Sorted.{IsNonDecreasingBy}
use Rattle.std.specs.Prelude.{◌==◌, ◌&&◌, filter, map, nat_le, slice_index_or}
use Rattle.std.proofs.lemmas.Grind.{common_steps}
use Rattle.std.proofs.lemmas.Bool.{and_from, and_parts, eq-eqb}
use Rattle.std.proofs.lemmas.List.Elements.{All-filter, All-from_recursion, recursion_from_All}
use Rattle.std.proofs.lemmas.List.Sums.{AllPass-from_list_all, list_all-from_AllPass}
use Rattle.filter_core.specs.declared.atom.Atom.{Atom}
use Rattle.filter_core.specs.Asking.{agree}
use Rattle.filter_core.specs.Filters.{are_atoms, is_atom, is_filter, is_width, most_atoms}
use Rattle.filter_tree.specs.ClaimBook.{ClaimValue}
use Rattle.filter_tree.specs.Laying.{first_asked, nodes_for}
use Rattle.filter_tree.specs.Prefixes.{distinct, prefixes_from, prefixes_of, shape_of, shapes_from}
use Rattle.filter_tree.specs.Tree.{begins, first_value, is_branch, planted, starts_with, leaf_value}
use Rattle.filter_tree.proofs.Planting.{all_planted}

-- one that passes
pub some_passing : {X : Type 0} (p : X → Bool) (xs : List X) (k : ℕ) (d : X) → k < length xs → p (slice_index_or xs k d) ≡ true → 0 < length (filter p xs)
some_passing p [] k d within is = absurd (omega (arith, within))
some_passing p (x ∷ xs) zero d within is = rw is (omega arith)
some_passing p (x ∷ xs) (suc k) d within is = grind (arith, common_steps, (some_passing p xs k d))

-- the first of some claims asks for its value
pub first_is : (depth : ℕ) (claims : List ClaimValue) (d : ClaimValue) → 0 < length claims → first_asked depth claims ≡ leaf_value depth (slice_index_or claims 0 d)
first_is depth [] d some = absurd (omega (arith, some))
first_is depth (c ∷ claims) d some = refl

-- whatever stands for a claim that isn't there
pub same_value : (depth k : ℕ) (claims : List ClaimValue) (d e : ClaimValue) → k < length claims → leaf_value depth (slice_index_or claims k d) ≡ leaf_value depth (slice_index_or claims k e)
same_value depth k [] d e within = absurd (omega (arith, within))
same_value depth zero (c ∷ claims) d e within = refl
same_value depth (suc k) (c ∷ claims) d e within = same_value depth k claims d e (omega (arith, within))

-- where the first and the last ask for one value, all do
pub all_one : (depth last : ℕ) (claims : List ClaimValue) (d : ClaimValue) → IsNonDecreasingBy (leaf_value depth) claims → length claims ≡ last + 1
    → leaf_value depth (slice_index_or claims last d) ≤ first_asked depth claims → list_all (λ c. first_asked depth claims == leaf_value depth c) claims ≡ true
all_one depth last claims e rise count same =
    list_all-from_AllPass (λ c. first_asked depth claims == leaf_value depth c) claims
    (λ k d within.
    eq-eqb (first_asked depth claims) (leaf_value depth (slice_index_or claims k d))
    (omega (
      arith,
      first_is depth claims d (omega (arith, count)),
      rise 0 k d (omega arith) within,
      rise k last d (omega (arith, within, count)) (omega (arith, count)),
      same_value depth last claims d e (omega (arith, count)),
      same,
    )))

-- some claims of a branch are one
pub branch_part : (depth : ℕ) (a : Atom) (p : ClaimValue → Bool) (claims : List ClaimValue) → is_branch depth a claims ≡ true → 0 < length (filter p claims) → is_branch depth a (filter p claims) ≡ true
branch_part depth a p claims branch some =
    let all = (and_parts (starts_with depth a claims) (list_all (begins depth a) claims) branch).1 in
    begun (filter p claims) some (list_all-from_AllPass (begins depth a) (filter p claims) (All-filter p (λ c. begins depth a c ≡ true) claims (AllPass-from_list_all (begins depth a) claims all)))
  where
    begun : (those : List ClaimValue) → 0 < length those → list_all (begins depth a) those ≡ true → is_branch depth a those ≡ true
    begun [] some all = absurd (omega (arith, some))
    begun (c ∷ those) some all =
        let first = (and_parts (begins depth a c) (list_all (begins depth a) those) all).0 in
        and_from (begins depth a c) (list_all (begins depth a) (c ∷ those)) first all

-- a single claim with an atom at a depth
pub alone_branch : (depth : ℕ) (c : ClaimValue) (a : Atom) (more : List Atom) → drop depth c.filter ≡ a ∷ more
    → (is_branch depth a (c ∷ []) ≡ true) × (list_all (λ d. a.value == leaf_value depth d) (c ∷ []) ≡ true)
alone_branch depth c a more is = (rw is (grind (arith, common_steps)), rw is (grind (arith, common_steps)))

-- the atoms of a filter are good, and few
pub good_atom : (f : List Atom) (k : ℕ) (d : Atom) → is_filter f ≡ true → k < length f → is_atom (slice_index_or f k d) ≡ true
good_atom f k d good within =
    let atoms = (and_parts (are_atoms f) (agree f f) good).0 in
    let all = (and_parts (nat_le 1 (length f) && nat_le (length f) most_atoms) (list_all is_atom f) atoms).1 in
    AllPass-from_list_all is_atom f all k d within

pub good_width : (a : Atom) → is_atom a ≡ true → is_width a.width ≡ true
good_width a good = grind (arith, common_steps)

-- how many nodes some claims take at least
pub nodes_least : (depth : ℕ) (claims : List ClaimValue) → length claims ≤ nodes_for depth claims
nodes_least depth [] = omega arith
nodes_least depth (c ∷ claims) = omega (arith, nodes_least depth claims)

-- a branch asks first for what all claims do
pub branch_asks : (depth : ℕ) (a : Atom) (claims : List ClaimValue) → starts_with depth a claims ≡ true → first_asked depth (filter (begins depth a) claims) ≡ first_asked depth claims
branch_asks depth a [] first = refl
branch_asks depth a (c ∷ claims) first = ap (first_asked depth) (let kept : filter (begins depth a) (c ∷ claims) ≡ c ∷ filter (begins depth a) claims = rw first refl in kept)

pub asks_for : (depth : ℕ) (a : Atom) (more : List Atom) (claims : List ClaimValue) (c : ClaimValue) → 0 < length claims → c ≡ slice_index_or claims 0 c → drop depth c.filter ≡ a ∷ more
    → a.value ≡ first_asked depth claims
asks_for depth a more claims c some is atom = sym (ap first_value atom) ∙ ap (leaf_value depth) is ∙ sym (first_is depth claims c some)

-- the first of some claims, and the others
pub first_cut : (claims : List ClaimValue) (c : ClaimValue) → 0 < length claims → c ≡ slice_index_or claims 0 c → claims ≡ c ∷ drop 1 claims
first_cut [] c some is = absurd (omega (arith, some))
first_cut (d ∷ claims) c some is = ap (λ x. x ∷ claims) (sym is)

pub same_first : (claims : List ClaimValue) (c d : ClaimValue) → 0 < length claims → c ≡ slice_index_or claims 0 c → d ≡ slice_index_or claims 0 d → c ≡ d
same_first [] c d some left right = absurd (omega (arith, some))
same_first (x ∷ claims) c d some left right = left ∙ sym right

-- a claim that has no atom at a depth or behind it has no prefix there
pub no_prefix : (depth : ℕ) (c : ClaimValue) (claims : List ClaimValue) → drop depth c.filter ≡ [] → prefixes_from depth (c ∷ claims) ≡ prefixes_from depth claims
no_prefix depth c claims none = ap (λ f. distinct (prefixes_of (map shape_of f) ++ flat_map (λ d. prefixes_of (shapes_from depth d)) claims)) none

-- claims whose filters are short take no more nodes than there is room for
abbrev pub is_short : ClaimValue → Type 0
is_short c = length c.filter ≤ most_atoms

pub short_room : (claims : List ClaimValue) → AllByRecursion is_short claims → nodes_for 0 claims ≤ 33 * length claims
short_room [] short = omega arith
short_room (c ∷ claims) short = let rest = short_room claims short.1 in omega (arith, short.0, rest)

pub planted_short : (c : ClaimValue) (claims : List ClaimValue) → is_short c → AllByRecursion is_short claims → AllByRecursion is_short (planted c claims)
planted_short c claims own short = recursion_from_All is_short (planted c claims) (all_planted is_short c claims (All-from_recursion is_short claims short) own)

pub length_planted : (c : ClaimValue) (claims : List ClaimValue) → length (planted c claims) ≡ length claims + 1
length_planted c [] = refl
length_planted c (d ∷ claims) = grind (arith, common_steps, (length_planted c claims))

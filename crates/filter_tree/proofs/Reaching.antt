-- The claims to which a packet comes.
use Rattle.std.proofs.Common.{◌≡◌, ℕ, ◌+◌, ◌<◌, Bool, true, false, List, [], ◌∷◌, Some, None, length, drop, refl, sym, ap, ◌∙◌, arith}
use Rattle.std.specs.List.{list_all}
use Rattle.std.specs.Prelude.{◌==◌, ◌&&◌, nat_le, filter, slice_index_or, bit_and, if◌then◌else◌}
use Rattle.std.proofs.lemmas.Grind.{common_steps}
use Rattle.std.proofs.lemmas.Bool.{and_from, eqb-true}
use Rattle.std.proofs.lemmas.List.Elements.{All-filter, filter_passes}
use Rattle.std.proofs.lemmas.List.Kept.{AllPairs-filter}
use Rattle.std.proofs.lemmas.List.Sums.{AllPass-from_list_all, list_all-from_AllPass}
use Rattle.std.proofs.lemmas.List.{drop-drop}
use Rattle.filter_core.specs.declared.atom.Atom.{Atom}
use Rattle.filter_core.specs.Matching.{field, matches}
use Rattle.filter_tree.specs.ClaimBook.{ClaimValue}
use Rattle.filter_tree.specs.Tree.{AreInOrder, begins, begins_with, comes_before, first_value, is_branch, lowest, matches_from, starts_with, leaf_value}
use Rattle.filter_tree.proofs.Lowest.{lowest_filter, lowest_none, lowest_same}
use Rattle.filter_tree.proofs.Order.{has_own_shape, tails_before}

-- a field that was read, or not
pub read_some : (b : Bool) (x y : ℕ) → Some y ≡ (if b then Some x else None) → (b ≡ true) × (y ≡ x)
read_some true x y is = (refl, cc)
read_some false x y is = cc

pub read_none : (b : Bool) (x : ℕ) → None ≡ (if b then Some x else None) → b ≡ false
read_none true x is = cc
read_none false x is = refl

abbrev asks : ℕ → ℕ → ClaimValue → Bool
asks depth v c = v == leaf_value depth c

-- two claims with one atom at a depth are in the order of what follows it
both_after : (depth v : ℕ) (a : Atom) (c d : ClaimValue) → begins depth a c ≡ true → begins depth a d ≡ true → asks depth v c ≡ true → asks depth v d ≡ true
    → comes_before depth c d ≡ true → comes_before (depth + 1) c d ≡ true
both_after depth v a c d left right own other is =
    let same : first_value (drop depth c.filter) ≡ first_value (drop depth d.filter) = sym (eqb-true v (leaf_value depth c) own) ∙ eqb-true v (leaf_value depth d) other in
    rw (← drop-drop 1 depth c.filter, ← drop-drop 1 depth d.filter) (tails_before a (drop depth c.filter) (drop depth d.filter) left right same is)

pub reached_order : (depth v : ℕ) (a : Atom) (claims : List ClaimValue) → AreInOrder depth claims → list_all (begins depth a) claims ≡ true
    → AreInOrder (depth + 1) (filter (λ c. v == leaf_value depth c) claims)
reached_order depth v a claims order all = λ i j d before within.
    let some : List ClaimValue = filter (asks depth v) claims in
    let begin = All-filter (asks depth v) (λ c. begins depth a c ≡ true) claims (AllPass-from_list_all (begins depth a) claims all) in
    let ask = filter_passes (asks depth v) claims in
    both_after depth v a (slice_index_or some i d) (slice_index_or some j d)
    (begin i d (omega (arith, before, within))) (begin j d within)
    (ask i d (omega (arith, before, within))) (ask j d within)
    (AllPairs-filter (λ x y. comes_before depth x y ≡ true) (asks depth v) claims order i j d before within)

-- an atom matches a packet if the packet's field has its value
one_atom : (a : Atom) (packet : List ℕ) (f : List Atom) → nat_le (a.offset + a.width) (length packet) ≡ true → begins_with a f ≡ true
    → (bit_and (field a.offset a.width packet) a.mask == first_value f && matches (drop 1 f) packet) ≡ matches f packet
one_atom a packet [] fits is = cc
one_atom a packet (x ∷ f) fits is = grind (arith, common_steps)

no_atom : (a : Atom) (packet : List ℕ) (f : List Atom) → nat_le (a.offset + a.width) (length packet) ≡ false → begins_with a f ≡ true → matches f packet ≡ false
no_atom a packet [] fits is = cc
no_atom a packet (x ∷ f) fits is = grind (arith, common_steps)

pub reached_lowest : (depth v : ℕ) (a : Atom) (packet : List ℕ) (claims : List ClaimValue) → nat_le (a.offset + a.width) (length packet) ≡ true
    → v ≡ bit_and (field a.offset a.width packet) a.mask → list_all (begins depth a) claims ≡ true
    → lowest (matches_from (depth + 1) packet) (filter (λ c. v == leaf_value depth c) claims) ≡ lowest (matches_from depth packet) claims
reached_lowest depth v a packet claims fits is all =
    lowest_filter (matches_from (depth + 1) packet) (asks depth v) claims
    ∙ lowest_same (begins depth a) (λ c. asks depth v c && matches_from (depth + 1) packet c) (matches_from depth packet)
    (λ c begin. rw (← drop-drop 1 depth c.filter, is) (one_atom a packet (drop depth c.filter) fits begin)) claims all

pub reached_none : (depth : ℕ) (a : Atom) (packet : List ℕ) (claims : List ClaimValue) → nat_le (a.offset + a.width) (length packet) ≡ false
    → list_all (begins depth a) claims ≡ true → None ≡ lowest (matches_from depth packet) claims
reached_none depth a packet claims fits all = lowest_none (begins depth a) (matches_from depth packet) (λ c begin. no_atom a packet (drop depth c.filter) fits begin) claims all

-- the first of some claims begins with its own atom
pub starts : (depth : ℕ) (a : Atom) (more : List Atom) (claims : List ClaimValue) (c : ClaimValue) → 0 < length claims → c ≡ slice_index_or claims 0 c → drop depth c.filter ≡ a ∷ more
    → starts_with depth a claims ≡ true
starts depth a more [] c some is atom = absurd (omega (arith, some))
starts depth a more (d ∷ claims) c some is atom = grind (arith, common_steps, has_own_shape)

-- those of some claims that begin as the first does
pub branch_is : (depth : ℕ) (a : Atom) (claims : List ClaimValue) → starts_with depth a claims ≡ true → is_branch depth a (filter (begins depth a) claims) ≡ true
branch_is depth a [] first = cc
branch_is depth a (c ∷ claims) first =
    let kept : filter (begins depth a) (c ∷ claims) ≡ c ∷ filter (begins depth a) claims = rw first refl in
    ap (is_branch depth a) kept ∙ and_from (begins depth a c) (begins depth a c && list_all (begins depth a) (filter (begins depth a) claims)) first
    (and_from (begins depth a c) (list_all (begins depth a) (filter (begins depth a) claims)) first (list_all-from_AllPass (begins depth a) (filter (begins depth a) claims) (filter_passes (begins depth a) claims)))

-- What is laid for claims, a node at a time.
use Rattle.std.proofs.Common.{◌≡◌, ℕ, ◌+◌, ◌*◌, ◌<◌, ◌≤◌, Bool, true, false, not, List, [], ◌∷◌, ◌++◌, Option, Some, None, length, length-append, length-drop, drop, refl, sym, ap, ◌∙◌, subst, arith, inl, inr}
use Rattle.std.specs.List.{list_all}
use Rattle.std.specs.Prelude.{◌==◌, bit_and, filter, if◌then◌else◌, nat_le, nat_lt}
use Rattle.std.proofs.lemmas.Grind.{common_steps}
use Rattle.std.proofs.lemmas.Bool.{and_parts, cases_Bool, eqb-true, le-leb}
use Rattle.filter_core.specs.declared.atom.Atom.{Atom}
use Rattle.filter_core.specs.Filters.{is_atom, is_width}
use Rattle.filter_core.specs.Matching.{atom_matches, field, matches}
use Rattle.filter_tree.specs.declared.node.Node.{Node}
use Rattle.filter_tree.specs.declared.node.Node.TheVariants.{End, Test, Read, Below, Equal, Claim}
use Rattle.filter_tree.specs.declared.node.Onward.{Onward}
use Rattle.filter_tree.specs.ClaimBook.{ClaimValue}
use Rattle.filter_tree.specs.Laying.{Extends, IsBegun, IsLaid, IsParted, nodes_for, test_node}
use Rattle.filter_tree.specs.Nodes.{AreFrom, AreNodes, IsNode, IsOnward, Way, after_claim, way, way_from}
use Rattle.filter_tree.specs.Prefixes.{prefixes_from}
use Rattle.filter_tree.specs.Tree.{begins, begins_with, is_branch, lower_number, lowest, matches_from, starts_with, leaf_value}
use Rattle.filter_tree.proofs.Counting.{one_prefix_more, some_prefix}
use Rattle.filter_tree.proofs.Lowest.{lower_join}
use Rattle.filter_tree.proofs.Reaching.{reached_lowest, reached_none}
use Rattle.filter_tree.proofs.Ways.{extends_push, extends_trans, from_extends, nodes_push, way_top}

-- a node that was laid last
record IsTop (mid new : List Node) (node : Node) (place : ℕ) : Type 0 where
  nodes : AreNodes new
  extends : Extends mid new
  within : place < length new
  ways : (packet : List ℕ) (v : ℕ) → way packet new place v ≡ way_from packet (way packet mid) node v
  one : length new ≡ length mid + 1

top : (mid new : List Node) (node : Node) (place : ℕ) → AreNodes mid → IsNode mid (length mid) node → place ≡ length mid → new ≡ mid ++ node ∷ [] → IsTop mid new node place
top mid new node place good is at pushed =
    let made : IsTop mid (mid ++ node ∷ []) node (length mid) = record {
      nodes = nodes_push mid node good is;
      extends = extends_push mid node good;
      within = omega (arith, length-append mid (node ∷ []));
      ways = λ packet v. way_top packet mid node v good is;
      one = omega (arith, length-append mid (node ∷ []));
    } in
    subst (λ n. IsTop mid new node n) (sym at) (subst (λ (x : List Node). IsTop mid x node (length mid)) (sym pushed) made)

no_nodes : (old : List Node) → length old ≡ 0 → AreNodes old
no_nodes old none = record { each = λ k d within. absurd (omega (arith, within, none)) }

pub begun : (old new : List Node) (made : Onward) → length old ≡ 0 → made.place ≡ length old → new ≡ old ++ End ∷ [] → IsBegun new made
begun old new made none at pushed =
    let t = top old new End made.place (no_nodes old none) tt at pushed in
    record {
      nodes = t.nodes;
      onward = record {
        within = t.within;
        free = λ packet v. t.ways packet v ∙ sym (t.ways packet 0);
        least = record { none = λ packet v n below. ap (λ (w : Way). lower_number (Some n) w.found) (t.ways packet v) };
      };
      found = λ packet. ap (λ (w : Way). w.found) (t.ways packet 0);
      reads = λ packet. ap (λ (w : Way). w.reads) (t.ways packet 0);
      one = omega (arith, t.one, none);
    }

-- numbers of which one is lower
lower_some : (a b : ℕ) → a ≤ b → lower_number (Some a) (Some b) ≡ Some a
lower_some a b below = rw (le-leb a b below) refl

lower_both : (n id : ℕ) (x : Option ℕ) → n ≤ id → lower_number (Some n) x ≡ Some n → lower_number (Some n) (lower_number (Some id) x) ≡ Some n
lower_both n id x below stays = lower_join (Some n) (Some id) x ∙ ap (λ (y : Option ℕ). lower_number y x) (lower_some n id below) ∙ stays

lowest_one : (t : ClaimValue → Bool) (c : ClaimValue) → t c ≡ true → lowest t (c ∷ []) ≡ Some c.id
lowest_one t c is = rw is refl

-- a claim whose atoms all match
pub claim_laid : (depth : ℕ) (c : ClaimValue) (next made : Onward) (old new : List Node) → AreNodes old → IsOnward old next → drop depth c.filter ≡ []
    → made.place ≡ length old → made.least ≤ next.least → made.least ≤ c.id → new ≡ old ++ Claim c.id next.place next.least ∷ [] → IsLaid depth (c ∷ []) next old new made
claim_laid depth c next made old new good onward last at lower own pushed =
    let t = top old new (Claim c.id next.place next.least) made.place good (onward.within, onward.least) at pushed in
    record {
      nodes = t.nodes;
      extends = t.extends;
      onward = record {
        within = t.within;
        free = λ packet v. t.ways packet v ∙ ap (after_claim c.id) (onward.free packet v) ∙ sym (t.ways packet 0);
        least = record {
          none = λ packet v n below.
              ap (λ (w : Way). lower_number (Some n) w.found) (t.ways packet v)
              ∙ lower_both n c.id (way packet old next.place v).found (omega (arith, below, own)) (onward.least.none packet v n (omega (arith, below, lower)));
        };
      };
      below = lower;
      found = λ packet.
          ap (λ (w : Way). w.found) (t.ways packet 0)
          ∙ ap (λ (y : Option ℕ). lower_number y (way packet old next.place 0).found) (sym (lowest_one (matches_from depth packet) c (ap (λ f. matches f packet) last)));
      reads = λ packet. omega (arith, ap (λ (w : Way). w.reads) (t.ways packet 0));
      few = omega (arith, t.one);
    }

-- some claims, and others behind them
pub join_laid : (depth : ℕ) (all some back : List ClaimValue) (next between made : Onward) (old mid new : List Node) → IsOnward old next
    → IsLaid depth back next old mid between → IsLaid depth some between mid new made
    → ((t : ClaimValue → Bool) → lower_number (lowest t some) (lowest t back) ≡ lowest t all)
    → prefixes_from depth some + prefixes_from depth back ≤ prefixes_from depth all
    → nodes_for depth some + nodes_for depth back ≤ nodes_for depth all → IsLaid depth all next old new made
join_laid depth all some back next between made old mid new onward first second lowests prefixes nodes = record {
  nodes = second.nodes;
  extends = extends_trans old mid new first.extends second.extends;
  onward = second.onward;
  below = omega (arith, first.below, second.below);
  found = λ packet.
      let t = matches_from depth packet in
      let x = (way packet old next.place 0).found in
      second.found packet ∙ ap (lower_number (lowest t some)) (first.found packet) ∙ lower_join (lowest t some) (lowest t back) x ∙ ap (λ (y : Option ℕ). lower_number y x) (lowests t);
  reads = λ packet. omega (arith, first.reads packet, second.reads packet, prefixes);
  few = omega (arith, first.few, second.few, nodes);
}

some_atom : (a : Atom) (f : List Atom) → begins_with a f ≡ true → 1 ≤ length f
some_atom a [] is = cc
some_atom a (b ∷ f) is = omega arith

-- what nodes there are
pub nodes_deeper : (depth : ℕ) (a : Atom) (claims : List ClaimValue) → list_all (begins depth a) claims ≡ true → nodes_for (depth + 1) claims + 2 * length claims ≤ nodes_for depth claims
nodes_deeper depth a [] all = omega arith
nodes_deeper depth a (c ∷ claims) all =
    let both = and_parts (begins depth a c) (list_all (begins depth a) claims) all in
    let rest = nodes_deeper depth a claims both.1 in
    let here = one_shorter a depth c.filter both.0 in
    omega (arith, rest, here)
  where
    one_shorter : (a : Atom) (n : ℕ) (f : List Atom) → begins_with a (drop n f) ≡ true → length (drop (n + 1) f) + 1 ≤ length (drop n f)
    one_shorter a n f is = omega (arith, some_atom a (drop n f) is, length-drop n f, length-drop (n + 1) f)

pub some_claims : (depth : ℕ) (a : Atom) (claims : List ClaimValue) → is_branch depth a claims ≡ true → 1 ≤ length claims
some_claims depth a [] is = cc
some_claims depth a (c ∷ claims) is = omega arith

-- claims that all ask for one value
pub all_asked : (depth n : ℕ) (claims : List ClaimValue) → list_all (λ c. n == leaf_value depth c) claims ≡ true → filter (λ c. n == leaf_value depth c) claims ≡ claims
all_asked depth n [] all = refl
all_asked depth n (c ∷ claims) all = grind (arith, common_steps, (all_asked depth n claims))

none_asked : (depth n v : ℕ) (claims : List ClaimValue) → (n == v) ≡ false → list_all (λ c. n == leaf_value depth c) claims ≡ true → filter (λ c. v == leaf_value depth c) claims ≡ []
none_asked depth n v [] other all = refl
none_asked depth n v (c ∷ claims) other all = grind (arith, common_steps, (none_asked depth n v claims))

-- an atom's test
passes : (depth : ℕ) (a : Atom) (packet : List ℕ) (claims : List ClaimValue) → list_all (begins depth a) claims ≡ true → list_all (λ c. a.value == leaf_value depth c) claims ≡ true
    → atom_matches a packet ≡ true → lowest (matches_from (depth + 1) packet) claims ≡ lowest (matches_from depth packet) claims
passes depth a packet claims all asked is =
    let parts = and_parts (nat_le (a.offset + a.width) (length packet)) (bit_and (field a.offset a.width packet) a.mask == a.value) is in
    ap (lowest (matches_from (depth + 1) packet)) (sym (all_asked depth a.value claims asked))
    ∙ reached_lowest depth a.value a packet claims parts.0 (sym (eqb-true (bit_and (field a.offset a.width packet) a.mask) a.value parts.1)) all

fails : (depth : ℕ) (a : Atom) (packet : List ℕ) (claims : List ClaimValue) → list_all (begins depth a) claims ≡ true → list_all (λ c. a.value == leaf_value depth c) claims ≡ true
    → atom_matches a packet ≡ false → None ≡ lowest (matches_from depth packet) claims
fails depth a packet claims all asked is =
    elim (cases_Bool (nat_le (a.offset + a.width) (length packet))) [
      | inl fits ↦
          let w = bit_and (field a.offset a.width packet) a.mask in
          let other : (a.value == w) ≡ false = grind (arith, common_steps) in
          sym (ap (lowest (matches_from (depth + 1) packet)) (none_asked depth a.value w claims other asked)) ∙ reached_lowest depth w a packet claims fits refl all
      | inr short ↦ reached_none depth a packet claims short all
    ]

-- the way from the next place is as before
next_same : (packet : List ℕ) (v : ℕ) (next : Onward) (old mid : List Node) → IsOnward old next → Extends old mid → way packet mid next.place v ≡ way packet old next.place 0
next_same packet v next old mid onward more = more.same packet next.place v onward.within ∙ onward.free packet v

next_least : (next : Onward) (least : ℕ) (old mid : List Node) → IsOnward old next → Extends old mid → least ≤ next.least → AreFrom mid least next.place
next_least next least old mid onward more below = record { none = λ packet v n less. (from_extends old mid next.least next.place more onward.within onward.least).none packet v n (omega (arith, less, below)) }

pub onward_extends : (next : Onward) (old mid : List Node) → IsOnward old next → Extends old mid → IsOnward mid next
onward_extends next old mid onward more = record {
  within = omega (arith, onward.within, more.longer);
  free = λ packet v. next_same packet v next old mid onward more ∙ sym (next_same packet 0 next old mid onward more);
  least = from_extends old mid next.least next.place more onward.within onward.least;
}

either : (b : Bool) (n : ℕ) (w x : Way) → lower_number (Some n) w.found ≡ Some n → lower_number (Some n) x.found ≡ Some n → lower_number (Some n) (if b then w else x).found ≡ Some n
either true n w x left right = left
either false n w x left right = right

-- the node that tests an atom
is_test : (nodes : List Node) (place : ℕ) (a : Atom) (inside other : ℕ) → is_atom a ≡ true → inside < place → other < place → IsNode nodes place (test_node a inside other)
is_test nodes place a inside other good here there =
    elim (cases_Bool (a.width == 1)) [
      | inl is ↦ rw is (eqb-true a.width 1 is, here, there)
      | inr differs ↦ rw differs (good, here, there)
    ]

way_tested : (packet : List ℕ) (way : ℕ → ℕ → Way) (a : Atom) (inside other v : ℕ) → way_from packet way (test_node a inside other) v ≡ way_from packet way (Test a inside other) v
way_tested packet way a inside other v =
    elim (cases_Bool (a.width == 1)) [
      | inl is ↦ rw is refl
      | inr differs ↦ rw differs refl
    ]

-- a test in front of claims that all ask for its atom
pub test_laid : (depth : ℕ) (a : Atom) (claims : List ClaimValue) (next inside made : Onward) (old mid new : List Node) → IsOnward old next → is_atom a ≡ true
    → is_branch depth a claims ≡ true → list_all (λ c. a.value == leaf_value depth c) claims ≡ true → IsLaid (depth + 1) claims next old mid inside
    → made.place ≡ length mid → made.least ≡ inside.least → new ≡ mid ++ test_node a inside.place next.place ∷ [] → IsLaid depth claims next old new made
test_laid depth a claims next inside made old mid new onward good branch asked laid at least pushed =
    let all = (and_parts (starts_with depth a claims) (list_all (begins depth a) claims) branch).1 in
    let is = is_test mid (length mid) a inside.place next.place good laid.onward.within (omega (arith, onward.within, laid.extends.longer)) in
    let t = top mid new (test_node a inside.place next.place) made.place laid.nodes is at pushed in
    let ways : (packet : List ℕ) (v : ℕ) → way packet new made.place v ≡ way_from packet (way packet mid) (Test a inside.place next.place) v =
    λ packet v. t.ways packet v ∙ way_tested packet (way packet mid) a inside.place next.place v in
    let same = all_asked depth a.value claims asked in
    record {
      nodes = t.nodes;
      extends = extends_trans old mid new laid.extends t.extends;
      onward = record {
        within = t.within;
        free = λ packet v.
            ways packet v
            ∙ rw (laid.onward.free packet v, next_same packet v next old mid onward laid.extends, next_same packet 0 next old mid onward laid.extends) refl
            ∙ sym (ways packet 0);
        least = record {
          none = λ packet v n below.
              ap (λ (w : Way). lower_number (Some n) w.found) (ways packet v)
              ∙ either (atom_matches a packet) n (way packet mid inside.place v) (way packet mid next.place v)
              (laid.onward.least.none packet v n (omega (arith, below, least)))
              ((next_least next inside.least old mid onward laid.extends laid.below).none packet v n (omega (arith, below, least)));
        };
      };
      below = omega (arith, least, laid.below);
      found = λ packet.
          ap (λ (w : Way). w.found) (ways packet 0)
          ∙ elim (cases_Bool (atom_matches a packet)) [
            | inl is ↦ rw is (laid.found packet ∙ ap (λ (y : Option ℕ). lower_number y (way packet old next.place 0).found) (passes depth a packet claims all asked is))
            | inr differs ↦
                rw differs (ap (λ (w : Way). w.found) (next_same packet 0 next old mid onward laid.extends)
                ∙ ap (λ (y : Option ℕ). lower_number y (way packet old next.place 0).found) (fails depth a packet claims all asked differs))
          ];
      reads = λ packet.
          let whole = ap (λ (w : Way). w.reads) (ways packet 0) in
          let more = rw same at (one_prefix_more depth a.value a claims branch) in
          elim (cases_Bool (atom_matches a packet)) [
            | inl is ↦ let here = rw is at whole in omega (arith, here, laid.reads packet, more)
            | inr differs ↦ let here = rw differs at whole in omega (arith, here, ap (λ (w : Way). w.reads) (next_same packet 0 next old mid onward laid.extends), more)
          ];
      few = omega (arith, t.one, laid.few, nodes_deeper depth a claims all, some_claims depth a claims branch);
    }

-- a node that reads a field, in front of claims that are parted by its value
pub read_laid : (depth : ℕ) (a : Atom) (claims : List ClaimValue) (next inside made : Onward) (old mid new : List Node) → IsOnward old next → is_width a.width ≡ true
    → is_branch depth a claims ≡ true → IsParted depth claims next old mid inside
    → made.place ≡ length mid → made.least ≡ inside.least → new ≡ mid ++ Read a inside.place next.place ∷ [] → IsLaid depth claims next old new made
read_laid depth a claims next inside made old mid new onward good branch parted at least pushed =
    let all = (and_parts (starts_with depth a claims) (list_all (begins depth a) claims) branch).1 in
    let t = top mid new (Read a inside.place next.place) made.place parted.nodes (good, parted.within, omega (arith, onward.within, parted.extends.longer)) at pushed in
    record {
      nodes = t.nodes;
      extends = extends_trans old mid new parted.extends t.extends;
      onward = record {
        within = t.within;
        free = λ packet v.
            t.ways packet v
            ∙ rw (next_same packet v next old mid onward parted.extends, next_same packet 0 next old mid onward parted.extends) refl
            ∙ sym (t.ways packet 0);
        least = record {
          none = λ packet v n below.
              let w = bit_and (field a.offset a.width packet) a.mask in
              ap (λ (x : Way). lower_number (Some n) x.found) (t.ways packet v)
              ∙ either (nat_le (a.offset + a.width) (length packet)) n (way packet mid inside.place w) (way packet mid next.place v)
              (parted.least.none packet w n (omega (arith, below, least)))
              ((next_least next inside.least old mid onward parted.extends parted.below).none packet v n (omega (arith, below, least)));
        };
      };
      below = omega (arith, least, parted.below);
      found = λ packet.
          let w = bit_and (field a.offset a.width packet) a.mask in
          ap (λ (x : Way). x.found) (t.ways packet 0)
          ∙ elim (cases_Bool (nat_le (a.offset + a.width) (length packet))) [
            | inl fits ↦ rw fits (parted.found packet w ∙ ap (λ (y : Option ℕ). lower_number y (way packet old next.place 0).found) (reached_lowest depth w a packet claims fits refl all))
            | inr short ↦
                rw short (ap (λ (x : Way). x.found) (next_same packet 0 next old mid onward parted.extends)
                ∙ ap (λ (y : Option ℕ). lower_number y (way packet old next.place 0).found) (reached_none depth a packet claims short all))
          ];
      reads = λ packet.
          let w = bit_and (field a.offset a.width packet) a.mask in
          let whole = ap (λ (x : Way). x.reads) (t.ways packet 0) in
          elim (cases_Bool (nat_le (a.offset + a.width) (length packet))) [
            | inl fits ↦ let here = rw fits at whole in omega (arith, here, parted.reads packet w, one_prefix_more depth w a claims branch)
            | inr short ↦ let here = rw short at whole in omega (arith, here, ap (λ (x : Way). x.reads) (next_same packet 0 next old mid onward parted.extends), some_prefix depth a claims branch)
          ];
      few = omega (arith, t.one, parted.few);
    }

-- a node for one value, in front of claims that all ask for it
pub equal_parted : (depth n : ℕ) (a : Atom) (claims : List ClaimValue) (next inside made : Onward) (old mid new : List Node) → IsOnward old next
    → is_branch depth a claims ≡ true → list_all (λ c. n == leaf_value depth c) claims ≡ true → IsLaid (depth + 1) claims next old mid inside
    → made.place ≡ length mid → made.least ≡ inside.least → new ≡ mid ++ Equal n inside.place next.place ∷ [] → IsParted depth claims next old new made
equal_parted depth n a claims next inside made old mid new onward branch asked laid at least pushed =
    let all = (and_parts (starts_with depth a claims) (list_all (begins depth a) claims) branch).1 in
    let t = top mid new (Equal n inside.place next.place) made.place laid.nodes (laid.onward.within, omega (arith, onward.within, laid.extends.longer)) at pushed in
    record {
      nodes = t.nodes;
      extends = extends_trans old mid new laid.extends t.extends;
      within = t.within;
      least = record {
        none = λ packet v n' below.
            ap (λ (w : Way). lower_number (Some n') w.found) (t.ways packet v)
            ∙ either (n == v) n' (way packet mid inside.place v) (way packet mid next.place v)
            (laid.onward.least.none packet v n' (omega (arith, below, least)))
            ((next_least next inside.least old mid onward laid.extends laid.below).none packet v n' (omega (arith, below, least)));
      };
      below = omega (arith, least, laid.below);
      found = λ packet v.
          ap (λ (w : Way). w.found) (t.ways packet v)
          ∙ elim (cases_Bool (n == v)) [
            | inl is ↦
                let those = rw (eqb-true n v is) at (all_asked depth n claims asked) in
                rw (is, those) (ap (λ (w : Way). w.found) (laid.onward.free packet v) ∙ laid.found packet)
            | inr differs ↦ rw (differs, none_asked depth n v claims differs asked) (ap (λ (w : Way). w.found) (next_same packet v next old mid onward laid.extends))
          ];
      reads = λ packet v.
          let whole = ap (λ (w : Way). w.reads) (t.ways packet v) in
          elim (cases_Bool (n == v)) [
            | inl is ↦
                let those = rw (eqb-true n v is) at (all_asked depth n claims asked) in
                let here = rw is at whole in
                rw those (omega (arith, here, ap (λ (w : Way). w.reads) (laid.onward.free packet v), laid.reads packet))
            | inr differs ↦ let here = rw differs at whole in omega (arith, here, ap (λ (w : Way). w.reads) (next_same packet v next old mid onward laid.extends))
          ];
      few = omega (arith, t.one, laid.few, nodes_deeper depth a claims all, some_claims depth a claims branch);
    }

-- claims that ask for a value on one side of a bound are all on that side
one_side : {X : Type 0} (p q : X → Bool) → ((x : X) → q x ≡ true → p x ≡ true) → (xs : List X) → filter q (filter p xs) ≡ filter q xs
one_side p q side [] = refl
one_side p q side (x ∷ xs) = grind (arith, common_steps, (side x), (one_side p q side xs))

pub nodes_parts : (depth : ℕ) (q : ClaimValue → Bool) (claims : List ClaimValue) → nodes_for depth (filter q claims) + nodes_for depth (filter (λ c. not (q c)) claims) ≡ nodes_for depth claims
nodes_parts depth q [] = omega arith
nodes_parts depth q (c ∷ claims) = grind (arith, common_steps, (nodes_parts depth q claims))

-- a node that tells values below a bound from others
pub below_parted : (depth bound : ℕ) (claims : List ClaimValue) (next low high made : Onward) (old mid late new : List Node) → IsOnward old next
    → IsParted depth (filter (λ c. nat_lt (leaf_value depth c) bound) claims) next old mid low
    → IsParted depth (filter (λ c. not (nat_lt (leaf_value depth c) bound)) claims) next mid late high
    → made.place ≡ length late → made.least ≤ low.least → made.least ≤ high.least → new ≡ late ++ Below bound low.place high.place ∷ [] → IsParted depth claims next old new made
below_parted depth bound claims next low high made old mid late new onward first second at left right pushed =
    let t = top late new (Below bound low.place high.place) made.place second.nodes (omega (arith, first.within, second.extends.longer), second.within) at pushed in
    let more = extends_trans old mid late first.extends second.extends in
    record {
      nodes = t.nodes;
      extends = extends_trans old late new more t.extends;
      within = t.within;
      least = record {
        none = λ packet v n below.
            ap (λ (w : Way). lower_number (Some n) w.found) (t.ways packet v)
            ∙ either (nat_lt v bound) n (way packet late low.place v) (way packet late high.place v)
            ((from_extends mid late low.least low.place second.extends first.within first.least).none packet v n (omega (arith, below, left)))
            (second.least.none packet v n (omega (arith, below, right)));
      };
      below = omega (arith, left, first.below);
      found = λ packet v.
          ap (λ (w : Way). w.found) (t.ways packet v)
          ∙ elim (cases_Bool (nat_lt v bound)) [
            | inl is ↦
                rw (is, sym (lows v is)) (ap (λ (w : Way). w.found) (second.extends.same packet low.place v first.within) ∙ first.found packet v)
            | inr differs ↦
                rw (differs, sym (highs v differs)) (second.found packet v
                ∙ ap (λ (w : Way). lower_number (lowest (matches_from (depth + 1) packet) (filter (λ c. v == leaf_value depth c) (filter (λ c. not (nat_lt (leaf_value depth c) bound)) claims))) w.found) (next_same packet 0 next old mid onward first.extends))
          ];
      reads = λ packet v.
          let whole = ap (λ (w : Way). w.reads) (t.ways packet v) in
          elim (cases_Bool (nat_lt v bound)) [
            | inl is ↦
                let here = rw is at whole in
                rw (sym (lows v is)) (omega (arith, here, ap (λ (w : Way). w.reads) (second.extends.same packet low.place v first.within), first.reads packet v))
            | inr differs ↦
                let here = rw differs at whole in
                rw (sym (highs v differs)) (omega (arith, here, second.reads packet v, ap (λ (w : Way). w.reads) (next_same packet 0 next old mid onward first.extends)))
          ];
      few = omega (arith, t.one, first.few, second.few, nodes_parts depth (λ c. nat_lt (leaf_value depth c) bound) claims);
    }
  where
    lows : (v : ℕ) → nat_lt v bound ≡ true → filter (λ c. v == leaf_value depth c) (filter (λ c. nat_lt (leaf_value depth c) bound) claims) ≡ filter (λ c. v == leaf_value depth c) claims
    lows v is = one_side (λ c. nat_lt (leaf_value depth c) bound) (λ c. v == leaf_value depth c) (λ c asks. ap (λ n. nat_lt n bound) (sym (eqb-true v (leaf_value depth c) asks)) ∙ is) claims

    highs : (v : ℕ) → nat_lt v bound ≡ false → filter (λ c. v == leaf_value depth c) (filter (λ c. not (nat_lt (leaf_value depth c) bound)) claims) ≡ filter (λ c. v == leaf_value depth c) claims
    highs v differs = one_side (λ c. not (nat_lt (leaf_value depth c) bound)) (λ c. v == leaf_value depth c) (λ c asks. ap (λ n. not (nat_lt n bound)) (sym (eqb-true v (leaf_value depth c) asks)) ∙ ap not differs) claims

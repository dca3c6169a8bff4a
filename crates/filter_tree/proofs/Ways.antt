-- The ways of searches stay where nodes are laid behind those that there were.
use Rattle.std.proofs.Common.{◌≡◌, ℕ, zero, suc, ◌<◌, ◌≤◌, List, [], ◌∷◌, ◌++◌, Some, length, length-append, refl, sym, ap, ◌∙◌, subst, arith, inl, inr}
use Rattle.std.specs.Prelude.{◌==◌, bit_and, slice_index_or}
use Rattle.std.proofs.lemmas.Bool.{cases_Bool, cases_eq, eq-eqb, ne_eqb}
use Rattle.std.proofs.lemmas.List.{get_or_append_left}
use Rattle.std.proofs.Math.Seq.{get_or-append_seam}
use Rattle.filter_core.specs.Matching.{field}
use Rattle.filter_tree.specs.declared.node.Node.{Node}
use Rattle.filter_tree.specs.declared.node.Node.TheVariants.{End, Test, Byte, Read, Below, Equal, Claim}
use Rattle.filter_tree.specs.Laying.{Extends}
use Rattle.filter_tree.specs.Nodes.{AreFrom, AreNodes, IsNode, IsStop, Way, no_way, way, way_among, way_from}
use Rattle.filter_tree.specs.Tree.{lower_number}

-- among no more nodes than stand up to a place
among_more : (packet : List ℕ) (nodes : List Node) (n place v : ℕ) → place < n → way_among packet nodes n place v ≡ way packet nodes place v
unfolding way_among
among_more packet nodes zero place v below = absurd (omega arith)
among_more packet nodes (suc n) place v below =
    elim (cases_eq place n) [
      | inl same ↦ ap (λ m. way_among packet nodes (suc m) place v) (sym same)
      | inr other ↦ rw (ne_eqb place n other) (among_more packet nodes n place v (omega (arith, other)))
    ]

-- a way from a node, where the ways from the places to which it leads are the same
from_same : (packet : List ℕ) (one other : ℕ → ℕ → Way) (nodes : List Node) (place : ℕ) (node : Node) (v : ℕ) → IsNode nodes place node
    → ((q w : ℕ) → q < place → one q w ≡ other q w) → way_from packet one node v ≡ way_from packet other node v
from_same packet one other nodes place End v is same = refl
from_same packet one other nodes place (Test a inside next) v is same =
    rw (same inside v is.1, same next v is.2) refl
from_same packet one other nodes place (Byte a inside next) v is same =
    rw (same inside v is.1, same next v is.2) refl
from_same packet one other nodes place (Read a inside next) v is same =
    rw (same inside (bit_and (field a.offset a.width packet) a.mask) is.1, same next v is.2) refl
from_same packet one other nodes place (Below bound low high) v is same = rw (same low v is.0, same high v is.1) refl
from_same packet one other nodes place (Equal value inside next) v is same = rw (same inside v is.0, same next v is.1) refl
from_same packet one other nodes place (Claim id next least) v is same = rw (same next v is.0) refl

-- the way from a place is that from its node
at_end : (packet : List ℕ) (nodes : List Node) (place v : ℕ) → way packet nodes place v ≡ way_from packet (way_among packet nodes place) (slice_index_or nodes place End) v
unfolding way_among
at_end packet nodes place v = rw (eq-eqb place place refl) refl

pub is_node : (nodes : List Node) (place : ℕ) (node : Node) → AreNodes nodes → place < length nodes → slice_index_or nodes place End ≡ node → IsNode nodes place node
is_node nodes place node good within is = subst (IsNode nodes place) is (good.each place End within)

pub way_at : (packet : List ℕ) (nodes : List Node) (place v : ℕ) (node : Node) → AreNodes nodes → place < length nodes → slice_index_or nodes place End ≡ node
    → way packet nodes place v ≡ way_from packet (way packet nodes) node v
way_at packet nodes place v node good within is =
    at_end packet nodes place v
    ∙ ap (λ (x : Node). way_from packet (way_among packet nodes place) x v) is
    ∙ from_same packet (way_among packet nodes place) (way packet nodes) nodes place node v (is_node nodes place node good within is) (λ q w below. among_more packet nodes place q w below)

-- more nodes behind them change nothing
among_same : (packet : List ℕ) (nodes more : List Node) (n place v : ℕ) → n ≤ length nodes → AreNodes nodes → way_among packet (nodes ++ more) n place v ≡ way_among packet nodes n place v
unfolding way_among
among_same packet nodes more zero place v within good = refl
among_same packet nodes more (suc n) place v within good =
    elim (cases_Bool (place == n)) [
      | inl is ↦
          let here = get_or_append_left nodes more End n (omega (arith, within)) in
          let node = good.each n End (omega (arith, within)) in
          rw (is, here) (from_same packet (way_among packet (nodes ++ more) n) (way_among packet nodes n) nodes n (slice_index_or nodes n End) v node (λ q w below. among_same packet nodes more n q w (omega (arith, within)) good))
      | inr other ↦ rw other (among_same packet nodes more n place v (omega (arith, within)) good)
    ]

pub way_same : (packet : List ℕ) (nodes more : List Node) (place v : ℕ) → place < length nodes → AreNodes nodes → way packet (nodes ++ more) place v ≡ way packet nodes place v
way_same packet nodes more place v within good = among_same packet nodes more (suc place) place v (omega (arith, within)) good

pub extends_push : (nodes : List Node) (node : Node) → AreNodes nodes → Extends nodes (nodes ++ node ∷ [])
extends_push nodes node good = record {
  longer = omega (arith, length-append nodes (node ∷ []));
  same = λ packet place v within. way_same packet nodes (node ∷ []) place v within good;
}

pub extends_trans : (a b c : List Node) → Extends a b → Extends b c → Extends a c
extends_trans a b c first second = record {
  longer = omega (arith, first.longer, second.longer);
  same = λ packet place v within. second.same packet place v (omega (arith, within, first.longer)) ∙ first.same packet place v within;
}

-- what is found from a place stays
pub from_extends : (old new : List Node) (least place : ℕ) → Extends old new → place < length old → AreFrom old least place → AreFrom new least place
from_extends old new least place more within are = record {
  none = λ packet v n below. ap (λ (w : Way). lower_number (Some n) w.found) (more.same packet place v within) ∙ are.none packet v n below;
}

node_extends : (old new : List Node) (place : ℕ) (node : Node) → Extends old new → place ≤ length old → IsNode old place node → IsNode new place node
node_extends old new place End more within is = tt
node_extends old new place (Test a inside next) more within is = is
node_extends old new place (Byte a inside next) more within is = is
node_extends old new place (Read a inside next) more within is = is
node_extends old new place (Below bound low high) more within is = is
node_extends old new place (Equal value inside next) more within is = is
node_extends old new place (Claim id next least) more within is = (is.0, from_extends old new least next more (omega (arith, within, is.0)) is.1)

pub nodes_push : (nodes : List Node) (node : Node) → AreNodes nodes → IsNode nodes (length nodes) node → AreNodes (nodes ++ node ∷ [])
nodes_push nodes node good is = record {
  each = λ k d within.
      let more = extends_push nodes node good in
      elim (cases_eq k (length nodes)) [
        | inl last ↦
            let here : slice_index_or (nodes ++ node ∷ []) k d ≡ node = ap (λ n. slice_index_or (nodes ++ node ∷ []) n d) last ∙ get_or-append_seam nodes node [] d in
            subst (IsNode (nodes ++ node ∷ []) k) (sym here) (subst (λ n. IsNode (nodes ++ node ∷ []) n node) (sym last) (node_extends nodes (nodes ++ node ∷ []) (length nodes) node more (omega arith) is))
        | inr other ↦
            let before : k < length nodes = omega (arith, within, length-append nodes (node ∷ []), other) in
            subst (IsNode (nodes ++ node ∷ []) k) (sym (get_or_append_left nodes (node ∷ []) d k before)) (node_extends nodes (nodes ++ node ∷ []) k (slice_index_or nodes k d) more (omega (arith, before)) (good.each k d before))
      ];
}

-- the way from the node that was laid last
pub way_top : (packet : List ℕ) (nodes : List Node) (node : Node) (v : ℕ) → AreNodes nodes → IsNode nodes (length nodes) node
    → way packet (nodes ++ node ∷ []) (length nodes) v ≡ way_from packet (way packet nodes) node v
way_top packet nodes node v good is =
    at_end packet (nodes ++ node ∷ []) (length nodes) v
    ∙ ap (λ (x : Node). way_from packet (way_among packet (nodes ++ node ∷ []) (length nodes)) x v) (get_or-append_seam nodes node [] End)
    ∙ from_same packet (way_among packet (nodes ++ node ∷ []) (length nodes)) (way packet nodes) nodes (length nodes) node v is
    (λ q w below. among_more packet (nodes ++ node ∷ []) (length nodes) q w below ∙ way_same packet nodes (node ∷ []) q w below good)

-- where a search stops and there is no claim, it ends
pub nothing_behind : (packet : List ℕ) (nodes : List Node) (place v : ℕ) → AreNodes nodes → place < length nodes → IsStop (slice_index_or nodes place End)
    → ((id other least : ℕ) → ¬ (slice_index_or nodes place End ≡ Claim id other least)) → way packet nodes place v ≡ no_way
nothing_behind packet nodes place v good within stop other = way_at packet nodes place v End good within (ends (slice_index_or nodes place End) stop other)
  where
    ends : (node : Node) → IsStop node → ((id other least : ℕ) → ¬ (node ≡ Claim id other least)) → node ≡ End
    ends End stop other = refl
    ends (Claim id next least) stop other = absurd (other id next least refl)
    ends (Test a inside next) stop other = absurd stop
    ends (Byte a inside next) stop other = absurd stop
    ends (Read a inside next) stop other = absurd stop
    ends (Below bound low high) stop other = absurd stop
    ends (Equal value inside next) stop other = absurd stop

-- What is laid out for some claims.
use Rattle.std.specs.Prelude.{◌≡◌, ◌<◌, ◌≤◌, ◌==◌, ℕ, ◌+◌, ◌*◌, ◌^◌, List, [], ◌∷◌, None, drop, filter, if◌then◌else◌, length}
use Rattle.std.specs.List.{AllByRecursion}
use Rattle.filter_core.specs.declared.atom.Atom.{Atom}
use Rattle.filter_core.specs.Filters.{most_atoms}
use Rattle.filter_tree.specs.declared.node.Node.{Node}
use Rattle.filter_tree.specs.declared.node.Node.TheVariants.{Byte, Test}
use Rattle.filter_tree.specs.declared.node.Onward.{Onward}
use Rattle.filter_tree.specs.ClaimBook.{ClaimValue}
use Rattle.filter_tree.specs.Nodes.{AreFrom, AreNodes, IsOnward, way}
use Rattle.filter_tree.specs.Prefixes.{prefixes_from}
use Rattle.filter_tree.specs.Tree.{AreInOrder, lower_number, lowest, matches_from, leaf_value}

-- the most nodes for some claims from a depth on: one for each claim, and two for each atom
abbrev pub nodes_for : ℕ → List ClaimValue → ℕ
nodes_for depth [] = 0
nodes_for depth (c ∷ claims) = 1 + 2 * length (drop depth c.filter) + nodes_for depth claims

-- the node that tests an atom: fields of one byte have a node of their own
abbrev pub test_node : Atom → ℕ → ℕ → Node
test_node a inside other = if a.width == 1 then Byte a inside other else Test a inside other

-- the value for which the first of some claims asks at a depth
abbrev pub first_asked : ℕ → List ClaimValue → ℕ
first_asked depth [] = 0
first_asked depth (c ∷ claims) = leaf_value depth c

-- some claims may be laid from a depth on, in front of what comes next: they are in order, and there is room for their
-- nodes
pub record MayLay (depth : ℕ) (claims : List ClaimValue) (next : Onward) (old : List Node) (capacity : ℕ) : Type 0 where
  pub order : AreInOrder depth claims
  pub nodes : AreNodes old
  pub onward : IsOnward old next
  pub room : length old + nodes_for depth claims ≤ capacity
  pub few : length old + nodes_for depth claims < 2 ^ 32

-- the ways from the places that there were stay
pub record Extends (old new : List Node) : Type 0 where
  pub longer : length old ≤ length new
  pub same : (packet : List ℕ) (place v : ℕ) → place < length old → way packet new place v ≡ way packet old place v

-- claims are laid out from a depth on, in front of what comes next: from the place that was made a search finds the
-- lowest claim whose atoms match, or what it finds from the next place if that is lower, and reads no more fields
-- than there are prefixes besides
pub record IsLaid (depth : ℕ) (claims : List ClaimValue) (next : Onward) (old new : List Node)
    (made : Onward) : Type 0 where
  pub nodes : AreNodes new
  pub extends : Extends old new
  pub onward : IsOnward new made
  pub below : made.least ≤ next.least
  pub found : (packet : List ℕ) → (way packet new made.place 0).found
      ≡ lower_number (lowest (matches_from depth packet) claims) (way packet old next.place 0).found
  pub reads : (packet : List ℕ)
      → (way packet new made.place 0).reads ≤ prefixes_from depth claims + (way packet old next.place 0).reads
  pub few : length new ≤ length old + nodes_for depth claims

-- claims are parted by the value for which they ask at a depth: from the place that was made a search goes on as from
-- the claims that ask for what was read last
pub record IsParted (depth : ℕ) (claims : List ClaimValue) (next : Onward) (old new : List Node)
    (made : Onward) : Type 0 where
  pub nodes : AreNodes new
  pub extends : Extends old new
  pub within : made.place < length new
  pub least : AreFrom new made.least made.place
  pub below : made.least ≤ next.least
  pub found : (packet : List ℕ) (v : ℕ) → (way packet new made.place v).found
      ≡ lower_number (lowest (matches_from (depth + 1) packet) (filter (λ c. v == leaf_value depth c) claims))
      (way packet old next.place 0).found
  pub reads : (packet : List ℕ) (v : ℕ) → (way packet new made.place v).reads
      ≤ prefixes_from (depth + 1) (filter (λ c. v == leaf_value depth c) claims) + (way packet old next.place 0).reads
  pub few : length new + 1 ≤ length old + nodes_for depth claims

-- a search that ends at once
pub record IsBegun (new : List Node) (made : Onward) : Type 0 where
  pub nodes : AreNodes new
  pub onward : IsOnward new made
  pub found : (packet : List ℕ) → (way packet new made.place 0).found ≡ None
  pub reads : (packet : List ℕ) → (way packet new made.place 0).reads ≡ 0
  pub one : length new ≡ 1

-- all claims are laid out: a search begins at a place
pub record AreClaimsLaidOut (leaves : List ClaimValue) (nodes : List Node) (start : ℕ) : Type 0 where
  pub sound : AreNodes nodes
  pub within : start < length nodes
  pub found : (packet : List ℕ) → (way packet nodes start 0).found ≡ lowest (matches_from 0 packet) leaves
  pub reads : (packet : List ℕ) → (way packet nodes start 0).reads ≤ prefixes_from 0 leaves

-- a tree: its claims in the order of their filters, no more than there is room for, and its nodes
pub record IsTree (leaves : List ClaimValue) (nodes : List Node) (start room : ℕ) : Type 0 where
  pub order : AreInOrder 0 leaves
  pub short : AllByRecursion (λ (c : ClaimValue). length c.filter ≤ most_atoms) leaves
  pub few : length leaves ≤ room
  pub laid : AreClaimsLaidOut leaves nodes start

-- the room of a tree's lists
pub record HasTreeRoom (room leaves branches nodes : ℕ) : Type 0 where
  pub most : room < 2 ^ 16
  pub leaf_room : room ≤ leaves
  pub branch_room : room ≤ branches
  pub node_room : 33 * room + 1 ≤ nodes

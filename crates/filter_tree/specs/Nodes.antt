-- The tree of claims, laid out as nodes among which a search goes.
use Rattle.std.specs.Prelude.{◌≡◌, ◌<◌, ℕ, zero, suc, ◌+◌, true, ◌==◌, nat_le, nat_lt, if◌then◌else◌, List, length, slice_index_or, Option, Some, None, bit_and}
use Rattle.filter_core.specs.Filters.{is_atom, is_width}
use Rattle.filter_core.specs.Matching.{atom_matches, field}
use Rattle.filter_tree.specs.declared.node.Node.{Node}
use Rattle.filter_tree.specs.declared.node.Node.TheVariants.{End, Test, Byte, Read, Below, Equal, Claim}
use Rattle.filter_tree.specs.declared.node.Onward.{Onward}
use Rattle.filter_tree.specs.Tree.{lower_number}

-- the way of a search: the lowest claim that it finds, and how many fields it reads
pub record Way : Type 0 where
  pub found : Option ℕ
  pub reads : ℕ

abbrev pub no_way : Way
no_way = record { found = None; reads = 0 }

abbrev pub after_read : Way → Way
after_read w = record { found = w.found; reads = w.reads + 1 }

abbrev pub after_claim : ℕ → Way → Way
after_claim id w = record { found = lower_number (Some id) w.found; reads = w.reads }

-- from a node on, by the ways from the places to which it leads; the last number is what was read last
abbrev pub way_from : List ℕ → (ℕ → ℕ → Way) → Node → ℕ → Way
way_from packet way End v = no_way
way_from packet way (Test a inside other) v = after_read (if atom_matches a packet then way inside v else way other v)
way_from packet way (Byte a inside other) v = after_read (if atom_matches a packet then way inside v else way other v)
way_from packet way (Read a inside other) v =
    after_read (if nat_le (a.offset + a.width) (length packet) then way inside
    (bit_and (field a.offset a.width packet) a.mask) else way other v)
way_from packet way (Below bound low high) v = if nat_lt v bound then way low v else way high v
way_from packet way (Equal value inside other) v = if value == v then way inside v else way other v
way_from packet way (Claim id other least) v = after_claim id (way other v)

-- from a place on, among the first so many nodes
unfoldable pub way_among : List ℕ → List Node → ℕ → ℕ → ℕ → Way
way_among packet nodes zero place v = no_way
way_among packet nodes (suc n) place v =
    if place == n then way_from packet (way_among packet nodes n) (slice_index_or nodes n End) v
    else way_among packet nodes n place v

-- from a place on: each node leads to lower places
abbrev pub way : List ℕ → List Node → ℕ → ℕ → Way
way packet nodes place v = way_among packet nodes (suc place) place v

-- the lowest claim that is found from a place on
abbrev pub found_at : List ℕ → List Node → ℕ → ℕ → Option ℕ
found_at packet nodes place v = (way packet nodes place v).found

-- how many fields are read from a place on
abbrev pub reads_at : List ℕ → List Node → ℕ → ℕ → ℕ
reads_at packet nodes place v = (way packet nodes place v).reads

-- a node at which nothing is tested: a claim or the end
abbrev pub IsStop : Node → Type 0
IsStop End = Unit {0}
IsStop (Claim id other least) = Unit {0}
IsStop node = ⊥

-- from a place on no claim below a number is found
pub record AreFrom (nodes : List Node) (least place : ℕ) : Type 0 where
  pub none : (packet : List ℕ) (v n : ℕ) → n < least → lower_number (Some n) (way packet nodes place v).found ≡ Some n

-- a node at a place: it leads to lower places, its atom is good, and so is its lowest number to come
abbrev pub IsNode : List Node → ℕ → Node → Type 0
IsNode nodes place End = Unit {0}
IsNode nodes place (Test a inside other) = (is_atom a ≡ true) × (inside < place) × (other < place)
IsNode nodes place (Byte a inside other) = (a.width ≡ 1) × (inside < place) × (other < place)
IsNode nodes place (Read a inside other) = (is_width a.width ≡ true) × (inside < place) × (other < place)
IsNode nodes place (Below bound low high) = (low < place) × (high < place)
IsNode nodes place (Equal value inside other) = (inside < place) × (other < place)
IsNode nodes place (Claim id other least) = (other < place) × AreFrom nodes least other

-- each node is one
pub record AreNodes (nodes : List Node) : Type 0 where
  pub each : (k : ℕ) (d : Node) → k < length nodes → IsNode nodes k (slice_index_or nodes k d)

-- a place where a search can go on, whatever was read last
pub record IsOnward (nodes : List Node) (next : Onward) : Type 0 where
  pub within : next.place < length nodes
  pub free : (packet : List ℕ) (v : ℕ) → way packet nodes next.place v ≡ way packet nodes next.place 0
  pub least : AreFrom nodes next.least next.place

-- How far two runs have come while they are compared. For proofs: nobody has to believe it.
use Rattle.std.specs.Prelude.{◌≡◌, ◌≤◌, ◌<◌, ◌⊎◌, ℕ, List, [], length, true, false, Option, Some, None, option_map, slice_get}
use Rattle.aegis_limits.specs.Limits.{most_run_ticks}
use Rattle.world_model.specs.Item.{Item}
use Rattle.run_model.specs.Run.{System, feed}
use Rattle.run_model.specs.Slices.{IsEndOf, slices}
use Rattle.feed_log.specs.Views.{item_seen}
use Rattle.feed_log.specs.Progress.{IsOver, Progress, at_boot, ended, unread}
use Rattle.machine_text.specs.Fingerprint.{fingerprint}
use Rattle.twin_run.specs.declared.answer.TwinAnswer.{TwinAnswer}
use Rattle.twin_run.specs.declared.answer.TwinAnswer.TheVariants.{FeedsDiffer, Same}
use Rattle.twin_run.specs.declared.difference.Difference.{Difference}
use Rattle.twin_run.specs.Answer.{end_in_time, first_difference, is_there, slices_in, text_or_none}
use Rattle.twin_run.specs.ItemText.{is_alike}

-- a run that begins
abbrev pub Begins : ℕ → Progress → Type 0
Begins e p = p ≡ at_boot p.system e

-- a run in which fewer than n slices of the environment have ended before its last tick
pub record IsUnderWay (n : ℕ) (p : Progress) : Type 0 where
  pub within : p.ticks ≤ most_run_ticks
  pub fewer : (t : ℕ) → t < p.ticks → slices p.system p.env t < n

-- how many items an environment is given in so many ticks
unfoldable pub items_within : System → ℕ → ℕ → ℕ
items_within system e most = length (feed system e most)

-- It has come to the end of slice n, or is over before.
abbrev pub IsDone : ℕ → Progress → Type 0
IsDone n p = (ended p ≡ n) ⊎ IsOver p

-- It has an item that wasn't read, if there is one up to the end of slice n.
abbrev pub HasNext : ℕ → Progress → Type 0
HasNext n p = (unread p ≡ [] → ⊥) ⊎ IsDone n p

-- It went on, or didn't, to an item that wasn't read, if there is one up to the end of slice n.
pub record CameToItem (n : ℕ) (p q : Progress) : Type 0 where
  pub same : q ≡ record p { ticks = q.ticks }
  pub under_way : IsUnderWay n q
  pub next : HasNext n q

-- the item that comes next, if there is one
abbrev pub front : Progress → Option Item
front p = slice_get (unread p) 0

-- In two systems so many ticks end the slice n of an environment.
pub record AreEnds (left right : System) (e n t u : ℕ) : Type 0 where
  pub left_end : IsEndOf left e n t
  pub left_within : t ≤ most_run_ticks
  pub right_end : IsEndOf right e n u
  pub right_within : u ≤ most_run_ticks

-- Up to there so many items of their feeds are the same.
abbrev pub AreSameBelow : System → System → ℕ → ℕ → ℕ → Type 0
AreSameBelow left right e n index =
    (t u : ℕ) → AreEnds left right e n t u → (i : ℕ) → i < index
    → slice_get (feed left e t) i ≡ slice_get (feed right e u) i

-- The next items of two runs aren't alike, or one of them has none.
abbrev pub AreApart : Progress → Progress → Type 0
AreApart p q =
    (x y : Item) → front p ≡ Some x → front q ≡ Some y → is_alike (item_seen x) (item_seen y) ≡ false

-- So many of their next items are the same. Where it is none, they are apart.
pub record AreNextSame (p q : Progress) (count : ℕ) : Type 0 where
  pub left_has : count ≤ length (unread p)
  pub right_has : count ≤ length (unread q)
  pub same : (i : ℕ) → i < count → slice_get (unread p) i ≡ slice_get (unread q) i
  pub apart : count ≡ 0 → AreApart p q

-- A run of a system for an environment of which so many items were read.
pub record Reads (n : ℕ) (start : Progress) (index : ℕ) (p : Progress) : Type 0 where
  pub system : p.system ≡ start.system
  pub env : p.env ≡ start.env
  pub read : p.read ≡ index
  pub under_way : IsUnderWay n p

-- Two runs have come to a place where they are apart, and what was read before it is the same.
pub record CameApart (n : ℕ) (left right p q : Progress) (index : ℕ) : Type 0 where
  pub left_reads : Reads n left index p
  pub left_next : HasNext n p
  pub right_reads : Reads n right index q
  pub right_next : HasNext n q
  pub same : AreSameBelow left.system right.system left.env n index
  pub apart : AreApart p q

-- items at an index where they aren't the same, if there is one on a side at least
abbrev pub difference_at : ℕ → Option Item → Option Item → Option Difference
difference_at index None None = None
difference_at index left right = Some (record { index = index; left = text_or_none left; right = text_or_none right })

-- the first difference of two feeds, as it is shown
abbrev pub difference_of : List Item → List Item → Option Difference
difference_of left right = option_map
    (λ i. record { index = i; left = text_or_none (slice_get left i); right = text_or_none (slice_get right i) })
    (first_difference left right)

-- what is answered of a difference, or of none where the left run shows these lines of the environment
abbrev pub settled : List ℕ → Option Difference → TwinAnswer
settled lines None = Same (fingerprint lines)
settled lines (Some d) = FeedsDiffer d.index d.left d.right

-- It is the first difference of the feeds up to the ends of slice n, and where there is none, they are the same.
pub record IsDifference (left right : System) (e n : ℕ) (d : Option Difference) : Type 0 where
  pub first : (t u : ℕ) → AreEnds left right e n t u → d ≡ difference_of (feed left e t) (feed right e u)
  pub none : (t u : ℕ) → AreEnds left right e n t u → d ≡ None → feed left e t ≡ feed right e u

-- A run that is under way is one of the same system and environment.
pub record WentOnTo (n : ℕ) (p q : Progress) : Type 0 where
  pub system : q.system ≡ p.system
  pub env : q.env ≡ p.env
  pub under_way : IsUnderWay n q

-- A run came to the end of slice n, or no further than to so many slices.
pub record CameToEnd (n : ℕ) (p q : Progress) : Type 0 where
  pub went : WentOnTo n p q
  pub there : is_there q.system q.env ≡ true
  pub end : end_in_time q.system q.env n most_run_ticks ≡ Some q.ticks
  pub is_end : IsEndOf q.system q.env n q.ticks

pub record FellShort (n : ℕ) (p : Progress) (slices : ℕ) : Type 0 where
  pub no_end : end_in_time p.system p.env n most_run_ticks ≡ None
  pub count : slices ≡ slices_in p.system p.env most_run_ticks

abbrev pub EndedSo : ℕ → Progress → Progress → Option ℕ → Type 0
EndedSo n p q None = CameToEnd n p q
EndedSo n p q (Some slices) = FellShort n p slices

-- How far a run has come, of which what one environment is given is told.
use Rattle.std.specs.Prelude.{◌≡◌, ◌≤◌, ◌<◌, ◌⊎◌, ℕ, List, [], ◌++◌, drop, replicate, Bool, true, false, Option, Some, None}
use Rattle.aegis_limits.specs.Limits.{most_run_ticks}
use Rattle.world_model.specs.Book.{is_idle_book}
use Rattle.world_model.specs.Item.{Item}
use Rattle.run_model.specs.Run.{System, feed, world_after}
use Rattle.run_model.specs.Slices.{slices}
use Rattle.feed_log.specs.declared.view.ItemView.{ItemView}
use Rattle.feed_log.specs.Views.{IsFit, ItemSeen, item_seen}
use Rattle.feed_log.specs.Log.{shown}

-- A run of a system for so many ticks, and how many of the items were read that it gave an environment in them.
pub record Progress : Type 0 where
  pub system : System
  pub env : ℕ
  pub ticks : ℕ
  pub read : ℕ

-- a run that begins
abbrev pub at_boot : System → ℕ → Progress
at_boot system e = record { system = system; env = e; ticks = 0; read = 0 }

-- all that the environment was given so far
abbrev pub told : Progress → List Item
told p = feed p.system p.env p.ticks

-- what it was given that wasn't read
abbrev pub unread : Progress → List Item
unread p = drop p.read (told p)

-- how many of its slices have ended
abbrev pub ended : Progress → ℕ
ended p = slices p.system p.env p.ticks

-- So often, and at least once, an item that is shown so stands at the front of a list.
pub record BeginsWith (items : List Item) (seen : ItemSeen) (count : ℕ) : Type 0 where
  pub item : Item
  pub fit : IsFit item
  pub shown : item_seen item ≡ seen
  pub some : 0 < count
  pub behind : List Item
  pub all : items ≡ replicate count item ++ behind

-- the item at the front of a list, if it has one, with how often it stands there
abbrev pub IsFirst : List Item → Option (ItemView × ℕ) → Type 0
IsFirst items None = items ≡ []
IsFirst items (Some first) = BeginsWith items (shown first.0) first.1

-- A run can go no further: it has had as many ticks as a run may have, or its board is idle.
abbrev pub IsOver : Progress → Type 0
IsOver p = (p.ticks ≡ most_run_ticks) ⊎ (is_idle_book (world_after p.system p.ticks).book ≡ true)

-- A run went on by a tick or more, and no slice of the environment ended in them but in the last.
pub record WentOn (before after : Progress) : Type 0 where
  pub same : after ≡ record before { ticks = after.ticks }
  pub later : before.ticks < after.ticks
  pub within : after.ticks ≤ most_run_ticks
  pub unended : (t : ℕ) → before.ticks < t → t < after.ticks → slices before.system before.env t ≡ ended before

-- it did so, or it couldn't and nothing changed
abbrev pub Passed : Progress → Progress → Bool → Type 0
Passed before after true = WentOn before after
Passed before after false = (after ≡ before) × IsOver before

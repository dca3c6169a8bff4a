-- How far a run has come that is told, and what holds between its ticks.
use Rattle.std.specs.Prelude.{◌≡◌, ◌≤◌, ◌<◌, ◌+◌, ◌-◌, ℕ, List, [], drop, length, map, Bool}
use Rattle.aegis_limits.specs.Limits.{most_run_ticks}
use Rattle.world_model.specs.Item.{Item}
use Rattle.run_model.specs.Run.{feed}
use Rattle.run_model.specs.Slices.{ends_in, slices}
use Rattle.feed_log.specs.Views.{ItemSeen, item_seen}
use Rattle.feed_log.specs.Progress.{Progress, ended}
use Rattle.feed_telling.specs.Tell.{AreFit}
use Rattle.aegis_tick.specs.OnCourse.{IsOn, system_of}
use Rattle.feed_run.specs.declared.run.BoardRun.{BoardRun}

-- The last items of a feed are unread, and each of the feed is fit.
pub record AreUnread (items : List Item) (log : List ItemSeen) : Type 0 where
  pub few : length log ≤ length items
  pub last : log ≡ drop (length items - length log) (map item_seen items)
  pub fit : AreFit items

-- A run made one tick, in which a slice of the environment ended, or not.
pub record WentATick (before after : Progress) (has_ended : Bool) : Type 0 where
  pub same : after ≡ record before { ticks = before.ticks + 1 }
  pub within : before.ticks < most_run_ticks
  pub ends : has_ended ≡ ends_in before.system before.env before.ticks

-- It made ticks, or none, in which no slice of the environment ended.
pub record WentPlain (before after : Progress) : Type 0 where
  pub same : after ≡ record before { ticks = after.ticks }
  pub later : before.ticks ≤ after.ticks
  pub within : after.ticks ≤ most_run_ticks
  pub unended : (t : ℕ) → before.ticks ≤ t → t ≤ after.ticks → slices before.system before.env t ≡ ended before

-- how far a run has come, by its own parts
abbrev pub progress_of : BoardRun → Progress
progress_of r = record {
  system = system_of r.course;
  env = r.watched;
  ticks = r.course.board.time;
  read = length (feed (system_of r.course) r.watched r.course.board.time) - length r.log;
}

-- A run between its ticks: it is on its course, the last items aren't read yet, and that many slices have ended.
pub record IsWholeRun (r : BoardRun) : Type 0 where
  pub on : IsOn r.course
  pub within : r.course.board.time ≤ most_run_ticks
  pub unread : AreUnread (feed (system_of r.course) r.watched r.course.board.time) r.log
  pub empty : r.tick ≡ []
  pub slices : r.ended ≡ slices (system_of r.course) r.watched r.course.board.time

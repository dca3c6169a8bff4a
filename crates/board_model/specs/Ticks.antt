-- A board between its ticks: what a tick asks of it, and what it leaves.
use Rattle.std.specs.Prelude.{◌≡◌, ◌≤◌, ◌<◌, ◌+◌, false}
use Rattle.aegis_limits.specs.Limits.{most_ticks}
use Rattle.world_model.specs.Book.{is_idle_book}
use Rattle.board_model.specs.Shown.{Shown}
use Rattle.board_model.specs.Showing.{world_of}

-- A freshly booted board: all its environments are there, no tick was made, and no claim.
pub record IsFresh (b : Shown) : Type 0 where
  pub whole : b.roster.spare ≡ 0
  pub time : b.time ≡ 0
  pub numbers : b.claims.next ≡ 0

-- An event may happen: time isn't over.
abbrev pub MayHappen : Shown → Type 0
MayHappen b = b.time ≤ most_ticks

-- An event happened, or the deadlines were served: the time, the claims that were made, and who is there, are as
-- before.
pub record IsSameTick (old new : Shown) : Type 0 where
  pub time : new.time ≡ old.time
  pub whole : new.roster.spare ≡ old.roster.spare
  pub numbers : new.claims.next ≡ old.claims.next

-- A tick may be made: all environments are there, somebody runs or a slot is held, time isn't at its end, and no more
-- claims were made than ticks.
pub record MayTick (b : Shown) : Type 0 where
  pub whole : b.roster.spare ≡ 0
  pub busy : is_idle_book (world_of b).book ≡ false
  pub time : b.time < most_ticks
  pub numbers : b.claims.next ≤ b.time

-- A tick was made: time is one more, and all but an idle board may make another.
pub record IsTicked (old new : Shown) : Type 0 where
  pub time : new.time ≡ old.time + 1
  pub whole : new.roster.spare ≡ 0
  pub numbers : new.claims.next ≤ new.time

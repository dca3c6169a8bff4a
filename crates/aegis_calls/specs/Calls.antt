-- What a kernel call asks of the board, and what the runner's act leaves of a tick.
use Rattle.std.specs.Prelude.{◌≡◌, ◌≤◌, ◌<◌, ◌+◌, ◌^◌, ℕ, Bool, true, false, Some}
use Rattle.world_model.specs.declared.call.Call.{Call}
use Rattle.world_model.specs.declared.call.Call.TheVariants.{Accept, Bind, Context, Put, Query, Unbind}
use Rattle.world_model.specs.Book.{running}
use Rattle.board_model.specs.Shown.{Shown}

-- An environment may call: it runs, the ledger has room for the rows of a call or a death, and a claim more has a number.
pub record MayCall (b : Shown) (env : ℕ) : Type 0 where
  pub runs : running b.slots.runner ≡ Some env
  pub room : 64 < b.ledger.spare
  pub numbers : b.claims.next < 2 ^ 32

-- the calls that programs make most
abbrev pub is_short : Call → Bool
is_short Query = true
is_short Put = true
is_short Bind = true
is_short Unbind = true
is_short Context = true
is_short Accept = true
is_short call = false

-- The runner made its step, or its call was served: the time, and who is there, are as before, and at most one claim more
-- was made.
pub record IsOneAct (old new : Shown) : Type 0 where
  pub time : new.time ≡ old.time
  pub whole : new.roster.spare ≡ old.roster.spare
  pub numbers : new.claims.next ≤ old.claims.next + 1

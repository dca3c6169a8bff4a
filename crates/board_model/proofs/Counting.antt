-- What the timer leaves: all environments stay, and it writes few rows.
use Rattle.std.proofs.Common.{◌≡◌, ◌≤◌, ◌+◌, rules}
use Rattle.board_model.specs.Shown.{Shown}
use Rattle.board_model.specs.Sound.{IsSoundBoard}
use Rattle.board_model.specs.Doing.{after_timer_phase}
use Rattle.board_model.proofs.Dying.{few_rows}

pub record Counts (b new : Shown) : Type 0 where
  pub room : b.ledger.spare ≤ new.ledger.spare + 256
  pub spare : new.roster.spare ≡ b.roster.spare
  pub time : new.time ≡ b.time + 1

pub counted_counts : (b : Shown) → IsSoundBoard b → Counts b (after_timer_phase b)
counted_counts b sound = search (rules, few_rows)

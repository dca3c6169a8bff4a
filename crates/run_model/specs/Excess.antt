-- The rule of excess, over the rows of the ledger: what is run past a slice is forfeited later.
use Rattle.std.specs.Prelude.{◌≡◌, ℕ, ◌+◌, ◌<◌, ◌==◌, Bool, false, List, [], ◌∷◌, ◌++◌, count_by, Option, None, Some}
use Rattle.boot_image.specs.ImageValue.{ImageValue}
use Rattle.kernel_journal.specs.declared.row.Row.{Row}
use Rattle.kernel_journal.specs.declared.row.Row.TheVariants as row
use Rattle.world_model.specs.declared.life.Life.TheVariants.{Live}
use Rattle.world_model.specs.declared.hold.Hold.{Hold}
use Rattle.world_model.specs.declared.slot.Runner.{Runner}
use Rattle.world_model.specs.declared.slot.Turn.{Turn}
use Rattle.world_model.specs.Book.{Book, excess_after_forfeit, whole_turn}
use Rattle.run_model.specs.NextTurn.{IsNextTurn}
use Rattle.world_model.specs.World.{World}
use Rattle.run_model.specs.Boot.{boot_world}
use Rattle.world_model.specs.Event.{Schedule}
use Rattle.run_model.specs.Run.{System, world_after_ticks, world_after}

-- Who runs at last in a turn owes nothing.
abbrev pub OwesNothing : (ℕ → ℕ) → Option Turn → Type 0
OwesNothing excess None = Unit {0}
OwesNothing excess (Some t) = excess t.env ≡ 0

-- A turn goes by the rule: each slot that is forfeited on the way was the next one that is held, and its holder owed,
-- and owes one less; then the next held slot's holder runs, who owes nothing, or no slot is held.
abbrev pub GoesByRule : Book → List Turn → Option Turn → Type 0
GoesByRule b [] runs = IsNextTurn b runs × OwesNothing b.excess runs
GoesByRule b (t ∷ pays) runs =
    IsNextTurn b (Some t) × (0 < b.excess t.env)
    × GoesByRule (record b { cursor = t.slot; excess = excess_after_forfeit t.env b.excess }) pays runs

abbrev pub TurnsGoByRule : Type 0
TurnsGoByRule = (b : Book) → b.cursor < b.slot_count → GoesByRule b (whole_turn b).pays (whole_turn b).runs

-- whether a row counts among an environment's turns, forfeits, or quanta of excess
abbrev pub is_run_of : ℕ → Row → Bool
is_run_of e (row.Run t slot who) = who == e
is_run_of e _ = false

abbrev pub is_pay_of : ℕ → Row → Bool
is_pay_of e (row.Pay t slot who) = who == e
is_pay_of e _ = false

abbrev pub is_over_of : ℕ → Row → Bool
is_over_of e (row.Over t slot who excess) = who == e
is_over_of e _ = false

-- the quanta that an environment ran past its slices by the ledger, and those that it forfeited
abbrev pub overs : ℕ → List Row → ℕ
overs e rows = count_by (is_over_of e) rows

abbrev pub pays : ℕ → List Row → ℕ
pays e rows = count_by (is_pay_of e) rows

-- an environment lives, or the image lacks it
abbrev pub Lives : World → ℕ → Type 0
Lives w e = (w.solos e).life ≡ Live

-- The balance: what an environment that lives ran past its slices it has forfeited, or still owes.
abbrev pub IsBalanced : World → Type 0
IsBalanced w = (e : ℕ) → Lives w e → overs e w.rows ≡ pays e w.rows + w.book.excess e

-- so it is after every number of ticks of every system
abbrev pub BalanceHolds : Type 0
BalanceHolds = (system : System) (t : ℕ) → IsBalanced (world_after system t)

-- A row after others is lawful: who owes runs in no slot that it holds; only who owes forfeits one; and an excess that
-- is written is what was run past and not forfeited.
abbrev pub IsLawful : List Row → Row → Type 0
IsLawful before (row.Run t k e) = overs e before ≡ pays e before
IsLawful before (row.Pay t k e) = pays e before < overs e before
IsLawful before (row.Over t k e excess) = pays e before + excess ≡ overs e before + 1
IsLawful before _ = Unit {0}

abbrev pub AreLawfulAfter : List Row → List Row → Type 0
AreLawfulAfter before [] = Unit {0}
AreLawfulAfter before (r ∷ rows) = IsLawful before r × AreLawfulAfter (before ++ r ∷ []) rows

-- every row of every ledger is lawful after those before it
abbrev pub LedgersAreLawful : Type 0
LedgersAreLawful = (system : System) (t : ℕ) → AreLawfulAfter [] (world_after system t).rows

-- whoever owns or holds one of these slots lives
abbrev pub AreSlotsLive : World → (ℕ → Option Hold) → Type 0
AreSlotsLive w slots = (k : ℕ) (hold : Hold) → slots k ≡ Some hold → Lives w hold.owner × Lives w hold.holder

-- whoever runs lives
abbrev pub IsRunnerLive : World → Option Runner → Type 0
IsRunnerLive w runner = (r : Runner) → runner ≡ Some r → Lives w r.env

-- What ticks keep: the balance, a lawful ledger, and that who has slots or runs lives.
pub record IsAccounted (w : World) : Type 0 where
  pub balanced : IsBalanced w
  pub lawful : AreLawfulAfter [] w.rows
  pub slots_live : AreSlotsLive w w.book.slots
  pub runner_lives : IsRunnerLive w w.book.runner

-- So it is of every world at boot, and of every world of which it is so after more ticks.
abbrev pub BootsAccounted : Type 0
BootsAccounted = (image : ImageValue) → IsAccounted (boot_world image)

abbrev pub TicksKeepAccounts : Type 0
TicksKeepAccounts =
    (schedule : Schedule) (w : World) → IsAccounted w → (t : ℕ) → IsAccounted (world_after_ticks schedule w t)

-- A stretch of plain ticks: in each of them the runner's step retires, and nothing else happens.
use Rattle.std.specs.Prelude.{◌≡◌, ◌≤◌, ◌<◌, ℕ, ◌+◌, ◌-◌, false, min, [], Some}
use Rattle.guest_memory.specs.Steps.{AllRetire, Machine, after_steps}
use Rattle.revocation_book.specs.RevocationBook.{RevocationBook, is_any_due, next_deadline}
use Rattle.r3k_cp0.specs.Random.{fallen_times}
use Rattle.slot_vector.specs.Slices.{Slices, after_ticks, left_of}
use Rattle.world_model.specs.Book.{running}
use Rattle.world_model.specs.Event.{Schedule}
use Rattle.world_model.specs.Step.{Act, Nothing, Stores}
use Rattle.world_model.specs.Tick.{act_now, served, turn}
use Rattle.world_model.specs.World.{World}
use Rattle.run_model.specs.Run.{after_phase, world_after_ticks}
use Rattle.board_model.specs.Doing.{lookup_of}
use Rattle.board_model.specs.Shown.{Shown}
use Rattle.board_model.specs.Showing.{world_of}
use Rattle.board_model.specs.Sound.{HasRunner}

-- what the runner's steps change
abbrev pub machine_of : Shown → Machine
machine_of b = record { cpu = b.cpu; frames = b.frames }

-- the board after so many plain ticks of an environment
abbrev pub stretched : Shown → ℕ → ℕ → Shown
stretched b e ticks = let m = after_steps (lookup_of b e) (machine_of b) ticks in record b {
  frames = m.frames;
  cpu = m.cpu;
  slots = after_ticks ticks b.slots;
  time = b.time + ticks;
  tlb = record b.tlb { random = fallen_times b.tlb.random ticks };
}

-- The next ticks, so many, are plain: each step retires, the slice doesn't end, and no deadline comes.
pub record ArePlain (b : Shown) (e ticks : ℕ) : Type 0 where
  pub retire : AllRetire (lookup_of b e) (machine_of b) ticks
  pub left : ticks < left_of b.slots.runner
  pub early : ticks ≤ next_deadline b.revocations - b.time

-- how many of the next ticks, of at most so many, come before the runner's last one and before the next deadline
abbrev pub plain_ticks : Slices → RevocationBook → ℕ → ℕ → ℕ
plain_ticks slots revocations time most =
    min (min most (left_of slots.runner - 1)) (next_deadline revocations - time)

-- Nothing happens from outside in the ticks from one time until another.
pub record IsQuiet (schedule : Schedule) (from until : ℕ) : Type 0 where
  pub nothing : (t : ℕ) → from ≤ t → t < until → schedule t ≡ []

-- In a run in which nothing happens from outside during them, plain ticks of a sound board are ticks of the model.
abbrev pub StretchShowsModel : Type 0
StretchShowsModel =
    (b : Shown) (e ticks : ℕ) (schedule : Schedule) → HasRunner b e → ArePlain b e ticks
    → IsQuiet schedule b.time (b.time + ticks)
    → world_of (stretched b e ticks) ≡ world_after_ticks schedule (world_of b) ticks

-- ---- what stays in a stretch

-- No deadline has come, and somebody runs: where nothing happens from outside, the world at the step of its next tick is
-- the world before the tick.
abbrev pub IsAtStep : World → Type 0
IsAtStep w = after_phase turn (served w) ≡ w

-- So it is with a sound board whose runner's next tick comes before any deadline.
abbrev pub RunnersAreAtSteps : Type 0
RunnersAreAtSteps =
    (b : Shown) (e : ℕ) → HasRunner b e → is_any_due b.revocations b.time ≡ false → IsAtStep (world_of b)

-- a later world has the same runner, and nobody has sent anything
pub record IsSteady (w later : World) : Type 0 where
  pub runner : running later.book.runner ≡ running w.book.runner
  pub count : later.count ≡ w.count
  pub sent : (e : ℕ) → (later.solos e).sent ≡ (w.solos e).sent

-- an act that calls nobody, and isn't an exception or a death
abbrev pub IsOwnAct : Act → Type 0
IsOwnAct Nothing = Unit {0}
IsOwnAct (Stores x) = Unit {0}
IsOwnAct act = ⊥

-- In its next tick the runner makes such an act, and it has more ticks left than this one.
pub record IsOwnTick (w : World) : Type 0 where
  pub acts : (e : ℕ) → running w.book.runner ≡ Some e → IsOwnAct (act_now w e)
  pub more : 1 < left_of w.book.runner

-- In so many ticks of a run from this board on nothing happens but steps of one environment, none of which sends or calls.
pub record AreSteady (b : Shown) (schedule : Schedule) (ticks : ℕ) : Type 0 where
  pub at_step : (k : ℕ) → k < ticks → IsAtStep (world_after_ticks schedule (world_of b) k)
  pub own : (k : ℕ) → k < ticks → IsOwnTick (world_after_ticks schedule (world_of b) k)
  pub stays : (k : ℕ) → k ≤ ticks → IsSteady (world_of b) (world_after_ticks schedule (world_of b) k)

-- So it is in plain ticks of a sound board in which nothing happens from outside.
abbrev pub StretchIsSteady : Type 0
StretchIsSteady =
    (b : Shown) (e ticks : ℕ) (schedule : Schedule) → HasRunner b e → ArePlain b e ticks
    → IsQuiet schedule b.time (b.time + ticks) → AreSteady b schedule ticks

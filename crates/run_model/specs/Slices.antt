-- The slices of an environment, by number.
use Rattle.std.specs.Prelude.{◌≡◌, ◌<◌, ◌+◌, ℕ, zero, suc, Bool, true, false, not, ◌&&◌, ◌||◌, if◌then◌else◌}
use Rattle.std.specs.List.{list_any}
use Rattle.world_model.specs.Book.{is_runner}
use Rattle.world_model.specs.Item.{Item, Start, Transfer}
use Rattle.run_model.specs.Run.{System, items_in, world_after}

-- whether an environment runs after so many ticks
abbrev pub runs_after : System → ℕ → ℕ → Bool
runs_after system e t = is_runner e (world_after system t).book.runner

-- a slice begins with these
abbrev pub begins_slice : Item → Bool
begins_slice Start = true
begins_slice (Transfer from kind registers) = true
begins_slice item = false

abbrev pub begins_in : System → ℕ → ℕ → Bool
begins_in system e t = list_any begins_slice (items_in system t e)

-- A slice of the environment ends in a tick: it runs before the tick or begins one in it, and doesn't run behind it.
abbrev pub ends_in : System → ℕ → ℕ → Bool
ends_in system e t = (runs_after system e t || begins_in system e t) && not (runs_after system e (suc t))

-- how many slices of the environment have ended in the ticks below this one
abbrev pub slices : System → ℕ → ℕ → ℕ
slices system e zero = 0
slices system e (suc t) = slices system e t + (if ends_in system e t then 1 else 0)

-- So many ticks end the environment's slice of this number: they are the fewest in which so many have ended.
pub record IsEndOf (system : System) (e n t : ℕ) : Type 0 where
  pub reached : slices system e t ≡ n
  pub fewest : (u : ℕ) → u < t → slices system e u < n

-- Behind them the environment doesn't run,
abbrev pub SlicesEndStopped : Type 0
SlicesEndStopped = (system : System) (e n t : ℕ) → IsEndOf system e n t → runs_after system e t ≡ false

-- and in the last of them a slice ends.
abbrev pub SlicesEndLast : Type 0
SlicesEndLast = (system : System) (e n t : ℕ) → IsEndOf system e n (suc t) → ends_in system e t ≡ true

-- Pressure takes an environment's pages slowly.
use Rattle.std.specs.Prelude.{◌≡◌, ◌≢◌, ◌≤◌, ◌<◌, ◌+◌, ◌*◌, ℕ, Option, Some, slice_get, ◌⊎◌}
use Rattle.external_event.specs.declared.event.Occurrence.TheVariants as outside
use Rattle.world_model.specs.Event.{Schedule}
use Rattle.world_model.specs.Item.{Taken}
use Rattle.run_model.specs.Run.{System, items_in}

-- no revocation of the schedule names the environment up to this tick
abbrev pub IsUnasked : Schedule → ℕ → ℕ → Type 0
IsUnasked schedule e last = (t k count grace : ℕ) → t ≤ last
    → slice_get (schedule t) k ≢ Some (outside.Revoke e count grace)

-- item n of tick t is given before item m of tick u
abbrev pub Precedes : ℕ → ℕ → ℕ → ℕ → Type 0
Precedes t n u m = (t < u) ⊎ ((t ≡ u) × (n < m))

-- If no revocation names an environment, only others' calls ask it for pages. Then a page is taken from it two quanta
-- after the one before, at the earliest.
abbrev pub PressureIsSlow : Type 0
PressureIsSlow = (system : System) (t n u m e page other : ℕ) (backup copy : Option ℕ) → IsUnasked system.schedule e u
    → slice_get (items_in system t e) n ≡ Some (Taken page backup)
    → slice_get (items_in system u e) m ≡ Some (Taken other copy)
    → Precedes t n u m → t + 2 * system.image.quantum ≤ u

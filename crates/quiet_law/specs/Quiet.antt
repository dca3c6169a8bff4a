-- An environment that asks nothing of others, and of which nobody asks anything.
use Rattle.std.specs.Prelude.{◌≡◌, ◌<◌, ℕ, Bool, true, false, ◌==◌, Option, None}
use Rattle.std.specs.List.{list_any}
use Rattle.external_event.specs.declared.event.Occurrence.{Occurrence}
use Rattle.external_event.specs.declared.event.Occurrence.TheVariants as outside
use Rattle.page_book.specs.Row.{is_owned_by}
use Rattle.world_model.specs.declared.call.Call.{Call}
use Rattle.world_model.specs.Step.{Calls}
use Rattle.run_model.specs.Acting.{Acts}
use Rattle.run_model.specs.Boot.{boot_items, boot_world}
use Rattle.run_model.specs.Run.{System, at_step, feed, world_after}
use Rattle.quiet_law.specs.Alone.{is_quiet_call, quiet_excess, quiet_feed}
use Rattle.run_model.specs.Slices.{IsEndOf}

-- whether a revocation names the environment
abbrev pub is_asking : ℕ → Occurrence → Bool
is_asking e (outside.Packet packet) = false
is_asking e (outside.Line line) = false
is_asking e (outside.Revoke env count grace) = env == e

-- In the ticks below t all calls of the environment are quiet, and no revocation of the schedule names it; and it
-- accepts nobody at boot.
pub record IsQuiet (system : System) (e t : ℕ) : Type 0 where
  pub calls : (u : ℕ) (call : Option Call) → u < t → Acts (at_step system u) e (Calls call)
      → is_quiet_call ((at_step system u).solos e).cpu call ≡ true
  pub accepts_nobody : ((boot_world system.image).solos e).mask ≡ 0
  pub unasked : (u : ℕ) → u < t → list_any (is_asking e) (system.schedule u) ≡ false

-- So it accepts nobody after them, and has no page but its guaranteed ones.
pub record HasOwnPagesAlone (system : System) (e t : ℕ) : Type 0 where
  pub accepts_nobody : ((world_after system t).solos e).mask ≡ 0
  pub owns_none : (page : ℕ) → is_owned_by e ((world_after system t).book.pages page) ≡ false
  pub sees_none : (page : ℕ) → ((world_after system t).solos e).seen page ≡ None

abbrev pub QuietHasOwnPagesAlone : Type 0
QuietHasOwnPagesAlone = (system : System) (e t : ℕ) → 0 < system.image.quantum → IsQuiet system e t
    → HasOwnPagesAlone system e t

-- Where t ticks end the slice n of an environment that is quiet in them, its feed is what it makes alone of what it is
-- given at boot, the quantum and n.
abbrev pub QuietIsAlone : Type 0
QuietIsAlone = (system : System) (e n t : ℕ) → 0 < system.image.quantum → IsQuiet system e t → IsEndOf system e n t
    → feed system e t ≡ quiet_feed e (boot_items system.image e) system.image.quantum n

-- and so is what it owes then
abbrev pub QuietOwesAlone : Type 0
QuietOwesAlone = (system : System) (e n t : ℕ) → 0 < system.image.quantum → IsQuiet system e t → IsEndOf system e n t
    → (world_after system t).book.excess e ≡ quiet_excess e (boot_items system.image e) system.image.quantum n

-- In each of two systems an environment is quiet in so many ticks, and it is given the same at boot, and has one
-- quantum.
pub record IsQuietInBoth (left right : System) (e t u : ℕ) : Type 0 where
  pub record_same : boot_items left.image e ≡ boot_items right.image e
  pub quantum_same : left.image.quantum ≡ right.image.quantum
  pub quantum_some : 0 < left.image.quantum
  pub left_quiet : IsQuiet left e t
  pub right_quiet : IsQuiet right e u

-- Where these end its slice n, its feeds up to there are the same, whatever else the systems are.
abbrev pub QuietIsSame : Type 0
QuietIsSame = (left right : System) (e n t u : ℕ) → IsQuietInBoth left right e t u
    → IsEndOf left e n t → IsEndOf right e n u → feed left e t ≡ feed right e u

abbrev pub QuietOwesSame : Type 0
QuietOwesSame = (left right : System) (e n t u : ℕ) → IsQuietInBoth left right e t u
    → IsEndOf left e n t → IsEndOf right e n u
    → (world_after left t).book.excess e ≡ (world_after right u).book.excess e

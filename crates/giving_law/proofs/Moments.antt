-- What holds at boot, and is kept by each phase of a tick, holds at each moment.
use Rattle.std.proofs.Common.{◌≡◌, ℕ, zero, suc, Bool, true, false, Option, Some, None, refl, sym, ap, subst}
use Rattle.std.specs.Prelude.{if◌then◌else◌, slice_get}
use Rattle.external_event.specs.declared.event.Occurrence.{Occurrence}
use Rattle.revocation_book.specs.declared.revocation.Taking.{Taking}
use Rattle.world_model.specs.Book.{is_idle_book}
use Rattle.world_model.specs.Deadlines.{settles, takes}
use Rattle.world_model.specs.Event.{happen}
use Rattle.world_model.specs.Tick.{step, timer, turn}
use Rattle.world_model.specs.World.{World, Reply, after, run_phases}
use Rattle.run_model.specs.Boot.{boot_world}
use Rattle.run_model.specs.Run.{System, happens_in, moment, next_phases, phases_in, takings_in, world_after}
use Rattle.run_model.proofs.Phases.{next_moment, of_each, once_more, tick_moment}

abbrev pub Keeps : (World → Type 0) → (World → Reply) → Type 0
Keeps P phase = (w : World) → P w → P (after w (phase w))

module _ (P : World → Type 0) (events : (what : Occurrence) → Keeps P (happen what)) (takings : (x : Taking) → Keeps P (takes x)) (ends : Keeps P settles) (turns : Keeps P turn) (steps : Keeps P step) (times : Keeps P timer) (system : System) where
  once : (w : World) (o : Option (World → Reply)) → ((phase : World → Reply) → o ≡ Some phase → Keeps P phase) → P w → P (once_more w o)
  once w None keeps was = was
  once w (Some phase) keeps was = keeps phase refl w was

  in_tick : (t : ℕ) → P (world_after system t) → (k : ℕ) → P (moment system t k)
  in_tick t first zero = first
  in_tick t first (suc k) =
      let w = world_after system t in
      subst P (sym (next_moment system t k))
      (once (moment system t k) (slice_get (next_phases system.schedule w) k) (of_each (Keeps P) events takings ends turns steps times (happens_in system.schedule w) (takings_in system t) k) (in_tick t first k))

  after_tick : (t : ℕ) → P (world_after system t) → (idle : Bool) → is_idle_book (world_after system t).book ≡ idle → P (world_after system (suc t))
  after_tick t was true idle =
      let w = world_after system t in
      let stays : world_after system (suc t) ≡ w = ap (λ (stays : Bool). if stays then w else run_phases w (next_phases system.schedule w)) idle in
      subst P (sym stays) was
  after_tick t was false busy = subst P (sym (tick_moment system t busy)) (in_tick t was (phases_in system t))

  after_all : P (boot_world system.image) → (t : ℕ) → P (world_after system t)
  after_all boots zero = boots
  after_all boots (suc t) = after_tick t (after_all boots t) (is_idle_book (world_after system t).book) refl

  pub each_moment : P (boot_world system.image) → (t k : ℕ) → P (moment system t k)
  each_moment boots t k = in_tick t (after_all boots t) k

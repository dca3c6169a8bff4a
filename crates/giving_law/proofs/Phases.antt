-- What is licensed is given, and once, in each phase of a tick and at boot.
use Rattle.std.proofs.Common.{◌≡◌, ℕ, zero, suc, List, [], ◌∷◌, take, Option, Some, None, refl, sym, ◌∙◌, ap, subst}
use Rattle.std.specs.Prelude.{slice_get}
use Rattle.boot_image.specs.ImageValue.{ProgramValue}
use Rattle.external_event.specs.declared.event.Occurrence.{Occurrence}
use Rattle.revocation_book.specs.declared.revocation.Taking.{Taking}
use Rattle.world_model.specs.Deadlines.{takes}
use Rattle.world_model.specs.Event.{happen}
use Rattle.world_model.specs.Item.{Item, Boot, absorb_all}
use Rattle.world_model.specs.Solo.{absent}
use Rattle.world_model.specs.Tick.{phases_after, tick_phases}
use Rattle.world_model.specs.World.{World, Reply, after, run_phases}
use Rattle.run_model.specs.Boot.{record_items}
use Rattle.run_model.specs.Licensed.{LicensedBehind, LicensedIn}
use Rattle.run_model.specs.Run.{System, given_by, happens_in, moment, next_phases, takings_in, world_after}
use Rattle.run_model.proofs.Phases.{of_each}
use Rattle.sharing_law.specs.Agreement.{PagesEnd}
use Rattle.giving_law.specs.Giving.{BootsByImage, IsBooted, LicensedIsGiven, RecordIsGiven}
use Rattle.giving_law.proofs.Places.{Has}
use Rattle.giving_law.proofs.Rising.{RisesFrom, at_one_place, none_rises}
use Rattle.giving_law.proofs.Ticking.{HasTicks, moment_ticks}
use Rattle.giving_law.proofs.Given.{PagesEndIn, event_given, step_given, taking_given, timer_given, turn_given}
use Rattle.giving_law.proofs.Once.{event_rises, settling_rises, step_rises, taking_rises, timer_rises, turn_rises}

module _ (system : System) (t : ℕ) where
  -- behind the events
  behind_given : (xs : List Taking) (w : World) (k e : ℕ) (item : Item) → (let m = run_phases w (take k (tick_phases xs)) in
      HasTicks m.book.runner → PagesEndIn m → LicensedBehind system t xs k m e item → Has (given_by m (slice_get (tick_phases xs) k) e) item)
  behind_given [] w zero e item ticks ends its = absurd its
  behind_given [] w (suc zero) e item ticks ends its = turn_given (run_phases w (take 1 (tick_phases []))) e item its
  behind_given [] w (suc (suc zero)) e item ticks ends its = step_given system t (run_phases w (take 2 (tick_phases []))) e ends item its
  behind_given [] w (suc (suc (suc zero))) e item ticks ends its = timer_given (run_phases w (take 3 (tick_phases []))) e ticks ends item its
  behind_given [] w (suc (suc (suc (suc k)))) e item ticks ends its = absurd its
  behind_given (x ∷ xs) w zero e item ticks ends its = taking_given x w e item its
  behind_given (x ∷ xs) w (suc k) e item ticks ends its = behind_given xs (after w (takes x w)) k e item ticks ends its

  phase_given : (happens : List Occurrence) (xs : List Taking) (w : World) (k e : ℕ) (item : Item) → (let m = run_phases w (take k (phases_after happens xs)) in
      HasTicks m.book.runner → PagesEndIn m → LicensedIn system t happens xs k m e item → Has (given_by m (slice_get (phases_after happens xs) k) e) item)
  phase_given [] xs w k e item ticks ends its = behind_given xs w k e item ticks ends its
  phase_given (what ∷ happens) xs w zero e item ticks ends its = event_given what w e item its
  phase_given (what ∷ happens) xs w (suc k) e item ticks ends its = phase_given happens xs (after w (happen what w)) k e item ticks ends its

-- what each phase gives rises
abbrev Rising : (World → Reply) → Type 0
Rising phase = (w : World) (e : ℕ) → RisesFrom 0 ((phase w).items e)

given_rises : (w : World) (o : Option (World → Reply)) (e : ℕ) → ((phase : World → Reply) → o ≡ Some phase → Rising phase) → RisesFrom 0 (given_by w o e)
given_rises w None e rising = none_rises 0
given_rises w (Some phase) e rising = rising phase refl w e

pub licensed_is_given : PagesEnd → LicensedIsGiven
licensed_is_given ends system t k e item some licence =
    let w = world_after system t in
    let m = moment system t k in
    let phases = next_phases system.schedule w in
    let happens = happens_in system.schedule w in
    let xs = takings_in system t in
    let has = phase_given system t happens xs w k e item (moment_ticks system some t k).runner (λ page. ends system t k page) licence in
    let rises = given_rises m (slice_get phases k) e (of_each Rising event_rises taking_rises settling_rises turn_rises step_rises timer_rises happens xs k) in
    record {
      place = has.0;
      there = has.1;
      once = λ n is. at_one_place 0 rises.0 (given_by m (slice_get phases k) e) n has.0 item rises.1 is has.1;
    }

pub record_is_given : RecordIsGiven
record_is_given image e (Boot version number name entry accept kept) its =
    ap (record_items image.version e) its.there
    ∙ (λ k. Boot (sym its.version_is k) (sym its.number_is k) (sym its.name_is k) (sym its.entry_is k) (sym its.accept_is k) (sym its.kept_is k) ∷ [])
record_is_given image e item its = absurd its

pub boots_by_image : BootsByImage
boots_by_image system e p there =
    subst (λ (o : Option ProgramValue). IsBooted system.image e p (absorb_all (absent e) (record_items system.image.version e o))) (sym there)
    (record { version = refl; number = refl; name = refl; lives = refl; entry = refl; accepts = refl; kept = refl })

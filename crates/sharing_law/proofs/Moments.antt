-- The moments of a tick up to its step, and a tick that isn't made.
use Rattle.std.proofs.Common.{◌≡◌, ℕ, zero, suc, Bool, true, false, refl, sym, ap, subst}
use Rattle.std.specs.Prelude.{if◌then◌else◌}
use Rattle.world_model.specs.Book.{is_idle_book}
use Rattle.revocation_book.specs.Takings.{AreTakable, TakingsAreTakable}
use Rattle.world_model.specs.Deadlines.{takings}
use Rattle.world_model.specs.PageCalls.{revocations}
use Rattle.world_model.specs.World.{World, after, run_phases}
use Rattle.world_model.specs.Tick.{turn}
use Rattle.run_model.specs.Run.{System, at_deadlines, at_step, at_turn, happens_in, moment, next_phases, once_happened, phases_in, takings_in, world_after}
use Rattle.run_model.proofs.Phases.{moments_in_order, tick_moment}
use Rattle.sharing_law.proofs.Listing.{ListsLess, events_list, less_same, less_then, served_list}
use Rattle.sharing_law.proofs.Turning.{turn_alike}

module _ (system : System) (t : ℕ) where
  abbrev before : World
  before = world_after system t

  abbrev LessThan : World → World → Type 0
  LessThan w v = ListsLess w.book v.book

  -- up to the step nothing is listed that wasn't
  pub turned_lists : ListsLess before.book (at_step system t).book
  turned_lists =
      let order = moments_in_order system t in
      let early = at_deadlines system t in
      let late = at_turn system t in
      let turned = after late (turn late) in
      let happened = subst (LessThan before) (sym order.happened) (events_list (happens_in system.schedule before) before) in
      let serving = subst (LessThan early) (sym order.served) (served_list (takings early) early) in
      subst (LessThan before) (sym order.turned)
      (less_then before.book late.book turned.book (less_then before.book early.book late.book happened serving) (less_same late.book turned.book (turn_alike late).lists))

  -- an idle world stays as it is
  pub stays_idle : is_idle_book before.book ≡ true → world_after system (suc t) ≡ before
  stays_idle idle = ap (λ (stays : Bool). if stays then before else run_phases before (next_phases system.schedule before)) idle

  -- so what holds at each moment of a tick holds after it
  pub after_tick : (P : World → Type 0) → ((k : ℕ) → P (moment system t k)) → P (world_after system (suc t))
  after_tick P each = by_idle (is_idle_book before.book) refl
    where
      by_idle : (idle : Bool) → is_idle_book before.book ≡ idle → P (world_after system (suc t))
      by_idle true idle = subst P (sym (stays_idle idle)) (each 0)
      by_idle false busy = subst P (sym (tick_moment system t busy)) (each (phases_in system t))

-- What holds at boot, and at the next moment where it holds at one, holds at each moment of every tick.
module _ (P : World → Type 0) (system : System) (next : (t k : ℕ) → P (moment system t k) → P (moment system t (suc k))) where
  in_tick : (t : ℕ) → P (world_after system t) → (k : ℕ) → P (moment system t k)
  in_tick t first zero = first
  in_tick t first (suc k) = next t k (in_tick t first k)

  pub each_moment : P (world_after system zero) → (t k : ℕ) → P (moment system t k)
  each_moment first zero k = in_tick zero first k
  each_moment first (suc t) k = in_tick (suc t) (after_tick system t P (each_moment first t)) k

-- what is taken in a tick may be taken, one after another
pub taken_may : TakingsAreTakable → (system : System) (t : ℕ) → (let v = once_happened system.schedule (world_after system t) in AreTakable (revocations v.book) v.book.time (takings_in system t))
taken_may takable system t = let v = once_happened system.schedule (world_after system t) in takable (revocations v.book) v.book.time v.count

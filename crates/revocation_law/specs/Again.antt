-- What follows the answer 22: by the deadline the environment that was asked gives a page, or can't.
use Rattle.std.specs.Prelude.{◌≡◌, ◌≤◌, ◌<◌, ◌+◌, ◌*◌, ℕ, suc, true, false, Option, Some, slice_get, ◌⊎◌}
use Rattle.revocation_book.specs.declared.revocation.Pending.{Pending}
use Rattle.revocation_book.specs.Pending.{is_due}
use Rattle.revocation_book.specs.Richest.{revocable_pages}
use Rattle.world_model.specs.declared.call.Deed.TheVariants.{Frees}
use Rattle.world_model.specs.declared.verdict.Verdict.TheVariants.{Again}
use Rattle.world_model.specs.Book.{is_idle_book}
use Rattle.world_model.specs.Item.{Taken}
use Rattle.world_model.specs.PageCalls.{revocations}
use Rattle.world_model.specs.World.{World, is_living}
use Rattle.run_model.specs.Acting.{Does}
use Rattle.run_model.specs.Licensed.{IsAnswered}
use Rattle.run_model.specs.Run.{System, at_deadlines, at_step, items_in, world_after}
use Rattle.revocation_law.specs.Pressure.{IsUnasked}

-- the environment's deadline has come, and it has no page that may be taken
pub record HasNoneToGive (w : World) (e : ℕ) : Type 0 where
  pub due : is_due w.book.time (w.book.pending e) ≡ true
  pub none : revocable_pages (revocations w.book) e ≡ 0

-- In a tick the environment gives a page, or can't: it frees one, one is taken from it, it is dead after the tick, or it
-- has none to give at its deadline.
pub data GivesOrCannot (system : System) (t e : ℕ) : Type 0 where
  ByFree : (page : ℕ) → Does (at_step system t) e (Frees page) → GivesOrCannot system t e
  ByTaking : (n page : ℕ) (backup : Option ℕ) → slice_get (items_in system t e) n ≡ Some (Taken page backup)
      → GivesOrCannot system t e
  ByDeath : is_living (world_after system (suc t)) e ≡ false → GivesOrCannot system t e
  ByLack : HasNoneToGive (at_deadlines system t) e → GivesOrCannot system t e

-- it does so in one of the ticks after the first, up to the last
pub record IsRelieved (system : System) (first last e : ℕ) : Type 0 where
  pub tick : ℕ
  pub later : first < tick
  pub within : tick ≤ last
  pub relieves : GivesOrCannot system tick e

-- after a tick it has pages outstanding, and their deadline is still to come
pub record IsAwaited (system : System) (t e : ℕ) : Type 0 where
  pub p : Pending
  pub its : (world_after system (suc t)).book.pending e ≡ Some p
  pub later : t < p.deadline

-- Once a caller is answered 22, then by each later tick the environment that the answer names has given a page, or can't;
-- or its deadline is still to come.
abbrev pub AgainIsAwaited : Type 0
AgainIsAwaited = (system : System) (t caller e u : ℕ) → IsAnswered (at_step system t) caller (Again e) → t < u
    → is_idle_book (world_after system u).book ≡ false → IsRelieved system t u e ⊎ IsAwaited system u e

-- If no revocation of the schedule names it until then, it has given, or can't, two quanta later at the latest.
abbrev pub AgainHelps : Type 0
AgainHelps = (system : System) (t caller e : ℕ) → (let last = t + 2 * system.image.quantum in
    0 < system.image.quantum → IsAnswered (at_step system t) caller (Again e) → IsUnasked system.schedule e last
    → is_idle_book (world_after system last).book ≡ false → IsRelieved system t last e)

-- What an environment does in a step.
use Rattle.std.specs.Prelude.{◌≡◌, ℕ, Option, Some}
use Rattle.world_model.specs.declared.call.Call.{Call}
use Rattle.world_model.specs.declared.call.Deed.{Deed}
use Rattle.world_model.specs.declared.verdict.Verdict.TheVariants.{Grant}
use Rattle.world_model.specs.Book.{running}
use Rattle.world_model.specs.Call.{deed_of}
use Rattle.world_model.specs.Step.{Act, Calls}
use Rattle.world_model.specs.Tick.{act_now}
use Rattle.world_model.specs.Verdict.{verdict}
use Rattle.world_model.specs.World.{World}

-- in this world an environment runs, and its step comes to this
pub record Acts (w : World) (e : ℕ) (act : Act) : Type 0 where
  pub runs : running w.book.runner ≡ Some e
  pub comes : act_now w e ≡ act

-- its step is a call that is granted, and this is what it does
pub record Does (w : World) (e : ℕ) (deed : Deed) : Type 0 where
  pub call : Option Call
  pub acts : Acts w e (Calls call)
  pub value : ℕ
  pub granted : verdict w e call ≡ Grant value
  pub done : deed_of call value (w.solos e).cpu ≡ deed

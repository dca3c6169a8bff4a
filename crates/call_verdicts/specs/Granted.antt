-- What the world has where a call is granted, and where it is to be made again.
use Rattle.std.specs.Prelude.{◌≡◌, ℕ, Option}
use Rattle.world_model.specs.declared.call.Call.{Call}
use Rattle.world_model.specs.declared.verdict.Verdict.TheVariants.{Again, Grant}
use Rattle.world_model.specs.Call.{deed_of}
use Rattle.world_model.specs.May.{May, MayAsk}
use Rattle.world_model.specs.Verdict.{verdict}
use Rattle.world_model.specs.World.{World}

-- the deed of a call that is granted with a value presupposes nothing that the world lacks
abbrev pub GrantedMay : Type 0
GrantedMay =
    (w : World) (e : ℕ) (call : Option Call) (value : ℕ) → verdict w e call ≡ Grant value
    → May w e (deed_of call value (w.solos e).cpu)

-- a call that is to be made again asks another environment, which has the most to give
abbrev pub AgainAsks : Type 0
AgainAsks = (w : World) (e : ℕ) (call : Option Call) (who : ℕ) → verdict w e call ≡ Again who → MayAsk w e who

-- What an environment has written to its console, and sent, by two moments.
use Rattle.std.specs.Prelude.{◌⊎◌, ℕ}
use Rattle.world_model.specs.Solo.{Solo}
use Rattle.run_model.specs.Run.{System, world_after}
use Rattle.quiet_law.specs.Beginning.{IsBeginning}
use Rattle.quiet_law.specs.Quiet.{IsQuietInBoth}

-- the second has written what the first has, and then more; and so has it sent
pub record WroteOn (s t : Solo) : Type 0 where
  pub console : IsBeginning s.console t.console
  pub sent : IsBeginning s.sent t.sent

-- In two systems, at any tick of each, a quiet environment has written and sent in one what it has in the other, and
-- then more.
abbrev pub QuietWritesAlike : Type 0
QuietWritesAlike = (left right : System) (e t u : ℕ) → IsQuietInBoth left right e t u
    → (let one = (world_after left t).solos e in let other = (world_after right u).solos e in
    WroteOn one other ⊎ WroteOn other one)

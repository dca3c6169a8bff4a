-- What is lent of the environments.
use Rattle.std.specs.Prelude.{ℕ, slice_set}
use Rattle.std.specs.Borrow.{Lends, MutBor, Fml}
use Rattle.board_model.specs.declared.roster.Environment.{Environment}
use Rattle.board_model.specs.contracts.roster.Environment.{the_row as environment_row}
use Rattle.board_model.specs.contracts.roster.Roster.{the_row}
use Rattle.board_model.specs.Shown.{Environments, with_list}

-- the environments with another in the place of the one of this number
abbrev pub with_environment : Environments → ℕ → Environment → Environments
with_environment r e x = with_list r (slice_set r.list e x)

-- they end with the environment of this number as it is last behind x
abbrev pub LendsEnvironment : MutBor Environments → ℕ → MutBor Environment → Fml
LendsEnvironment r e x = Lends the_row environment_row r x (with_environment r.now e)

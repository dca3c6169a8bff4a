-- The limits of the numbers of ledgers and plans.
use Rattle.std.specs.Prelude.{ℕ, ◌-◌, ◌^◌}
use Rattle.aegis_limits.specs.Limits.{most_environments}

-- environments are numbered up to this
abbrev pub last_environment : ℕ
last_environment = most_environments - 1

-- any other number is below 2 ^ 32
abbrev pub most_number : ℕ
most_number = 2 ^ 32 - 1

-- the clients of a plan, and the share of each
abbrev pub least_clients : ℕ
least_clients = 2

abbrev pub most_clients : ℕ
most_clients = 8

abbrev pub most_share : ℕ
most_share = 12

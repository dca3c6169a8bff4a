-- The handlers of packets that environments have are verified.
use Rattle.std.specs.Prelude.{◌≡◌, ℕ, Bool, true, List, Option, None, Some, is_none}
use Rattle.std.specs.List.{list_all}
use Rattle.handler_rules.specs.Verification.{first_bad}
use Rattle.world_model.specs.Solo.{Ring}
use Rattle.run_model.specs.Run.{System, moment}

-- a handler, if there is one, has no bad word
abbrev pub is_verified : Option (List ℕ) → Bool
is_verified None = true
is_verified (Some words) = is_none (first_bad words)

abbrev pub are_verified : List Ring → Bool
are_verified rings = list_all (λ (r : Ring). is_verified r.handler) rings

-- So it is of each claim of each environment, at each moment of every run.
abbrev pub HandlersAreVerified : Type 0
HandlersAreVerified = (system : System) (t k e : ℕ) → are_verified ((moment system t k).solos e).rings ≡ true

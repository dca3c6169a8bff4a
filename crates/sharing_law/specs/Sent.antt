-- What environments send, by calls and by their handlers.
use Rattle.std.specs.Prelude.{◌≡◌, ◌≤◌, ℕ, nat_le, Bool, true, List, length}
use Rattle.std.specs.List.{list_all}
use Rattle.external_event.specs.Limits.{most_packet_size, most_sent}
use Rattle.run_model.specs.Run.{System, moment}

-- a packet has at most 1,514 bytes
abbrev pub is_short : List ℕ → Bool
is_short packet = nat_le (length packet) most_packet_size

-- at most 256 packets were sent, and each is so short
pub record IsSentWithin (sent : List (List ℕ)) : Type 0 where
  pub count : length sent ≤ most_sent
  pub sizes : list_all is_short sent ≡ true

-- so it is of every environment at each moment
abbrev pub SentIsWithin : Type 0
SentIsWithin = (system : System) (t k e : ℕ) → IsSentWithin ((moment system t k).solos e).sent

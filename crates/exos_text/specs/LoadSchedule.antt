-- The schedule of the load: a packet in every thousandth tick.
use Rattle.std.specs.Prelude.{ℕ, ◌+◌, ◌*◌, ◌/◌, ◌%◌, ◌^◌, List, ◌∷◌, map}
use Rattle.std.specs.List.{range_with_len}
use Rattle.external_event.specs.EventValue.{EventValue}
use Rattle.external_event.specs.declared.event.Occurrence.TheVariants.{Packet}
use Rattle.exos_text.specs.Draws.{drawn}

-- The packet of the 64 draws after a number. The first byte says whose it is: half of the numbers below 32 are those
-- of environments.
unfoldable pub load_packet : ℕ → List ℕ
load_packet x = drawn 1 x / 2 ^ 16 % 32 ∷ map (λ n. drawn n x / 2 ^ 24) (range_with_len 2 63)

-- the packet of this number, whose draws come after those of the quantum and of the packets before it
unfoldable pub load_event : ℕ → ℕ → EventValue
load_event seed i = record { time = 1000 * i; what = Packet (load_packet (drawn (1 + 64 * i) seed)) }

unfoldable pub load_events : ℕ → List EventValue
load_events seed = map (load_event seed) (range_with_len 0 1000)

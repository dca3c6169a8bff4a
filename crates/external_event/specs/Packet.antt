-- Packets.
use Rattle.std.specs.Prelude.{ℕ, ◌&&◌, nat_le, Bool, List, Option, Some, None, length, if◌then◌else◌}
use Rattle.external_event.specs.Limits.{most_packet_size}

-- whether so many bytes are a packet
abbrev pub is_packet : List ℕ → Bool
is_packet bytes = nat_le 1 (length bytes) && nat_le (length bytes) most_packet_size

-- the packet of these bytes, if they are one
abbrev pub packet_of : List ℕ → Option (List ℕ)
packet_of bytes = if is_packet bytes then Some bytes else None

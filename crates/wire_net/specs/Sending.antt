-- What machines send, as deliveries.
use Rattle.std.specs.Prelude.{ℕ, List, drop, filter, get_or, length}
use Rattle.external_event.specs.Packet.{is_packet}
use Rattle.board_model.specs.Shown.{Shown}
use Rattle.board_model.specs.Showing.{world_of}
use Rattle.wire_model.specs.Wire.{joined, sent_between}
use Rattle.wire_net.specs.declared.delivery.Delivery.{Delivery}
use Rattle.wire_net.specs.declared.sending.Route.{Route}
use Rattle.wire_net.specs.Delivery.{deliveries_of}

-- the packets among these, on their route
abbrev pub packets_sent : Route → List (List ℕ) → List Delivery
packets_sent route sent = deliveries_of route.sender route.time (filter is_packet sent)

-- what an environment of a board sent after the first ones, so many
abbrev pub sent_after : Shown → ℕ → ℕ → List (List ℕ)
sent_after b e known = drop known ((world_of b).solos e).sent

-- what each of them sent after those that are counted, by number of environment
abbrev pub all_sent_after : Shown → List ℕ → List (List ℕ)
all_sent_after b counts = joined (λ e. sent_after b e (get_or counts e 0)) (world_of b).count

-- what a machine sent from one of its boards to a later one, which is delivered at a time
abbrev pub sent_by : ℕ → ℕ → Shown → Shown → List Delivery
sent_by machine time old new = deliveries_of machine time (sent_between (world_of old) (world_of new))

-- what the first machines sent from these boards to later ones, so many, by number of machine; and what all of them did
abbrev pub sent_by_first : ℕ → ℕ → List Shown → List Shown → Shown → List Delivery
sent_by_first count time old new b = joined (λ i. sent_by i time (get_or old i b) (get_or new i b)) count

abbrev pub sent_by_all : ℕ → List Shown → List Shown → Shown → List Delivery
sent_by_all time old new b = sent_by_first (length old) time old new b

-- Packets that are under way, and those that are delivered.
use Rattle.std.specs.Prelude.{ℕ, ◌≡◌, ◌+◌, List, [], ◌∷◌, Bool, true, false, nat_le, nat_lt, min, ◌==◌, ◌&&◌, if◌then◌else◌, filter, map}
use Rattle.external_event.specs.declared.event.Occurrence.{Occurrence}
use Rattle.external_event.specs.declared.event.Occurrence.TheVariants as outside
use Rattle.wire_model.specs.Wire.{Frame, framed, comes_to}
use Rattle.wire_net.specs.declared.delivery.Delivery.{Delivery}
use Rattle.wire_net.specs.declared.delivery.Batch.{Batch}

-- the bytes of a packet that arrives
abbrev pub packet_in : Occurrence → List ℕ
packet_in (outside.Packet packet) = packet
packet_in (outside.Line line) = []
packet_in (outside.Revoke env count grace) = []

-- a frame that is delivered at a time
abbrev pub delivered_at : ℕ → Frame → Delivery
delivered_at time frame = record {
  sender = frame.sender;
  event = record { time = time; what = outside.Packet frame.packet };
}

-- what a machine sends is delivered at a time
abbrev pub deliveries_of : ℕ → ℕ → List (List ℕ) → List Delivery
deliveries_of sender time packets = map (λ (packet : List ℕ). delivered_at time (framed sender packet)) packets

-- what happens in a machine by those of these that are for it
abbrev pub is_delivery_for : ℕ → Delivery → Bool
is_delivery_for machine delivery = comes_to delivery.sender machine (packet_in delivery.event.what)

abbrev pub arriving : ℕ → List Delivery → List Occurrence
arriving machine due = map (λ (x : Delivery). x.event.what) (filter (is_delivery_for machine) due)

-- those of these batches that are due at a time
abbrev pub due_at : ℕ → List Batch → List Delivery
due_at time [] = []
due_at time (batch ∷ batches) = if batch.time == time then batch.deliveries.items else due_at time batches

-- whether the first of these is due at a time
abbrev pub is_due : ℕ → List Batch → Bool
is_due time [] = false
is_due time (batch ∷ batches) = batch.time == time

-- when the first of these arrives, or another time where that is earlier
abbrev pub first_arrival : ℕ → List Batch → ℕ
first_arrival limit [] = limit
first_arrival limit (batch ∷ batches) = min batch.time limit

-- whether times rise from one batch to the next, from this time on, and stay below another
abbrev pub rise_between : ℕ → ℕ → List Batch → Bool
rise_between least limit [] = true
rise_between least limit (batch ∷ batches) =
    nat_le least batch.time && (nat_lt batch.time limit && rise_between (batch.time + 1) limit batches)

-- so they do
abbrev pub Rise : ℕ → ℕ → List Batch → Type 0
Rise least limit batches = rise_between least limit batches ≡ true

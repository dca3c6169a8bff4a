-- Packets that come.
use Rattle.std.specs.Prelude.{ℕ, List, Option, Some, None}
use Rattle.filter_tree.specs.ClaimBook.{ClaimValue}
use Rattle.world_model.specs.ClaimCalls.{claim_of}
use Rattle.world_model.specs.Event.{ring_bytes}
use Rattle.world_model.specs.Rings.{ring_of}
use Rattle.world_model.specs.World.{World}
use Rattle.feed_telling.specs.declared.view.Arrival.{Arrival}

-- where the packets of a claim go
abbrev pub arrival_by : ClaimValue → Arrival
arrival_by c = record { env = c.env; claim = c.id; page = c.page }

-- all bytes of the ring page behind a packet for a claim; none where nobody claims it, or it is lost
abbrev pub page_left_for : World → List ℕ → Option ClaimValue → Option (List ℕ)
page_left_for w packet None = None
page_left_for w packet (Some c) = let s = w.solos c.env in ring_bytes s (ring_of s.rings c.id) packet

abbrev pub page_left_by : World → List ℕ → Option (List ℕ)
page_left_by w packet = page_left_for w packet (claim_of w.book packet)

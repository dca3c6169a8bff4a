-- An environment's claims: what it makes of the packets that come for them.
use Rattle.std.specs.Prelude.{ℕ, List, [], ◌∷◌, ◌++◌, Bool, not, ◌==◌, filter, find, map, take, if◌then◌else◌, Option, Some, None}
use Rattle.external_event.specs.Limits.{most_sent}
use Rattle.handler_rules.specs.Running.{HandlerRun, handler_run}
use Rattle.env_frames.specs.declared.post.PostWord.TheVariants as post
use Rattle.packet_ring.specs.declared.buffer.Buffer.TheVariants.{First}
use Rattle.packet_ring.specs.Ring.{is_full, other_buffer, with_packet}
use Rattle.world_model.specs.Post.{counted}
use Rattle.world_model.specs.Solo.{Solo, Store, Ring, Physical, bytes_of, with_store}

abbrev pub is_ring : ℕ → Ring → Bool
is_ring claim r = r.claim == claim

-- the ring of a claim, if the environment has such a claim
abbrev pub ring_of : List Ring → ℕ → Option Ring
ring_of rings claim = find (is_ring claim) rings

-- one claim more, whose first packet goes into the first buffer; it has no handler
abbrev pub with_ring : ℕ → ℕ → Solo → Solo
with_ring claim page s = record s {
  rings = s.rings ++ record { claim = claim; page = page; next = First; handler = None } ∷ [];
}

-- without a claim
abbrev pub without_ring : ℕ → Solo → Solo
without_ring claim s = record s { rings = filter (λ (r : Ring). not (is_ring claim r)) s.rings }

-- the two buffers of a claim take turns
abbrev pub ring_after_packet : Ring → Ring
ring_after_packet r = record r { next = other_buffer r.next }

abbrev pub ring_after_packet_if : ℕ → Ring → Ring
ring_after_packet_if claim r = if is_ring claim r then ring_after_packet r else r

-- the handler of a claim is this from now on, or it has none
abbrev pub ring_with_handler : Option (List ℕ) → Ring → Ring
ring_with_handler handler r = record r { handler = handler }

abbrev pub ring_with_handler_if : ℕ → Option (List ℕ) → Ring → Ring
ring_with_handler_if claim handler r = if is_ring claim r then ring_with_handler handler r else r

abbrev pub with_ring_handler : ℕ → Option (List ℕ) → Solo → Solo
with_ring_handler claim handler s = record s { rings = map (ring_with_handler_if claim handler) s.rings }

-- What becomes of a packet at the ring of its claim: it is lost; or it goes into the buffer whose turn it is, which
-- leaves this of the ring page; or the claim's handler takes it, which leaves this of the page and makes these
-- replies.
pub data Reception : Type 0 where
  Loses : Reception
  Queues : (page : List ℕ) → Reception
  Handles : (page : List ℕ) (replies : List (List ℕ)) → Reception

-- without a handler, the packet is lost where the buffer whose turn it is is full
abbrev pub reception_queued : Ring → List ℕ → List ℕ → Reception
reception_queued r packet page = if is_full page r.next then Loses else Queues (with_packet page r.next packet)

abbrev pub reception_run : HandlerRun → Reception
reception_run run = Handles run.page run.replies

abbrev pub reception_by : Option (List ℕ) → Ring → List ℕ → List ℕ → Reception
reception_by None r packet page = reception_queued r packet page
reception_by (Some words) r packet page = reception_run (handler_run words packet r.claim page)

abbrev pub reception : Solo → Ring → List ℕ → Reception
reception s r packet = reception_by r.handler r packet (bytes_of s (Physical r.page))

-- all bytes of the ring page after it, unless the packet is lost
abbrev pub page_left : Reception → Option (List ℕ)
page_left Loses = None
page_left (Queues page) = Some page
page_left (Handles page replies) = Some page

-- a page of which all bytes are stored
abbrev pub page_store : ℕ → List ℕ → Store
page_store page bytes = record { key = Physical page; offset = 0; bytes = bytes }

-- the packets that an environment sent, with a handler's replies; those that find 256 are dropped
abbrev pub sent_with_replies : List (List ℕ) → List (List ℕ) → List (List ℕ)
sent_with_replies sent replies = take most_sent (sent ++ replies)

-- A packet that is lost is counted so. One that goes into the ring is a store of the ring page, and the other buffer
-- is next. One that a handler takes is a store of the ring page too; the buffer whose turn it is stays, and the
-- replies are sent.
abbrev pub after_reception : Ring → Reception → Solo → Solo
after_reception r Loses s = counted post.Lost s
after_reception r (Queues page) s = record (with_store (page_store r.page page) s) {
  rings = map (ring_after_packet_if r.claim) s.rings;
}
after_reception r (Handles page replies) s = record (with_store (page_store r.page page) s) {
  sent = sent_with_replies s.sent replies;
}

abbrev pub after_packet_in : Option Ring → List ℕ → Solo → Solo
after_packet_in None packet s = s
after_packet_in (Some r) packet s = after_reception r (reception s r packet) s

-- A packet that is claimed is counted, and then goes to the ring of its claim.
abbrev pub after_packet : ℕ → List ℕ → Solo → Solo
after_packet claim packet s = after_packet_in (ring_of s.rings claim) packet (counted post.Packets s)

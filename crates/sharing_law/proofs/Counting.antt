-- What a packet does to the context page of whose claim it is for: it is counted there.
use Rattle.std.proofs.Common.{◌≡◌, ℕ, Bool, true, false, List, Option, Some, None, ◌⊎◌, refl}
use Rattle.std.specs.Prelude.{◌&&◌, if◌then◌else◌, is_none}
use Rattle.handler_rules.specs.Running.{handler_run}
use Rattle.packet_ring.specs.Ring.{is_full, with_packet}
use Rattle.env_frames.specs.declared.post.PostWord.TheVariants as post
use Rattle.world_model.specs.Post.{counted}
use Rattle.world_model.specs.Rings.{Loses, Queues, after_packet, after_reception, reception_by, after_packet_in, ring_of}
use Rattle.world_model.specs.Solo.{Solo, Ring, Physical, bytes_of}
use Rattle.world_model.proofs.Stores.{kept_as_was}
use Rattle.sharing_law.specs.Change.{HasCounts, kept_bytes, counted_page, is_lost_in, packet_counted}
use Rattle.sharing_law.proofs.Contexts.{Rewrites, count_rewrites, rewrites_none, rewrites_or, rewrites_then}

-- A packet is counted once, and once more if it is lost.
module _ (s : Solo) where
  abbrev once : Solo
  once = counted post.Packets s

  abbrev twice : Solo
  twice = counted post.Lost once

  abbrev counted_if : Bool → Solo
  counted_if false = once
  counted_if true = twice

  abbrev IsCounted : Bool → Solo → Type 0
  IsCounted lost t = t.kept ≡ (counted_if lost).kept

  queued_counted : (r : Ring) (lost : Bool) (bytes : List ℕ) → IsCounted lost (after_reception r (if lost then Loses else Queues bytes) once)
  queued_counted r true bytes = refl
  queued_counted r false bytes = kept_as_was once.kept r.page 0 bytes

  by_handler : (handler : Option (List ℕ)) (r : Ring) (packet page : List ℕ) → IsCounted (is_none handler && is_full page r.next) (after_reception r (reception_by handler r packet page) once)
  by_handler None r packet page = queued_counted r (is_full page r.next) (with_packet page r.next packet)
  by_handler (Some words) r packet page = kept_as_was once.kept r.page 0 (handler_run words packet r.claim page).page

  received_counted : (ring : Option Ring) (packet : List ℕ) → IsCounted (is_lost_in s ring) (after_packet_in ring packet once)
  received_counted None packet = refl
  received_counted (Some r) packet = by_handler r.handler r packet (bytes_of s (Physical r.page))

  counts_rewrite : (lost : Bool) → Rewrites s (counted_if lost) (packet_counted lost)
  counts_rewrite false = count_rewrites post.Packets s
  counts_rewrite true = rewrites_then s once twice (counted_page post.Packets) (counted_page post.Lost) (count_rewrites post.Packets s) (count_rewrites post.Lost once)

  module _ (claim : ℕ) (packet : List ℕ) where
    abbrev lost : Bool
    lost = is_lost_in s (ring_of s.rings claim)

    abbrev now : Solo
    now = after_packet claim packet s

    packet_rewrites : Rewrites s now (packet_counted lost)
    packet_rewrites = rewrites_then s (counted_if lost) now (packet_counted lost) (λ page. page) (counts_rewrite lost) (rewrites_none (counted_if lost) now (received_counted (ring_of s.rings claim) packet))

    pub packet_counts : (vpn : ℕ) → (kept_bytes now vpn ≡ kept_bytes s vpn) ⊎ HasCounts s now vpn claim
    packet_counts = rewrites_or s now (packet_counted lost) packet_rewrites

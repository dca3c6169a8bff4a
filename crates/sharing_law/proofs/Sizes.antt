-- Allocated pages have all their bytes, where packets are within their limits.
use Rattle.std.proofs.Common.{◌≡◌, ◌≤◌, ◌+◌, ℕ, zero, suc, List, [], ◌∷◌, ◌++◌, length, true, false, Some, inl, inr, sym, ◌∙◌, ap, subst, arith, length-append}
use Rattle.std.proofs.lemmas.Grind.{common_steps}
use Rattle.std.specs.Prelude.{nat_le, slice_get}
use Rattle.std.specs.List.{All}
use Rattle.std.proofs.lemmas.Bool.{and_parts, leb-true}
use Rattle.std.proofs.lemmas.List.{length-drop, length-replicate, length-take}
use Rattle.aegis_limits.specs.Limits.{page_size}
use Rattle.external_event.specs.declared.event.Occurrence.{Occurrence}
use Rattle.external_event.specs.declared.event.Occurrence.TheVariants as outside
use Rattle.external_event.specs.Limits.{most_packet_size}
use Rattle.frame_store.specs.Pages.{with_bytes, word_bytes, zero_page}
use Rattle.handler_rules.specs.Laws.{RunsKeepLimits}
use Rattle.packet_ring.specs.declared.buffer.Buffer.{Buffer}
use Rattle.packet_ring.specs.declared.buffer.Buffer.TheVariants.{First, Second}
use Rattle.packet_ring.specs.Ring.{buffer_offset}
use Rattle.page_book.specs.Row.{is_owned_by}
use Rattle.revocation_book.specs.declared.revocation.Taking.{Taking}
use Rattle.revocation_book.specs.Takings.{TakingsAreTakable}
use Rattle.world_model.specs.Item.{Packet}
use Rattle.world_model.specs.PageCalls.{page_bytes}
use Rattle.world_model.specs.World.{World}
use Rattle.call_verdicts.specs.Granted.{AgainAsks, GrantedMay}
use Rattle.run_model.specs.Licensed.{AtEvent, GivenIsLicensed, LicensedAt, LicensedBehind, LicensedIn}
use Rattle.run_model.specs.Run.{System, given_at, happens_in, moment, takings_in, world_after}
use Rattle.sharing_law.specs.Change.{IsStoredTo}
use Rattle.sharing_law.specs.Delivery.{IsCopied, IsDelivered}
use Rattle.sharing_law.specs.Whole.{CopiesAreWhole, AreEventsWithinLimits, PagesAreWhole}
use Rattle.sharing_law.proofs.Agreeing.{none_owned}
use Rattle.sharing_law.proofs.Allocated.{becomes}
use Rattle.sharing_law.proofs.Delivering.{owner_sees}
use Rattle.sharing_law.proofs.Handling.{filled_whole}
use Rattle.sharing_law.proofs.Moments.{each_moment}
use Rattle.page_laws.proofs.Stores.{stored_within}

-- bytes within a page leave its length
pub with_length : (page : List ℕ) (offset : ℕ) (bytes : List ℕ) → offset + length bytes ≤ length page → length (with_bytes page offset bytes) ≡ length page
with_length page offset bytes within = grind (arith, common_steps, length-append, length-take, length-drop)

pub zero_length : length zero_page ≡ page_size
zero_length = length-replicate {A = ℕ} page_size 0

-- a packet within its limits fits in each buffer
packet_fits : (buffer : Buffer) (packet : List ℕ) → length packet ≤ most_packet_size → buffer_offset buffer + length (word_bytes (length packet) ++ packet) ≤ page_size
packet_fits First packet short = omega (arith, length-append (word_bytes (length packet)) packet, short)
packet_fits Second packet short = omega (arith, length-append (word_bytes (length packet)) packet, short)

-- all pages of a world that are owned have all their bytes
abbrev IsWhole : World → Type 0
IsWhole w = (owner page : ℕ) → is_owned_by owner (w.book.pages page) ≡ true → length (page_bytes w page) ≡ page_size

-- A packet that is given in a phase is one that happens in the tick.
packet_behind : (system : System) (t : ℕ) (xs : List Taking) (k : ℕ) (w : World) (e claim : ℕ) (packet : List ℕ) → LicensedBehind system t xs k w e (Packet claim packet) → ⊥
packet_behind system t [] (suc (suc (suc (suc k)))) w e claim packet its = its
packet_behind system t [] k w e claim packet its = its
packet_behind system t (x ∷ xs) zero w e claim packet its = its
packet_behind system t (x ∷ xs) (suc k) w e claim packet its = packet_behind system t xs k w e claim packet its

packet_by : (what : Occurrence) (w : World) (e claim : ℕ) (packet : List ℕ) → AtEvent what w e (Packet claim packet) → what ≡ outside.Packet packet
packet_by what w e claim packet its = grind (arith, common_steps)

packet_in : (system : System) (t : ℕ) (happens : List Occurrence) (xs : List Taking) (k : ℕ) (w : World) (e claim : ℕ) (packet : List ℕ) → LicensedIn system t happens xs k w e (Packet claim packet) → slice_get happens k ≡ Some (outside.Packet packet)
packet_in system t [] xs k w e claim packet its = absurd (packet_behind system t xs k w e claim packet its)
packet_in system t (what ∷ happens) xs zero w e claim packet its = ap Some (packet_by what w e claim packet its)
packet_in system t (what ∷ happens) xs (suc k) w e claim packet its = packet_in system t happens xs k w e claim packet its

module _ (granted : GrantedMay) (again : AgainAsks) (takable : TakingsAreTakable) (licensed : GivenIsLicensed) (runs : RunsKeepLimits) (system : System) (within : AreEventsWithinLimits system.schedule) where
  packet_short : (t k e claim : ℕ) (packet : List ℕ) → given_at system t k e ≡ Packet claim packet ∷ [] → length packet ≤ most_packet_size
  packet_short t k e claim packet given =
      let w = world_after system t in
      let each : All (LicensedAt system t k e) (Packet claim packet ∷ []) = subst (All (LicensedAt system t k e)) given (licensed system t k e) in
      let its : LicensedIn system t (happens_in system.schedule w) (takings_in system t) k (moment system t k) e (Packet claim packet) = each 0 (Packet claim packet) (omega arith) in
      let limits = within w.book.time k (outside.Packet packet) (packet_in system t (happens_in system.schedule w) (takings_in system t) k (moment system t k) e claim packet its) in
      leb-true (length packet) most_packet_size (and_parts (nat_le 1 (length packet)) (nat_le (length packet) most_packet_size) limits).1

  module _ (t k : ℕ) (whole : IsWhole (moment system t k)) where
    abbrev m : World
    m = moment system t k

    abbrev next : World
    next = moment system t (suc k)

    abbrev HasSize : ℕ → Type 0
    HasSize page = length (page_bytes next page) ≡ page_size

    stored_whole : (page owner : ℕ) → is_owned_by owner (m.book.pages page) ≡ true → IsStoredTo system t k page → HasSize page
    stored_whole page owner owns stored = grind (arith, common_steps, stored_within, with_length)

    delivered_whole : (page owner : ℕ) → is_owned_by owner (m.book.pages page) ≡ true → IsDelivered system t k page owner → HasSize page
    delivered_whole page owner owns delivered = grind (arith, owner_sees, packet_fits, packet_short, with_length)

    copy_is : (page owner : ℕ) (copied : IsCopied system t k page owner) → page_bytes next page ≡ page_bytes m copied.taken
    copy_is page owner copied = grind (arith, common_steps, filled_whole)

    next_whole : IsWhole next
    next_whole owner page owns = elim (becomes granted again takable system t k page owner owns) [
      | inl stays ↦ ap length stays.1 ∙ whole owner page stays.0
      | inr other ↦ elim other [
        | inl changed ↦ elim changed.1 [
          | inl stored ↦ stored_whole page owner changed.0 stored
          | inr put ↦ elim put [ inl delivered ↦ delivered_whole page owner changed.0 delivered | inr copied ↦ ap length (copy_is page owner copied) ∙ whole owner copied.taken copied.from ]
        ]
        | inr taken ↦ ap length taken.zeros ∙ zero_length
      ]
    ]

  all_whole : (t k : ℕ) → IsWhole (moment system t k)
  all_whole = each_moment IsWhole system next_whole (λ owner page owns. let never : false ≡ true = sym (none_owned system.image owner page) ∙ owns in cc)

pub pages_are_whole : GrantedMay → AgainAsks → TakingsAreTakable → GivenIsLicensed → RunsKeepLimits → PagesAreWhole
pages_are_whole granted again takable licensed runs system t k page owner within owns = all_whole granted again takable licensed runs system within t k owner page owns

pub copies_are_whole : GrantedMay → AgainAsks → TakingsAreTakable → GivenIsLicensed → RunsKeepLimits → CopiesAreWhole
copies_are_whole granted again takable licensed runs system t k page owner within copied =
    copy_is granted again takable licensed runs system within t k (all_whole granted again takable licensed runs system within t k) page owner copied

-- A packet that is claimed: what each environment sees once it is in its ring.
use Rattle.std.proofs.Common.{◌≡◌, ◌≢◌, ◌≤◌, ℕ, suc, List, [], ◌∷◌, length, map, true, false, Option, Some, None, ◌⊎◌, inl, inr, refl, sym, ◌∙◌, ap, subst, arith}
use Rattle.std.proofs.lemmas.Grind.{common_steps}
use Rattle.std.specs.Prelude.{◌==◌, filter, find, if◌then◌else◌}
use Rattle.std.specs.Option.{option_map}
use Rattle.std.proofs.lemmas.Bool.{cases_eq, eq-eqb, eqb-true, ne_eqb}
use Rattle.env_frames.specs.declared.post.PostWord.TheVariants as post
use Rattle.frame_store.specs.Pages.{with_bytes}
use Rattle.page_book.specs.Row.{is_owned_by}
use Rattle.page_book.proofs.Owners.{same_owner}
use Rattle.filter_tree.specs.ClaimBook.{ClaimValue, is_of_env}
use Rattle.filter_tree.specs.Claims.{is_for, is_numbered}
use Rattle.world_model.specs.declared.life.Life.{Life}
use Rattle.world_model.specs.declared.life.Life.TheVariants.{Live, Dead}
use Rattle.world_model.specs.Book.{sees}
use Rattle.world_model.specs.ClaimCalls.{claim_of}
use Rattle.external_event.specs.declared.event.Occurrence.TheVariants as outside
use Rattle.world_model.specs.Event.{arrives, delivers, happen, ring_bytes, ring_left}
use Rattle.world_model.specs.Item.{Item, Packet, absorb_all}
use Rattle.world_model.specs.PageCalls.{left_if, page_bytes}
use Rattle.world_model.specs.Post.{counted}
use Rattle.world_model.specs.Rings.{Reception, page_left, page_store, after_reception, reception_by, after_packet_in, reception, ring_of}
use Rattle.world_model.specs.Solo.{Solo, Ring, Physical, bytes_seen, with_store}
use Rattle.world_model.specs.Table.{set_at}
use Rattle.world_model.specs.World.{World, Reply, after}
use Rattle.run_model.specs.Run.{System, given_at, moment}
use Rattle.page_laws.specs.Sight.{Sees}
use Rattle.page_laws.proofs.Sights.{readers_see, writer_sees}
use Rattle.page_laws.proofs.Tables.{set_here, set_else}
use Rattle.sharing_law.specs.Agreement.{AreBoundAllocated, ClaimPage, claim_page, ring_page}
use Rattle.sharing_law.specs.Delivery.{IsDelivered}
use Rattle.sharing_law.proofs.Brings.{as_before}
use Rattle.sharing_law.proofs.Choices.{for_each}
use Rattle.sharing_law.proofs.Claimed.{AreRings, Claimed, IsGood, claimed_alike, rings_turned}
use Rattle.sharing_law.proofs.Claiming.{ring_left_spares}
use Rattle.sharing_law.proofs.Given.{IsRested, absorbs, dead_absorbs, rests_same, told_leaves}
use Rattle.sharing_law.proofs.Giving.{ring_told}
use Rattle.sharing_law.proofs.Handling.{filled_size, filled_whole, handled_holds}
use Rattle.sharing_law.proofs.Happening.{dropped_alike}
use Rattle.sharing_law.proofs.Lists.{find_map, found_there, still_found}
use Rattle.sharing_law.proofs.Sound.{Sound, agreed, owner_bytes, still_nothing}
use Rattle.sharing_law.proofs.Turning.{IsAlike, bytes_alike, same_lists, sound_alike}

-- A page into which a packet goes, or of which a handler takes it, is left no smaller.
left_size : (handler : Option (List ℕ)) (r : Ring) (packet page bytes : List ℕ) → page_left (reception_by handler r packet page) ≡ Some bytes → length page ≤ length bytes
left_size handler r packet page bytes is = grind (arith, common_steps, filled_size, handled_holds)

-- What its environment is once the packet is there: these bytes are stored in the ring page, and the claims have their pages.
record IsPut (s t : Solo) (page : ℕ) (bytes : List ℕ) : Type 0 where
  binds : t.binds ≡ s.binds
  seen : t.seen ≡ (with_store (page_store page bytes) s).seen
  rings : map ring_page t.rings ≡ map ring_page s.rings
  life : t.life ≡ s.life

puts : (r : Ring) (becomes : Reception) (s : Solo) (bytes : List ℕ) → page_left becomes ≡ Some bytes → IsPut s (after_reception r becomes s) r.page bytes
puts r becomes s bytes is = grind (arith, common_steps, rings_turned)

-- or once it is lost
lost_rests : (r : Ring) (becomes : Reception) (s : Solo) → page_left becomes ≡ None → IsRested s (after_reception r becomes (counted post.Packets s))
lost_rests r becomes s is = grind (arith, common_steps)

-- the owner of a page sees its bytes
pub owner_sees : (w : World) (o page : ℕ) → is_owned_by o (w.book.pages page) ≡ true → page_bytes w page ≡ bytes_seen ((w.solos o).seen page)
owner_sees w o page owned = grind (arith, common_steps, eqb-true)

-- A packet is given to an environment for a claim whose ring a page is, which has these bytes then.
pub record IsInRing (w : World) (items : ℕ → List Item) (o page : ℕ) (bytes : List ℕ) : Type 0 where
  pub claim : ℕ
  pub packet : List ℕ
  pub given : items o ≡ Packet claim packet ∷ []
  pub ring : Ring
  pub stands : ring_of (w.solos o).rings claim ≡ Some ring
  pub its : ring.page ≡ page
  pub has : page_left (reception (w.solos o) ring packet) ≡ Some bytes

-- What comes of a packet: what agreed agrees still, and the bytes of an allocated page stay but where the packet goes.
pub record Arrives (w now : World) (items : ℕ → List Item) : Type 0 where
  pub sound : AreBoundAllocated w → Sound now
  pub claimed : Claimed now
  pub becomes : (owner page : ℕ) → is_owned_by owner (w.book.pages page) ≡ true → (page_bytes now page ≡ page_bytes w page) ⊎ IsInRing w items owner page (page_bytes now page)

alike_arrives : (w now : World) (items : ℕ → List Item) → Sound w → Claimed w → IsAlike w now → Arrives w now items
alike_arrives w now items sound claimed alike = record {
  sound = λ allocated. sound_alike w now alike sound;
  claimed = claimed_alike w now alike claimed;
  becomes = λ owner page owns. inl (bytes_alike w now alike page);
}

module _ (w : World) (c : ClaimValue) (packet : List ℕ) (sound : Sound w) (claimed : Claimed w) (goes : claim_of w.book packet ≡ Some c) where
  abbrev s : Solo
  s = w.solos c.env

  -- the claim is one of a living environment's own, into a page of its own
  good : IsGood w.book c
  good = claimed.good.each c (found_there (is_for packet) w.book.claims c goes).1

  lives : s.life ≡ Live
  lives = by_life s.life refl
    where
      by_life : (life : Life) → s.life ≡ life → life ≡ Live
      by_life Live is = refl
      by_life (Dead cause) is = let never : false ≡ true = sym ((sound.none c.env cause is).owns c.page) ∙ good.owned in cc

  record ItsRing : Type 0 where
    ring : Ring
    stands : ring_of s.rings c.id ≡ Some ring
    page : ring.page ≡ c.page

  its : ItsRing
  its = by_ring (ring_of s.rings c.id) refl (
      sym (find_map ring_page (λ (p : ClaimPage). p.claim == c.id) s.rings)
      ∙ ap (find (λ (p : ClaimPage). p.claim == c.id)) (claimed.rings c.env)
      ∙ find_map claim_page (λ (p : ClaimPage). p.claim == c.id) (filter (is_of_env c.env) w.book.claims)
      ∙ ap (option_map claim_page) (still_found (is_numbered c.id) (is_of_env c.env) w.book.claims c (eq-eqb c.env c.env refl) good.only)
      )
    where
      by_ring : (o : Option Ring) → ring_of s.rings c.id ≡ o → option_map ring_page o ≡ Some (claim_page c) → ItsRing
      by_ring None stands is = cc
      by_ring (Some r) stands is = let same : ring_page r ≡ claim_page c = cc in record { ring = r; stands = stands; page = ap (λ (p : ClaimPage). p.page) same }

  abbrev once : Solo
  once = counted post.Packets s

  abbrev becomes_there : Reception
  becomes_there = reception s its.ring packet

  abbrev outcome : Option (List ℕ)
  outcome = page_left becomes_there

  outcome_is : ring_bytes s (ring_of s.rings c.id) packet ≡ outcome
  outcome_is = ap (λ (o : Option Ring). ring_bytes s o packet) its.stands

  -- the world once it has come
  abbrev now : World
  now = after w (delivers c packet w)

  abbrev others_get : Option (List ℕ) → ℕ → List Item
  others_get bytes = ring_left w.book c.env c.page bytes

  now_own : now.solos c.env ≡ after_reception its.ring becomes_there once
  now_own =
      ap (absorb_all s) (set_here c.env (Packet c.id packet ∷ []) (others_get (ring_bytes s (ring_of s.rings c.id) packet)))
      ∙ absorbs s (Packet c.id packet) [] lives
      ∙ ap (λ (o : Option Ring). after_packet_in o packet once) its.stands

  now_other : (i : ℕ) → i ≢ c.env → now.solos i ≡ absorb_all (w.solos i) (others_get outcome i)
  now_other i ne =
      ap (absorb_all (w.solos i)) (set_else c.env i (Packet c.id packet ∷ []) (others_get (ring_bytes s (ring_of s.rings c.id) packet)) ne)
      ∙ ap (λ (bytes : Option (List ℕ)). absorb_all (w.solos i) (others_get bytes i)) outcome_is

  -- The packet is lost.
  lost_alike : outcome ≡ None → IsAlike w now
  lost_alike full = record {
    solos =
        for_each (λ i. IsRested (w.solos i) (now.solos i)) c.env (subst (IsRested s) (sym now_own) (lost_rests its.ring becomes_there s full))
        (λ i ne. subst (IsRested (w.solos i)) (sym (now_other i ne ∙ ap (λ (bytes : Option (List ℕ)). absorb_all (w.solos i) (others_get bytes i)) full)) (rests_same (w.solos i)));
    lists = same_lists w.book;
  }

  -- Or it is there.
  module _ (bytes : List ℕ) (filled : outcome ≡ Some bytes) where
    abbrev holder : Solo
    holder = after_reception its.ring becomes_there once

    put : IsPut once holder its.ring.page bytes
    put = puts its.ring becomes_there once bytes filled

    is_other : (i : ℕ) → i ≢ c.env → now.solos i ≡ absorb_all (w.solos i) (others_get (Some bytes) i)
    is_other i ne = now_other i ne ∙ ap (λ (o : Option (List ℕ)). absorb_all (w.solos i) (others_get o i)) filled

    -- all bytes of the page are stored
    all_stored : with_bytes (page_bytes w c.page) 0 bytes ≡ bytes
    all_stored =
        let page_is = owner_sees w c.env c.page good.owned ∙ ap (λ (p : ℕ). bytes_seen (s.seen p)) (sym its.page) in
        let old = bytes_seen (s.seen its.ring.page) in
        ap (λ (page : List ℕ). with_bytes page 0 bytes) page_is ∙ filled_whole old bytes (left_size its.ring.handler its.ring packet old bytes filled)

    abbrev bytes_now : ℕ → List ℕ
    bytes_now = set_at c.page (with_bytes (page_bytes w c.page) 0 bytes) (page_bytes w)

    own_sees : Sees c.env w.book.pages (w.book.binds c.env) bytes_now holder
    own_sees =
        as_before c.env w.book.pages (w.book.binds c.env) bytes_now (with_store (page_store its.ring.page bytes) once) holder put.binds put.seen
        (writer_sees c.env c.page (page_store its.ring.page bytes) w.book.pages (w.book.binds c.env) (page_bytes w) once
        (as_before c.env w.book.pages (w.book.binds c.env) (page_bytes w) s once refl refl (sound.agreed c.env)) (ap Physical its.page))

    other_sees : (i : ℕ) → i ≢ c.env → (life : Life) → (w.solos i).life ≡ life → Sees i w.book.pages (w.book.binds i) bytes_now (absorb_all (w.solos i) (others_get (Some bytes) i))
    other_sees i ne Live is =
        subst (λ (items : List Item). Sees i w.book.pages (w.book.binds i) bytes_now (absorb_all (w.solos i) items)) (ap (λ t. if t then [] else left_if (sees w.book i c.page) c.page (page_store c.page bytes)) (sym (ne_eqb i c.env ne)))
        (readers_see i c.page (page_store c.page bytes) w.book (page_bytes w) (w.solos i) (sound.agreed i) is)
    other_sees i ne (Dead cause) is =
        let none = sound.none i cause is in
        subst (λ (t : Solo). Sees i w.book.pages (w.book.binds i) bytes_now t) (sym (dead_absorbs (w.solos i) cause (others_get (Some bytes) i) is))
        (still_nothing i w.book.pages w.book.pages (w.book.binds i) (w.book.binds i) (page_bytes w) bytes_now (w.solos i) none none (sound.agreed i))

    all_see : (i : ℕ) → Sees i w.book.pages (w.book.binds i) bytes_now (now.solos i)
    all_see =
        for_each (λ i. Sees i w.book.pages (w.book.binds i) bytes_now (now.solos i)) c.env
        (subst (λ (t : Solo). Sees c.env w.book.pages (w.book.binds c.env) bytes_now t) (sym now_own) own_sees)
        (λ i ne. subst (λ (t : Solo). Sees i w.book.pages (w.book.binds i) bytes_now t) (sym (is_other i ne)) (other_sees i ne (w.solos i).life refl))

    all_live : (i : ℕ) → (now.solos i).life ≡ (w.solos i).life
    all_live =
        for_each (λ i. (now.solos i).life ≡ (w.solos i).life) c.env (ap (λ (t : Solo). t.life) now_own ∙ put.life)
        (λ i ne. ap (λ (t : Solo). t.life) (is_other i ne) ∙ (told_leaves (others_get (Some bytes) i) (ring_told w c.env c.page (Some bytes) i) (w.solos i)).life)

    filled_sound : AreBoundAllocated now → Sound now
    filled_sound allocated = record {
      agreed = agreed now bytes_now all_see allocated;
      none = λ i cause died. sound.none i cause (sym (all_live i) ∙ died);
      stripes = sound.stripes;
      behind = sound.behind;
    }

    filled_claimed : Claimed now
    filled_claimed = record {
      rings =
          for_each (λ i. AreRings i w.book.claims (now.solos i).rings) c.env (ap (λ (t : Solo). map ring_page t.rings) now_own ∙ put.rings ∙ claimed.rings c.env)
          (λ i ne. ap (λ (t : Solo). map ring_page t.rings) (is_other i ne) ∙ ap (map ring_page) (ring_left_spares w.book c.env c.page (Some bytes) i (w.solos i)) ∙ claimed.rings i);
      good = claimed.good;
    }

    -- the page has these bytes, and all others have those that they had
    here : page_bytes now c.page ≡ bytes
    here = owner_bytes now bytes_now all_see c.env c.page good.owned ∙ set_here c.page (with_bytes (page_bytes w c.page) 0 bytes) (page_bytes w) ∙ all_stored

    in_ring : IsInRing w (delivers c packet w).items c.env c.page (page_bytes now c.page)
    in_ring = record {
      claim = c.id;
      packet = packet;
      given = set_here c.env (Packet c.id packet ∷ []) (others_get (ring_bytes s (ring_of s.rings c.id) packet));
      ring = its.ring;
      stands = its.stands;
      its = its.page;
      has = filled ∙ ap Some (sym here);
    }

    becomes : (o page : ℕ) → is_owned_by o (w.book.pages page) ≡ true → (page_bytes now page ≡ page_bytes w page) ⊎ IsInRing w (delivers c packet w).items o page (page_bytes now page)
    becomes o page owns = elim (cases_eq page c.page) [
      | inl same ↦
          let its_owner : c.env ≡ o = same_owner c.env o (w.book.pages c.page) good.owned (ap (λ (p : ℕ). is_owned_by o (w.book.pages p)) (sym same) ∙ owns) in
          inr (subst (λ (p : ℕ). IsInRing w (delivers c packet w).items o p (page_bytes now p)) (sym same) (subst (λ (n : ℕ). IsInRing w (delivers c packet w).items n c.page (page_bytes now c.page)) its_owner in_ring))
      | inr ne ↦ inl (owner_bytes now bytes_now all_see o page owns ∙ set_else c.page page (with_bytes (page_bytes w c.page) 0 bytes) (page_bytes w) ne)
    ]

  -- either way
  by_outcome : (o : Option (List ℕ)) → outcome ≡ o → Arrives w now (delivers c packet w).items
  by_outcome None is = alike_arrives w now (delivers c packet w).items sound claimed (lost_alike is)
  by_outcome (Some bytes) is = record { sound = filled_sound bytes is; claimed = filled_claimed bytes is; becomes = becomes bytes is }

  pub delivered : Arrives w now (delivers c packet w).items
  delivered = by_outcome outcome refl

  -- what is left of it to another are all bytes of the page
  pub delivered_whole : (bytes : List ℕ) → ring_bytes s (ring_of s.rings c.id) packet ≡ Some bytes → IsInRing w (delivers c packet w).items c.env c.page (page_bytes now c.page) × (bytes ≡ page_bytes now c.page) × (is_owned_by c.env (w.book.pages c.page) ≡ true)
  delivered_whole bytes filled = let is = sym outcome_is ∙ filled in (in_ring bytes is, sym (here bytes is), good.owned)

-- A packet that comes, whether it is claimed or not.
module _ (w : World) (packet : List ℕ) (sound : Sound w) (claimed : Claimed w) where
  by_claim : (o : Option ClaimValue) → claim_of w.book packet ≡ o → (let r = arrives packet o w in Arrives w (after w r) r.items)
  by_claim None goes = let r = arrives packet None w in alike_arrives w (after w r) r.items sound claimed (dropped_alike packet w)
  by_claim (Some c) goes = delivered w c packet sound claimed goes

  pub arrived : (let r = happen (outside.Packet packet) w in Arrives w (after w r) r.items)
  arrived = by_claim (claim_of w.book packet) refl

-- so it is delivered in a phase
pub delivered_in : (system : System) (t k page owner : ℕ) (r : Reply) → moment system t (suc k) ≡ after (moment system t k) r → given_at system t k owner ≡ r.items owner
    → IsInRing (moment system t k) r.items owner page (page_bytes (after (moment system t k) r) page) → IsDelivered system t k page owner
delivered_in system t k page owner r next given comes = grind (arith, common_steps)

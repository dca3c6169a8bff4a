-- What a packet leaves of its ring page, by what the board keeps.
use Rattle.std.proofs.Common.{◌≡◌, ℕ, Bool, true, false, List, Option, Some, None, refl, sym, ◌∙◌, ap}
use Rattle.std.specs.Prelude.{if◌then◌else◌, find}
use Rattle.std.specs.Option.{option_flatten, option_map}
use Rattle.frame_store.specs.Pages.{page_at}
use Rattle.page_book.specs.Row.{is_owned_by}
use Rattle.page_book.specs.Rows.{row_in}
use Rattle.page_book.proofs.Owners.{owner_is}
use Rattle.bind_book.specs.Stripe.{is_bound, stripes}
use Rattle.packet_ring.specs.Ring.{is_full, with_packet}
use Rattle.filter_tree.specs.ClaimBook.{ClaimBook, RowValue, claim_in, claims_in}
use Rattle.filter_tree.specs.declared.claim.Claim.{Claim}
use Rattle.filter_tree.specs.Claims.{claim_for, claim_handler, claim_seen, first_row, is_for, is_numbered}
use Rattle.filter_tree.specs.Laws.{FirstIsNumbered}
use Rattle.page_laws.specs.Sight.{seen_if}
use Rattle.world_model.specs.Event.{ring_bytes}
use Rattle.world_model.specs.Rings.{Loses, Queues, page_left, reception_by, ring_of}
use Rattle.world_model.specs.Solo.{Ring, Solo, Physical, bytes_of, bytes_seen}
use Rattle.board_model.specs.Rings.{ring_in, rings_of}
use Rattle.board_model.specs.Shown.{Shown}
use Rattle.board_model.specs.Showing.{solo_of, world_of}
use Rattle.board_model.specs.Sound.{HasClaimNumbers, IsSoundBoard}
use Rattle.board_model.proofs.Claimed.{found_owned, found_without, ring_found}
use Rattle.board_model.proofs.Seen.{live_record, live_shown}
use Rattle.feed_telling.specs.Arriving.{arrival_by, page_left_by, page_left_for}
use Rattle.feed_telling.specs.declared.view.Arrival.{Arrival}
use Rattle.feed_board.specs.Arriving.{page_left_of}

-- where the packets of a claim go, without its filter
abbrev pub goes_to : Claim → Arrival
goes_to c = record { env = c.env; claim = c.id; page = c.page }

seen_goes : (o : Option RowValue) → option_map goes_to (option_map claim_seen o) ≡ option_map arrival_by (option_map claim_in o)
seen_goes None = refl
seen_goes (Some r) = refl

pub arrives_at : (claims : ClaimBook) (packet : List ℕ) → option_map goes_to (claim_for claims packet) ≡ option_map arrival_by (find (is_for packet) (claims_in claims))
arrives_at claims packet = seen_goes (first_row (is_for packet) claims) ∙ ap (option_map arrival_by) (sym (found_without (is_for packet) claims))

-- what becomes of the ring page
queues : (full : Bool) (page : List ℕ) → page_left (if full then Loses else Queues page) ≡ (if full then None else Some page)
queues true page = refl
queues false page = refl

received : (h : Option (List ℕ)) (r : RowValue) (packet page : List ℕ)
    → page_left (reception_by h (ring_in r) packet page) ≡ page_left_of h (claim_seen r) packet page
received None r packet page = queues (is_full page r.next) (with_packet page r.next packet)
received (Some words) r packet page = refl

module _ (b : Shown) (r : RowValue) (own : is_owned_by r.claim.env (row_in b.pages r.claim.page) ≡ true) (first : first_row (is_numbered r.claim.id) b.claims ≡ Some r) (s : Solo)
    (rings : s.rings ≡ rings_of b.claims r.claim.env) (seen : s.seen r.claim.page ≡ seen_if (is_owned_by r.claim.env (row_in b.pages r.claim.page)) (is_bound r.claim.page (stripes b.binds r.claim.env)) (page_at b.frames r.claim.page)) where
  bytes : bytes_of s (Physical r.claim.page) ≡ page_at b.frames r.claim.page
  bytes = ap bytes_seen seen ∙ ap (λ t. bytes_seen (seen_if t (is_bound r.claim.page (stripes b.binds r.claim.env)) (page_at b.frames r.claim.page))) own

  its_ring : ring_of s.rings r.claim.id ≡ Some (ring_in r)
  its_ring = ap (λ (rings : List Ring). ring_of rings r.claim.id) rings ∙ ring_found b.claims r first

  its_handler : r.handler ≡ claim_handler b.claims r.claim.id
  its_handler = ap (λ o. option_flatten (option_map (λ (y : RowValue). y.handler) o)) (sym first)

  ring_left : (packet : List ℕ) → ring_bytes s (ring_of s.rings r.claim.id) packet ≡ page_left_of (claim_handler b.claims r.claim.id) (claim_seen r) packet (page_at b.frames r.claim.page)
  ring_left packet =
      ap (λ o. ring_bytes s o packet) its_ring
      ∙ ap (λ page. page_left (reception_by r.handler (ring_in r) packet page)) bytes
      ∙ received r.handler r packet (page_at b.frames r.claim.page)
      ∙ ap (λ h. page_left_of h (claim_seen r) packet (page_at b.frames r.claim.page)) its_handler

-- what a packet leaves, by its claim
abbrev pub left_by : Shown → List ℕ → Option Claim → Option (List ℕ)
left_by b packet None = None
left_by b packet (Some c) = page_left_of (claim_handler b.claims c.id) c packet (page_at b.frames c.page)

by_row : FirstIsNumbered → (b : Shown) (packet : List ℕ) → IsSoundBoard b → HasClaimNumbers b → (o : Option RowValue) → first_row (is_for packet) b.claims ≡ o
    → left_by b packet (option_map claim_seen o) ≡ page_left_for (world_of b) packet (option_map claim_in o)
by_row law b packet sound numbered None found = refl
by_row law b packet sound numbered (Some r) found =
    let first = law b.claims (is_for packet) r numbered found in
    let own = found_owned b.pages (is_for packet) b.claims.rows r sound.claims.owned found in
    let live = sound.books.owners r.claim.page r.claim.env (owner_is r.claim.env (row_in b.pages r.claim.page) own) in
    let x = live_record b.roster.list r.claim.env live.1 in
    let shown = live_shown b r.claim.env x.0 x.1.0 x.1.1 in
    sym (ring_left b r own first (solo_of b r.claim.env) (ap (λ (s : Solo). s.rings) shown) (ap (λ (s : Solo). s.seen r.claim.page) shown) packet)

pub left_behind : FirstIsNumbered → (b : Shown) (packet : List ℕ) → IsSoundBoard b → HasClaimNumbers b
    → left_by b packet (claim_for b.claims packet) ≡ page_left_by (world_of b) packet
left_behind law b packet sound numbered =
    by_row law b packet sound numbered (first_row (is_for packet) b.claims) refl
    ∙ ap (page_left_for (world_of b) packet) (sym (found_without (is_for packet) b.claims))

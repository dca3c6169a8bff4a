-- What happens from outside, on the world that is shown.
use Rattle.std.proofs.Common.{◌≡◌, ◌≢◌, ◌<◌, ℕ, ◌+◌, ◌^◌, List, [], ◌∷◌, length, Bool, true, false, Option, Some, None, IfSome, refl, sym, ◌∙◌, ap, subst, arith, rules}
use Rattle.std.specs.Prelude.{bit_or, slice_get, if◌then◌else◌}
use Rattle.std.specs.Option.{option_flatten, option_map}
use Rattle.std.proofs.lemmas.List.{append-nil}
use Rattle.frame_store.specs.Pages.{page_at}
use Rattle.mips_exec.specs.Word.{low_word}
use Rattle.page_book.specs.Row.{is_owned_by}
use Rattle.page_book.specs.Rows.{row_in}
use Rattle.page_book.proofs.Owners.{owner_is}
use Rattle.env_frames.specs.declared.post.PostWord.{PostWord}
use Rattle.env_frames.specs.declared.post.PostWord.TheVariants as post
use Rattle.env_frames.specs.Post.{counted_in, signalled_in}
use Rattle.packet_ring.specs.Ring.{is_full, with_packet}
use Rattle.handler_rules.specs.Running.{HandlerRun, handler_run}
use Rattle.filter_tree.specs.ClaimBook.{RowValue, claim_in}
use Rattle.filter_tree.specs.declared.claim.Claim.{Claim}
use Rattle.filter_tree.specs.Claims.{claim_for, claim_handler, claim_seen, first_row, is_for, is_numbered}
use Rattle.filter_tree.specs.Laws.{FirstIsNumbered}
use Rattle.world_model.specs.declared.life.Life.TheVariants.{Live}
use Rattle.world_model.specs.Event.{arrives, delivers, drops_packet, ring_bytes, ring_left, signals}
use Rattle.world_model.specs.Item.{Line, Packet, absorb_all}
use Rattle.world_model.specs.Post.{counted as counted_word}
use Rattle.world_model.specs.Rings.{Handles, Loses, Queues, Reception, page_left, after_reception, reception_by, reception, ring_of}
use Rattle.world_model.specs.Solo.{Solo, Physical, bytes_of}
use Rattle.world_model.specs.World.{after, tells}
use Rattle.board_model.specs.declared.roster.Environment.{Environment}
use Rattle.board_model.specs.Lines.{line_at}
use Rattle.board_model.specs.Rings.{ring_in}
use Rattle.board_model.specs.Shown.{Shown}
use Rattle.board_model.specs.Showing.{book_of, solo_of, solo_or_absent, world_of}
use Rattle.board_model.specs.Sound.{HasClaimNumbers, IsLiving, IsSoundBoard, has_own_page}
use Rattle.board_model.specs.Laws.{EventShowsModel}
use Rattle.board_model.specs.Doing.{after_arrival_for, context_of, with_count, after_delivery_by, after_queue, after_delivery, after_drop, after_handler, with_replies_sent, after_signal, after_signal_to}
use Rattle.board_model.proofs.Lists.{length-changed}
use Rattle.board_model.proofs.Claimed.{claims_turned, found_owned, found_without, ring_found}
use Rattle.board_model.proofs.Delivering as delivering
use Rattle.board_model.proofs.Mappings.{kept_mappings}
use Rattle.board_model.proofs.Parts.{by_env, one_absorbed, set_else, set_here, worlds}
use Rattle.board_model.proofs.Phases.{quiet_world}
use Rattle.board_model.proofs.Posting.{changed_in, same_size, with_word, worded_others, worded_seen}
use Rattle.board_model.proofs.Revoking.{revoked_world}
use Rattle.board_model.proofs.Seen.{like_solo, live_record, row_there, live_shown}
use Rattle.board_model.proofs.Sound.{keeps_replying}
use Rattle.board_model.proofs.Staying.{sound_frames}

-- a packet that is dropped changes no environment
dropped_solo : (b : Shown) (packet : List ℕ) (i : ℕ) → solo_of (after_drop b packet) i ≡ solo_of b i
dropped_solo b packet i = like_solo i (after_drop b packet) b (record { version = refl; record_is = refl; rings = refl; cpu = λ kept. refl; pages = refl; binds = refl; sights = refl })

dropped_world : (b : Shown) (packet : List ℕ) → world_of (after_drop b packet) ≡ after (world_of b) (drops_packet packet (world_of b))
dropped_world b packet = worlds (world_of (after_drop b packet)) (after (world_of b) (drops_packet packet (world_of b))) refl refl (dropped_solo b packet) refl

-- a signal on a line of an environment that lives
signalled_changed : (line : ℕ) (page : Option ℕ) (frames : List (List ℕ)) → signalled_in line page frames ≡ changed_in post.Lines (λ n. bit_or n (2 ^ line)) page frames
signalled_changed line page frames = search rules

module _ (b : Shown) (sound : IsSoundBoard b) (line e : ℕ) (x : Environment) (at : slice_get b.roster.list e ≡ Some x) (lives : x.life ≡ Live) where
  abbrev signalled_board : Shown
  signalled_board = after_signal_to b line (Some e)

  board_is : signalled_board ≡ with_word b e post.Lines (λ n. bit_or n (2 ^ line))
  board_is = λ k. record b { frames = signalled_changed line (context_of b e) b.frames k }

  signalled_here : solo_of signalled_board e ≡ absorb_all (solo_of b e) (Line line ∷ [])
  signalled_here = search (rules, worded_seen, live_shown, board_is)

  owner_world : world_of signalled_board ≡ after (world_of b) (tells e (Line line) (world_of b))
  owner_world =
      worlds (world_of signalled_board) (after (world_of b) (tells e (Line line) (world_of b))) refl refl
      (one_absorbed (solo_of b) (solo_of signalled_board) e (Line line ∷ []) signalled_here
      (λ i ne. ap (λ (y : Shown). solo_of y i) board_is ∙ worded_others b sound e x at lives (λ n. bit_or n (2 ^ line)) post.Lines i ne))
      (sym (append-nil b.ledger.rows))

signalled_world : (b : Shown) → IsSoundBoard b → (line : ℕ) → world_of (after_signal b line) ≡ after (world_of b) (signals line (line_at b.lines line) (world_of b))
signalled_world b sound line = by_owner (line_at b.lines line) (sound.lines.owners line)
  where
    by_owner : (owner : Option ℕ) → IfSome owner (IsLiving b.roster.list) → world_of (after_signal_to b line owner) ≡ after (world_of b) (signals line owner (world_of b))
    by_owner None live = quiet_world (world_of b)
    by_owner (Some e) live = let x = live_record b.roster.list e live.1 in owner_world b sound line e x.0 x.1.0 x.1.1

-- a post word that counts up
abbrev pub counts : ℕ → ℕ
counts n = low_word (n + 1)

pub counted_changed : (word : PostWord) (page : Option ℕ) (frames : List (List ℕ)) → counted_in word page frames ≡ changed_in word counts page frames
counted_changed word page frames = search rules

module _ (b : Shown) (sound : IsSoundBoard b) (e : ℕ) (x : Environment) (at : slice_get b.roster.list e ≡ Some x) (lives : x.life ≡ Live) (word : PostWord) where
  counted_is : with_count b word e ≡ with_word b e word counts
  counted_is = λ k. record b { frames = counted_changed word (context_of b e) b.frames k }

  counted_seen : solo_of (with_count b word e) e ≡ counted_word word (solo_of b e)
  counted_seen = ap (λ (y : Shown). solo_of y e) counted_is ∙ worded_seen b sound e x at lives counts word

  counted_others : (i : ℕ) → i ≢ e → solo_of (with_count b word e) i ≡ solo_of b i
  counted_others i ne = ap (λ (y : Shown). solo_of y i) counted_is ∙ worded_others b sound e x at lives counts word i ne

  counted_sound : IsSoundBoard (with_count b word e)
  counted_sound = sound_frames (counted_in word (context_of b e) b.frames) (ap length (counted_changed word (context_of b e) b.frames) ∙ same_size word counts (context_of b e) b.frames) sound

-- a packet for a claim that is found
module _ (law : FirstIsNumbered) (b : Shown) (sound : IsSoundBoard b) (numbered : HasClaimNumbers b) (packet : List ℕ) (r : RowValue) (first : first_row (is_numbered r.claim.id) b.claims ≡ Some r) (own : has_own_page b.pages r.claim ≡ true)
    (x : Environment) (at : slice_get b.roster.list r.claim.env ≡ Some x) (lives : x.life ≡ Live) where
  abbrev e : ℕ
  e = r.claim.env

  abbrev id : ℕ
  id = r.claim.id

  abbrev page : ℕ
  page = r.claim.page

  abbrev before : Solo
  before = solo_of b e

  abbrev counted : Shown
  counted = with_count b post.Packets e

  abbrev sound_counted : IsSoundBoard counted
  sound_counted = counted_sound b sound e x at lives post.Packets

  seen_counted : solo_of counted e ≡ counted_word post.Packets before
  seen_counted = counted_seen b sound e x at lives post.Packets

  -- the bytes of the ring, as they are seen
  ring_shown : (y : Shown) → y.pages ≡ b.pages → slice_get y.roster.list e ≡ Some x → bytes_of (solo_of y e) (Physical page) ≡ page_at y.frames page
  ring_shown y same its = ap (λ o. bytes_of (solo_or_absent y e o) (Physical page)) its ∙ (let owned : is_owned_by e (row_in y.pages page) ≡ true = ap (λ pages. is_owned_by e (row_in pages page)) same ∙ own in rw owned refl)

  same_page : bytes_of before (Physical page) ≡ page_at counted.frames page
  same_page = ap (λ (s : Solo). bytes_of s (Physical page)) (sym seen_counted) ∙ ring_shown counted refl at

  -- what becomes of the packet at the ring
  abbrev what : Reception
  what = reception_by r.handler (ring_in r) packet (page_at counted.frames page)

  receives : (s : Solo) → bytes_of s (Physical page) ≡ page_at counted.frames page → reception s (ring_in r) packet ≡ what
  receives s same = ap (reception_by r.handler (ring_in r) packet) same

  -- where no handler takes it
  abbrev queued_if : Bool → Reception
  queued_if full = if full then Loses else Queues (with_packet (page_at counted.frames page) r.next packet)

  queues : (full : Bool) → r.handler ≡ None → is_full (page_at counted.frames page) r.next ≡ full → what ≡ queued_if full
  queues full none is = ap (λ h. reception_by h (ring_in r) packet (page_at counted.frames page)) none ∙ ap queued_if is

  -- the claim, as its environment has it
  its_ring : ring_of before.rings id ≡ Some (ring_in r)
  its_ring = ap (λ o. ring_of (solo_or_absent b e o).rings id) at ∙ ring_found b.claims r first

  takes : absorb_all before (Packet id packet ∷ []) ≡ after_reception (ring_in r) what (counted_word post.Packets before)
  takes = search (rules, live_shown, its_ring, receives, same_page)

  -- what the others are given
  leaves : ring_bytes before (ring_of before.rings id) packet ≡ page_left what
  leaves = ap (λ o. ring_bytes before o packet) its_ring ∙ ap page_left (receives before same_page)

  module _ (o : Reception) (is : what ≡ o) (new : Shown) (here : solo_of new e ≡ after_reception (ring_in r) o (solo_of counted e))
      (others : (i : ℕ) → i ≢ e → solo_of new i ≡ absorb_all (solo_of b i) (ring_left (book_of b) e page (page_left o) i)) where
    given : (i : ℕ) → solo_of new i ≡ absorb_all (solo_of b i) ((delivers r.claim packet (world_of b)).items i)
    given = search (rules, by_env, set_here, set_else, seen_counted, takes, leaves)

  its_handler : claim_handler b.claims id ≡ r.handler
  its_handler = ap (λ o. option_flatten (option_map (λ (y : RowValue). y.handler) o)) first

  delivered_world : world_of (after_delivery b (claim_seen r) packet) ≡ after (world_of b) (delivers r.claim packet (world_of b))
  delivered_world = ap (λ h. world_of (after_delivery_by h counted (claim_seen r) packet)) its_handler ∙ by_handler r.handler refl
    where
      by_full : (full : Bool) → r.handler ≡ None → is_full (page_at counted.frames page) r.next ≡ full → world_of (after_queue full counted (claim_seen r) packet) ≡ after (world_of b) (delivers r.claim packet (world_of b))
      by_full true none is =
          worlds (world_of (after_queue true counted (claim_seen r) packet)) (after (world_of b) (delivers r.claim packet (world_of b))) refl refl
          (given Loses (queues true none is) (after_queue true counted (claim_seen r) packet)
          (counted_seen counted sound_counted e x at lives post.Lost)
          (λ i ne. counted_others counted sound_counted e x at lives post.Lost i ne ∙ counted_others b sound e x at lives post.Packets i ne))
          (sym (append-nil b.ledger.rows))
      by_full false none is =
          let bytes = with_packet (page_at counted.frames page) r.next packet in
          worlds (world_of (after_queue false counted (claim_seen r) packet)) (after (world_of b) (delivers r.claim packet (world_of b)))
          (λ k. record (book_of b) { claims = claims_turned b.claims id k }) refl
          (given (Queues bytes) (queues false none is) (after_queue false counted (claim_seen r) packet)
          (delivering.ring_filled law counted sound_counted numbered r first own x at lives bytes)
          (λ i ne. delivering.ring_left law counted sound_counted numbered r first own x at lives bytes i ne
          ∙ ap (λ (s : Solo). absorb_all s (ring_left (book_of b) e page (Some bytes) i)) (counted_others b sound e x at lives post.Packets i ne)))
          (sym (append-nil b.ledger.rows))

      by_run : (run : HandlerRun) → what ≡ Handles run.page run.replies → world_of (after_handler counted (claim_seen r) run) ≡ after (world_of b) (delivers r.claim packet (world_of b))
      by_run run is =
          worlds (world_of (after_handler counted (claim_seen r) run)) (after (world_of b) (delivers r.claim packet (world_of b)))
          (λ k. record (book_of b) { kept = λ i. kept_mappings (with_replies_sent run.replies) (keeps_replying run.replies) b.roster.list e i k })
          (length-changed (with_replies_sent run.replies) b.roster.list e)
          (given (Handles run.page run.replies) is (after_handler counted (claim_seen r) run)
          (delivering.run_here counted sound_counted r own x at lives run)
          (λ i ne. delivering.run_else counted sound_counted r own x at lives run i ne
          ∙ ap (λ (s : Solo). absorb_all s (ring_left (book_of b) e page (Some run.page) i)) (counted_others b sound e x at lives post.Packets i ne)))
          (sym (append-nil b.ledger.rows))

      by_handler : (h : Option (List ℕ)) → r.handler ≡ h → world_of (after_delivery_by h counted (claim_seen r) packet) ≡ after (world_of b) (delivers r.claim packet (world_of b))
      by_handler None none = by_full (is_full (page_at counted.frames page) r.next) none refl
      by_handler (Some words) some = by_run (handler_run words packet id (page_at counted.frames page)) (ap (λ h. reception_by h (ring_in r) packet (page_at counted.frames page)) some)

arrived_world : FirstIsNumbered → (b : Shown) (packet : List ℕ) → IsSoundBoard b → HasClaimNumbers b → (o : Option RowValue) → first_row (is_for packet) b.claims ≡ o → world_of (after_arrival_for b packet (option_map claim_seen o)) ≡ after (world_of b) (arrives packet (option_map claim_in o) (world_of b))
arrived_world law b packet sound numbered None found = dropped_world b packet
arrived_world law b packet sound numbered (Some r) found =
    let first = law b.claims (is_for packet) r numbered found in
    let own = found_owned b.pages (is_for packet) b.claims.rows r sound.claims.owned found in
    let live = sound.books.owners r.claim.page r.claim.env (owner_is r.claim.env (row_in b.pages r.claim.page) own) in
    let x = live_record b.roster.list r.claim.env live.1 in
    delivered_world law b sound numbered packet r first own x.0 x.1.0 x.1.1

-- each kind of event
pub happened_world : FirstIsNumbered → EventShowsModel
happened_world law b what sound numbers = search (rules, arrived_world, found_without, signalled_world, revoked_world)

-- A claim that is found is of an environment that lives, and its ring is there.
pub claim_there : (b : Shown) (packet : List ℕ) (c : Claim) → IsSoundBoard b → claim_for b.claims packet ≡ Some c → IsLiving b.roster.list c.env × (c.page < length b.frames)
claim_there b packet c sound found = by_row (first_row (is_for packet) b.claims) refl found
  where
    by_row : (o : Option RowValue) → first_row (is_for packet) b.claims ≡ o → option_map claim_seen o ≡ Some c → IsLiving b.roster.list c.env × (c.page < length b.frames)
    by_row None is found = cc
    by_row (Some r) is found =
        let same : claim_seen r ≡ c = cc in
        let own = found_owned b.pages (is_for packet) b.claims.rows r sound.claims.owned is in
        let live = sound.books.owners r.claim.page r.claim.env (owner_is r.claim.env (row_in b.pages r.claim.page) own) in
        let there : r.claim.page < length b.frames = omega (arith, sound.memory.same, row_there b.pages r.claim.page (λ free. let none : true ≡ false = sym own ∙ ap (is_owned_by r.claim.env) free in cc)) in
        subst (λ (d : Claim). IsLiving b.roster.list d.env × (d.page < length b.frames)) same (live, there)

-- A packet that goes into the ring of its claim, or that the claim's handler takes, on the world that is shown.
use Rattle.std.proofs.Common.{◌≡◌, ◌≢◌, ℕ, List, map, true, Some, sym, ◌∙◌, ap, rules}
use Rattle.std.specs.Prelude.{slice_get}
use Rattle.std.specs.Option.{option_map}
use Rattle.handler_rules.specs.Running.{HandlerRun}
use Rattle.frame_store.specs.Pages.{after_put}
use Rattle.filter_tree.specs.ClaimBook.{RowValue}
use Rattle.filter_tree.specs.Claims.{claim_seen, delivered, first_row, is_numbered}
use Rattle.filter_tree.specs.Laws.{FirstIsNumbered}
use Rattle.world_model.specs.declared.life.Life.TheVariants.{Live}
use Rattle.world_model.specs.Item.{absorb_all}
use Rattle.world_model.specs.PageCalls.{left_by}
use Rattle.world_model.specs.Rings as ring
use Rattle.world_model.specs.Rings.{Handles, Queues, page_store, after_reception, sent_with_replies}
use Rattle.world_model.specs.Solo.{Solo}
use Rattle.board_model.specs.declared.roster.Environment.{Environment}
use Rattle.board_model.specs.Rings.{ring_in}
use Rattle.board_model.specs.Shown.{Shown}
use Rattle.board_model.specs.Showing.{book_of, solo_of, solo_or_absent, solo_seen}
use Rattle.board_model.specs.Sound.{HasClaimNumbers, IsSoundBoard, has_own_page}
use Rattle.board_model.specs.Doing.{after_handler, with_replies_sent}
use Rattle.board_model.proofs.Claimed.{rings_turned, rings_turned_else}
use Rattle.board_model.proofs.Copying as copying
use Rattle.board_model.proofs.Lists.{changed_else, changed_here}
use Rattle.board_model.proofs.Seen.{like_solo}

module _ (law : FirstIsNumbered) (b : Shown) (sound : IsSoundBoard b) (numbered : HasClaimNumbers b) (r : RowValue) (first : first_row (is_numbered r.claim.id) b.claims ≡ Some r) (own : has_own_page b.pages r.claim ≡ true)
    (x : Environment) (at : slice_get b.roster.list r.claim.env ≡ Some x) (lives : x.life ≡ Live) (bytes : List ℕ) where
  abbrev e : ℕ
  e = r.claim.env

  abbrev page : ℕ
  page = r.claim.page

  abbrev bytes_stored : Shown
  bytes_stored = record b { frames = after_put b.frames page 0 bytes }

  abbrev now : Shown
  now = record bytes_stored { claims = delivered r.claim.id b.claims }

  -- the claim's environment has its page with the bytes, and the other buffer is next
  pub ring_filled : solo_of now e ≡ after_reception (ring_in r) (Queues bytes) (solo_of b e)
  ring_filled =
      ap (solo_or_absent now e) at
      ∙ (λ k. record (solo_seen bytes_stored e x) { rings = rings_turned b.claims r.claim.id e k })
      ∙ (λ k. turned (ap (solo_or_absent bytes_stored e) (sym at) k))
      ∙ ap turned (copying.stored_here b sound e page own x at lives bytes)
    where
      turned : Solo → Solo
      turned s = record s { rings = map (ring.ring_after_packet_if r.claim.id) s.rings }

  -- whoever else sees the page
  pub ring_left : (i : ℕ) → i ≢ e → solo_of now i ≡ absorb_all (solo_of b i) (left_by (book_of b) e (page_store page bytes) i)
  ring_left i ne =
      like_solo i now bytes_stored (search (rules, (rings_turned_else law b.claims r i numbered first ne)))
      ∙ copying.stored_else b sound e page own x at lives bytes i ne

module _ (b : Shown) (sound : IsSoundBoard b) (r : RowValue) (own : has_own_page b.pages r.claim ≡ true) (x : Environment) (at : slice_get b.roster.list r.claim.env ≡ Some x) (lives : x.life ≡ Live) (run : HandlerRun) where
  abbrev owner : ℕ
  owner = r.claim.env

  abbrev reply : Environment → Environment
  reply = with_replies_sent run.replies

  abbrev page_written : Shown
  page_written = record b { frames = after_put b.frames r.claim.page 0 run.page }

  abbrev after_run : Shown
  after_run = after_handler b (claim_seen r) run

  -- the claim's environment has its page as the handler left it, and sent the replies
  pub run_here : solo_of after_run owner ≡ after_reception (ring_in r) (Handles run.page run.replies) (solo_of b owner)
  run_here =
      ap (solo_or_absent after_run owner) (changed_here reply b.roster.list owner ∙ ap (option_map reply) at)
      ∙ (λ k. replies (ap (solo_or_absent page_written owner) (sym at) k))
      ∙ ap replies (copying.stored_here b sound owner r.claim.page own x at lives run.page)
    where
      replies : Solo → Solo
      replies s = record s { sent = sent_with_replies s.sent run.replies }

  -- whoever else sees the page
  pub run_else : (i : ℕ) → i ≢ owner → solo_of after_run i ≡ absorb_all (solo_of b i) (left_by (book_of b) owner (page_store r.claim.page run.page) i)
  run_else i ne =
      like_solo i after_run page_written (search (rules, (changed_else reply b.roster.list owner i ne)))
      ∙ copying.stored_else b sound owner r.claim.page own x at lives run.page i ne

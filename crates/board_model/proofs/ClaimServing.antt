-- What the runner does to its claims, on the world that is shown.
use Rattle.std.proofs.Common.{◌≡◌, ◌≢◌, ℕ, List, [], true, Option, Some, None, Result, Ok, sym, ◌∙◌, ap, rules}
use Rattle.std.specs.Prelude.{is_some, map}
use Rattle.filter_core.specs.declared.atom.Atom.{Atom}
use Rattle.filter_tree.specs.ClaimBook.{ClaimBook, claims_in}
use Rattle.filter_tree.specs.Claims.{book_unless, claim_refusal, claimed, downloaded, with_claim}
use Rattle.filter_tree.specs.Laws.{FirstIsNumbered}
use Rattle.world_model.specs.declared.code.Code.{Code}
use Rattle.world_model.specs.Book.{Book, running}
use Rattle.world_model.specs.declared.call.Deed.{Deed}
use Rattle.world_model.specs.declared.call.Deed.TheVariants.{Claims, Unclaims, Downloads}
use Rattle.world_model.specs.declared.verdict.Verdict.TheVariants.{Grant}
use Rattle.world_model.specs.ClaimCalls.{atoms_or_none, filter_at}
use Rattle.world_model.specs.Downloads.{MayDownload, handler_at, handler_of_words, handler_or_none}
use Rattle.world_model.specs.Item.{own_part}
use Rattle.world_model.specs.May.{MayClaim}
use Rattle.world_model.specs.Page.{Mapped}
use Rattle.world_model.specs.Rings.{ring_with_handler_if, ring_of}
use Rattle.world_model.specs.Solo.{Solo, sight}
use Rattle.world_model.specs.Verdict.{done}
use Rattle.world_model.specs.World.{no_items}
use Rattle.board_model.specs.declared.roster.Environment.{Environment}
use Rattle.board_model.specs.Rings.{rings_of}
use Rattle.board_model.specs.Shown.{Shown}
use Rattle.board_model.specs.Showing.{world_of, book_of, solo_of}
use Rattle.board_model.specs.Sound.{HasClaimNumbers, IsSoundBoard}
use Rattle.board_model.specs.Doing as doing
use Rattle.board_model.proofs.Claimed.{claims_downloaded, claims_more, claims_without, rings_claimed, rings_claimed_else, rings_downloaded, rings_downloaded_else, rings_unclaimed, rings_unclaimed_else}
use Rattle.board_model.proofs.Reading.{runner_look}
use Rattle.board_model.proofs.Replying.{Serves, deeded, deeded_seen, changes_one}
use Rattle.board_model.proofs.Seen.{Runs, its_look, runner_seen, runner_solo, same_solo}

module _ (b : Shown) (e : ℕ) (x : Environment) (r : Runs b e x) (sound : IsSoundBoard b) where
  -- the filter that the runner names, as it is shown
  its_filter : (address atoms : ℕ) → filter_at (doing.look_of b e) address atoms ≡ filter_at (sight (solo_of b e)) address atoms
  its_filter address atoms = search (rules, its_look, runner_seen)

  -- a deed that changes claims alone: the runner has those of the book, as it says, and the others keep theirs
  changes_claims : (d : Deed) (v : ℕ) (claims : ClaimBook) (book : Book) → book_of (record b { claims = claims }) ≡ book → record (runner_solo b e x) { rings = rings_of claims e } ≡ own_part d (runner_solo b e x) → ((i : ℕ) → i ≢ e → rings_of claims i ≡ rings_of b.claims i)
      → Serves b e (deeded d v (solo_of b e)) (record { book = book; items = no_items; rows = [] }) (doing.after_answer (record b { claims = claims }) (Grant v))
  changes_claims d v claims book books own others = search (rules, changes_one, runner_seen, deeded_seen, same_solo)

  pub claims : (claim address atoms page v : ℕ) → MayClaim (world_of b) e claim address atoms page → Serves b e (deeded (Claims claim address atoms page) v (solo_of b e)) (done (world_of b) e (Claims claim address atoms page)) (doing.after_grant b e v (Claims claim address atoms page))
  claims claim address atoms page v may = search (rules, claims_more, rings_claimed, rings_claimed_else, changes_claims, its_filter)

  pub unclaims : (claim v : ℕ) → Serves b e (deeded (Unclaims claim) v (solo_of b e)) (done (world_of b) e (Unclaims claim)) (doing.after_grant b e v (Unclaims claim))
  unclaims claim v = search (rules, claims_without, rings_unclaimed, rings_unclaimed_else, changes_claims)

  pub downloads : FirstIsNumbered → HasClaimNumbers b → (claim address words v : ℕ) → MayDownload (solo_of b e) claim address words → Serves b e (deeded (Downloads claim address words) v (solo_of b e)) (done (world_of b) e (Downloads claim address words)) (doing.after_grant b e v (Downloads claim address words))
  downloads law numbered claim address words v may =
      let handler = handler_or_none (handler_at (doing.look_of b e) address words) in
      let looks : doing.look_of b e ≡ sight (runner_solo b e x) = λ k v. its_look b e x r sound v k in
      let own : is_some (ring_of (rings_of b.claims e) claim) ≡ true = ap (λ (s : Solo). is_some (ring_of s.rings claim)) (sym (runner_seen b e x r)) ∙ may.own in
      changes_claims (Downloads claim address words) v (downloaded claim handler b.claims) (book_of b)
      (λ k. record (book_of b) { claims = claims_downloaded b.claims claim handler k })
      (λ k. record (runner_solo b e x) {
        rings = (rings_downloaded b.claims claim e handler ∙ (λ j. map (ring_with_handler_if claim (handler_or_none (handler_at (looks j) address words))) (rings_of b.claims e))) k;
      })
      (λ i ne. rings_downloaded_else law b.claims e claim i handler numbered own ne)

-- the book of claims where a filter that is named is granted
pub claimed_board : (b : Shown) (e address atoms page : ℕ) (filter : List Atom) → IsSoundBoard b → running b.slots.runner ≡ Some e → filter_at (sight (solo_of b e)) address atoms ≡ Ok filter → claim_refusal (claims_in b.claims) e filter ≡ None
    → record b { claims = claimed b.claims e filter page } ≡ doing.with_claimed b e address atoms page
claimed_board b e address atoms page filter sound runs named none =
    let its : filter_at (doing.look_of b e) address atoms ≡ Ok filter = ap (λ (look : ℕ → Option Mapped). filter_at look address atoms) (runner_look b e sound runs) ∙ named in
    (λ k. record b { claims = book_unless (none k) b.claims (with_claim b.claims e filter page) })
    ∙ (λ k. record b { claims = with_claim b.claims e (atoms_or_none (sym its k)) page })

-- filters that are named alike are one
pub one_filter : (named : Result (List Atom) Code) (f g : List Atom) → named ≡ Ok f → named ≡ Ok g → g ≡ f
one_filter named f g is other = let same : Ok f ≡ Ok g = sym is ∙ other in cc

-- the book of claims where a handler that is named is downloaded
pub downloaded_board : (b : Shown) (e claim address words : ℕ) (handler : List ℕ) → IsSoundBoard b → running b.slots.runner ≡ Some e → handler_at (sight (solo_of b e)) address words ≡ Ok handler
    → record b { claims = downloaded claim (handler_of_words handler) b.claims } ≡ doing.with_downloaded b e claim address words
downloaded_board b e claim address words handler sound runs named =
    let its : handler_at (doing.look_of b e) address words ≡ Ok handler = ap (λ (look : ℕ → Option Mapped). handler_at look address words) (runner_look b e sound runs) ∙ named in
    λ k. record b { claims = downloaded claim (handler_or_none (sym its k)) b.claims }

-- What each phase of a tick gives is licensed.
use Rattle.std.proofs.Common.{◌≡◌, ◌≢◌, ◌+◌, ◌-◌, ◌*◌, ℕ, zero, suc, List, [], ◌∷◌, ◌++◌, map, take, Bool, true, false, Option, Some, None, is_none, inl, inr, length, refl, sym, ◌∙◌, ap, subst, arith}
use Rattle.std.specs.Prelude.{◌==◌, if◌then◌else◌, nat_lt, not, slice_get}
use Rattle.std.specs.List.{All}
use Rattle.std.proofs.lemmas.Bool.{cond_both, eqb-true, eqb-false, ltb-true}
use Rattle.boot_image.specs.ImageValue.{ImageValue, ProgramValue}
use Rattle.frame_store.specs.Pages.{zero_page}
use Rattle.env_frames.specs.Transfer.{carried}
use Rattle.page_book.specs.declared.row.PageRow.{PageRow}
use Rattle.page_book.specs.declared.row.PageRow.TheVariants.{Free, Guaranteed, Owned}
use Rattle.page_book.specs.Row.{belongs_to, is_owned_by}
use Rattle.bind_book.specs.Stripe.{is_bound}
use Rattle.world_model.specs.declared.call.Call.{Call}
use Rattle.world_model.specs.declared.call.Deed.{Deed}
use Rattle.world_model.specs.declared.call.Deed.TheVariants.{Answers, Stops, Gives, Allocates, Frees, Recaps, Binds, Unbinds, Own, Transfers, TakesSlot, DropsSlot, TakesLine, DropsLine, Claims, Unclaims, Downloads, Loads}
use Rattle.world_model.specs.declared.hold.Hold.{Hold}
use Rattle.world_model.specs.declared.slot.Phase.{Phase}
use Rattle.world_model.specs.declared.slot.Phase.TheVariants as phase
use Rattle.world_model.specs.declared.slot.Runner.{Runner}
use Rattle.world_model.specs.declared.slot.Turn.{Turn}
use Rattle.world_model.specs.declared.verdict.Verdict.{Verdict}
use Rattle.world_model.specs.declared.verdict.Verdict.TheVariants.{Refuse, Again, Grant}
use Rattle.world_model.specs.Table.{set_at}
use Rattle.world_model.specs.Book.{Book, first_turn, is_idle_book, excess_after_forfeit, owed, pays_first, running, sees, turn_within, turn_from, whole_turn}
use Rattle.aegis_limits.specs.Limits.{excess_limit}
use Rattle.world_model.specs.Death.{death_items, lost_with}
use Rattle.external_event.specs.declared.event.Occurrence.{Occurrence}
use Rattle.external_event.specs.declared.event.Occurrence.TheVariants as outside
use Rattle.filter_tree.specs.ClaimBook.{ClaimValue}
use Rattle.world_model.specs.ClaimCalls.{claim_of}
use Rattle.revocation_book.specs.declared.revocation.Pending.{Pending}
use Rattle.revocation_book.specs.declared.revocation.Taking.{Taking}
use Rattle.revocation_book.specs.Pending.{asked}
use Rattle.revocation_book.specs.Takings.{AreTakable, TakingsAreTakable}
use Rattle.world_model.specs.Deadlines.{copy_left, takes}
use Rattle.world_model.specs.Event.{arrives, asks, happen, revokes, ring_bytes, ring_left, signals}
use Rattle.world_model.specs.Rings.{page_store, ring_of}
use Rattle.world_model.specs.Item.{Item, Step, Start, End, Transfer, Killed, Answer, Gained, Lost, Packet, Line, Asked, Taken, deed_at}
use Rattle.world_model.specs.May.{May, MayAsk}
use Rattle.world_model.specs.PageCalls.{lost_bindings, left_at, left_by, left_if, lost_if, page_bytes, revocations}
use Rattle.world_model.specs.Solo.{Store, Key, Kept, Physical}
use Rattle.world_model.specs.Step.{Act, Nothing, Stores, Calls, Raises, Dies}
use Rattle.world_model.specs.Tick.{act_now, act_reply, count_when, kill, owes_more, phases_after, serve_phases, served, step, step_when, take_turn, tick_phases, timer, turn, turn_when, timer_reply, handles_end}
use Rattle.world_model.specs.declared.timer.Timer.TheVariants as answer
use Rattle.world_model.specs.Verdict.{asks_one, done, reply_by_verdict, reply_to, verdict}
use Rattle.world_model.specs.World.{World, Reply, after, in_turn, is_living, no_change, no_items, only, run_phases, tells}
use Rattle.world_model.proofs.Slots.{holder_in}
use Rattle.call_verdicts.specs.Granted.{AgainAsks, GrantedMay}
use Rattle.run_model.specs.Acting.{Acts, Does}
use Rattle.run_model.specs.Boot.{boot_items, record_items}
use Rattle.run_model.specs.Licensed.{AtArrival, AtBoot, AtEvent, AtRevocation, AtSignal, AtStep, AtTaking, AtTimer, AtTurn, Breaks, ByDeath, ByFree, ByRecap, FeedIsLicensed, GivenIsLicensed, IsOut, IsOverdue, IsGivenInPhase, Licensed, LicensedAt, LicensedBehind, LicensedIn, MayTaking}
use Rattle.run_model.specs.Live.{HasLiveBinding, StoresAreLive}
use Rattle.run_model.specs.Run.{System, after_phase, feed, given_at, given_below, given_by, happens_in, items_in, next_phases, once_happened, phases_in, takings_in, world_after}
use Rattle.run_model.proofs.Phases.{moments_in_order, phases_give}
use Rattle.run_model.proofs.NextTurn.{Found, search_finds}
use Rattle.run_model.proofs.Telling.{call_does, call_named, call_stands, deed_may}
use Rattle.world_model.specs.Timer.{timer_at_end}

-- each of these items is so
abbrev Each : (Item → Type 0) → List Item → Type 0
Each P [] = Unit {0}
Each P (item ∷ items) = P item × Each P items

each_both : (P : Item → Type 0) (xs ys : List Item) → Each P xs → Each P ys → Each P (xs ++ ys)
each_both P [] ys first next = next
each_both P (x ∷ xs) ys (its, rest) next = (its, each_both P xs ys rest next)

each_all : (P : Item → Type 0) (xs : List Item) → Each P xs → All P xs
each_all P [] each k d below = absurd (omega arith)
each_all P (x ∷ xs) (its, rest) zero d below = its
each_all P (x ∷ xs) (its, rest) (suc k) d below = each_all P xs rest k d (omega arith)

each_if : (P Q : Item → Type 0) (xs : List Item) → ((item : Item) → P item → Q item) → Each P xs → Each Q xs
each_if P Q [] also each = tt
each_if P Q (x ∷ xs) also (its, rest) = (also x its, each_if P Q xs also rest)

-- what one is given, and what the others are
each_at : (P : ℕ → Item → Type 0) (n : ℕ) (xs : List Item) (f : ℕ → List Item) (i : ℕ) → Each (P n) xs → (i ≢ n → Each (P i) (f i)) → Each (P i) (set_at n xs f i)
each_at P n xs f i its others =
    cond_both (i == n) xs (f i) (Each (P i)) (λ same. subst (λ (m : ℕ). Each (P m) xs) (sym (eqb-true i n same)) its) (λ other. others (eqb-false i n other))

each_only : (P : ℕ → Item → Type 0) (n : ℕ) (xs : List Item) (i : ℕ) → Each (P n) xs → Each (P i) (only n xs i)
each_only P n xs i its = each_at P n xs no_items i its (λ other. tt)

-- the bindings of a page that are broken
each_break : (P : Item → Type 0) (b : Book) (page i : ℕ) → (is_bound page (b.binds i) ≡ true → P (Lost page)) → Each P (lost_bindings b page i)
each_break P b page i its = by_test (is_bound page (b.binds i)) refl
  where
    by_test : (t : Bool) → is_bound page (b.binds i) ≡ t → Each P (lost_if t page)
    by_test true bound = (its bound, tt)
    by_test false bound = tt

each_loss : (P : Item → Type 0) (b : Book) (gone i n : ℕ) → ((page : ℕ) → belongs_to gone (b.pages page) ≡ true → is_bound page (b.binds i) ≡ true → P (Lost page)) → Each P (lost_with b gone i n)
each_loss P b gone i zero its = tt
each_loss P b gone i (suc n) its =
    each_both P (lost_with b gone i n) (if belongs_to gone (b.pages n) then lost_bindings b n i else []) (each_loss P b gone i n its)
    (cond_both (belongs_to gone (b.pages n)) (lost_bindings b n i) [] (Each P) (λ owned. each_break P b n i (its n owned)) (λ other. tt))

each_death : (P : Item → Type 0) (b : Book) (gone i : ℕ) → (i ≢ gone → (page : ℕ) → belongs_to gone (b.pages page) ≡ true → is_bound page (b.binds i) ≡ true → P (Lost page)) → Each P (death_items b gone i)
each_death P b gone i its =
    cond_both (i == gone) [] (lost_with b gone i b.page_count) (Each P) (λ own. tt) (λ other. each_loss P b gone i b.page_count (its (eqb-false i gone other)))

-- What happens from outside, kind by kind.
signal_licensed : (line : ℕ) (w : World) (i : ℕ) → Each (AtSignal line w i) ((signals line (w.book.lines line) w).items i)
signal_licensed line w i = by_owner (w.book.lines line) refl
  where
    by_owner : (owner : Option ℕ) → w.book.lines line ≡ owner → Each (AtSignal line w i) ((signals line owner w).items i)
    by_owner None its = tt
    by_owner (Some e) its = each_only (AtSignal line w) e (Line line ∷ []) i (record { its = its; same = refl }, tt)

arrival_licensed : (packet : List ℕ) (w : World) (i : ℕ) → Each (AtArrival packet w i) ((arrives packet (claim_of w.book packet) w).items i)
arrival_licensed packet w i = by_claim (claim_of w.book packet) refl
  where
    by_sight : (c : ClaimValue) (bytes : List ℕ) → claim_of w.book packet ≡ Some c → ring_bytes (w.solos c.env) (ring_of (w.solos c.env).rings c.id) packet ≡ Some bytes → i ≢ c.env
        → (t : Bool) → sees w.book i c.page ≡ t → Each (AtArrival packet w i) (left_if t c.page (page_store c.page bytes))
    by_sight c bytes goes filled other true seen = (record { lowest = c; goes = goes; another = other; into = refl; filled = filled; whole = refl; seen = seen }, tt)
    by_sight c bytes goes filled other false seen = tt

    by_ring : (c : ClaimValue) → claim_of w.book packet ≡ Some c → i ≢ c.env → (bytes : Option (List ℕ)) → ring_bytes (w.solos c.env) (ring_of (w.solos c.env).rings c.id) packet ≡ bytes
        → Each (AtArrival packet w i) (ring_left w.book c.env c.page bytes i)
    by_ring c goes other None lost = tt
    by_ring c goes other (Some bytes) filled =
        let seen = sees w.book i c.page in
        cond_both (i == c.env) [] (left_if seen c.page (page_store c.page bytes)) (Each (AtArrival packet w i)) (λ own. tt) (λ its. by_sight c bytes goes filled other seen refl)

    by_claim : (o : Option ClaimValue) → claim_of w.book packet ≡ o → Each (AtArrival packet w i) ((arrives packet o w).items i)
    by_claim None goes = tt
    by_claim (Some c) goes =
        let s = w.solos c.env in
        let bytes = ring_bytes s (ring_of s.rings c.id) packet in
        each_at (AtArrival packet w) c.env (Packet c.id packet ∷ []) (ring_left w.book c.env c.page bytes) i
        (record { lowest = c; goes = goes; its = refl; number = refl; same = refl }, tt)
        (λ other. by_ring c goes other bytes refl)

revocation_licensed : (named count until : ℕ) (w : World) (i : ℕ) → Each (AtRevocation named count until w i) ((revokes named count until w).items i)
revocation_licensed named count until w i =
    let pending = asked count until (w.book.pending named) in
    cond_both (is_living w named) (asks named pending w) (no_change w) (λ (r : Reply). Each (AtRevocation named count until w i) (r.items i)) (λ lives. by_pending lives pending refl) (λ gone. tt)
  where
    by_pending : is_living w named ≡ true → (o : Option Pending) → asked count until (w.book.pending named) ≡ o → Each (AtRevocation named count until w i) ((asks named o w).items i)
    by_pending lives None its = tt
    by_pending lives (Some p) its = each_only (AtRevocation named count until w) named (Asked p.outstanding p.deadline ∷ []) i (record { its = refl; lives = lives; pending = its }, tt)

event_licensed : (what : Occurrence) (w : World) (i : ℕ) → Each (AtEvent what w i) ((happen what w).items i)
event_licensed (outside.Packet packet) w i = arrival_licensed packet w i
event_licensed (outside.Line line) w i = signal_licensed line w i
event_licensed (outside.Revoke env count grace) w i = revocation_licensed env count (w.book.time + grace) w i

-- The turn: who runs in it holds its slot, and owes nothing.
abbrev IsFree : (ℕ → Option Hold) → (ℕ → ℕ) → Turn → Type 0
IsFree slots excess t = (holder_in (slots t.slot) ≡ Some t.env) × (excess t.env ≡ 0)

module _ (slots : ℕ → Option Hold) (count : ℕ) where
  found_free : (n cursor : ℕ) (excess : ℕ → ℕ) (t : Turn) → ((c : ℕ) (x : ℕ → ℕ) → (turn_from slots count n c x).runs ≡ Some t → IsFree slots (turn_from slots count n c x).excess t)
      → (o : Option Turn) → Found slots count cursor count o → (turn_within (turn_from slots count n) cursor excess o).runs ≡ Some t → IsFree slots (turn_within (turn_from slots count n) cursor excess o).excess t
  found_free n cursor excess t further None found is = cc
  found_free n cursor excess t further (Some x) found is = by_test (excess x.env == 0) refl is
    where
      by_test : (free : Bool) → (excess x.env == 0) ≡ free
          → (if free then record { pays = []; runs = Some x; excess = excess; cursor = x.slot } else pays_first x (turn_from slots count n x.slot (excess_after_forfeit x.env excess))).runs ≡ Some t
          → IsFree slots (if free then record { pays = []; runs = Some x; excess = excess; cursor = x.slot } else pays_first x (turn_from slots count n x.slot (excess_after_forfeit x.env excess))).excess t
      by_test true free is = let same : x ≡ t = cc in subst (λ (y : Turn). IsFree slots excess y) same (found.held, eqb-true (excess x.env) 0 free)
      by_test false owes is = further x.slot (excess_after_forfeit x.env excess) is

  told_free : (n cursor : ℕ) (excess : ℕ → ℕ) (t : Turn) → (turn_from slots count n cursor excess).runs ≡ Some t → IsFree slots (turn_from slots count n cursor excess).excess t
  told_free zero cursor excess t is = cc
  told_free (suc n) cursor excess t is =
      found_free n cursor excess t (λ c x runs. told_free n c x t runs) (first_turn slots count cursor count) (search_finds slots count cursor count) is

turn_licensed : (w : World) (i : ℕ) → Each (AtTurn w i) ((turn w).items i)
turn_licensed w i = by_runner w.book.runner refl
  where
    by_turn : w.book.runner ≡ None → (o : Option Turn) → (whole_turn w.book).runs ≡ o → Each (AtTurn w i) ((take_turn w (whole_turn w.book) o).items i)
    by_turn nobody None runs = tt
    by_turn nobody (Some t) runs =
        let b = w.book in
        let is = told_free b.slots b.slot_count (suc (owed b.excess b.slots b.slot_count)) b.cursor b.excess t runs in
        each_only (AtTurn w) t.env (Start ∷ []) i (record { nobody = nobody; turn = t; runs = runs; its = refl; holds = is.0; free = is.1 }, tt)

    by_runner : (o : Option Runner) → w.book.runner ≡ o → Each (AtTurn w i) ((turn_when w o).items i)
    by_runner None nobody = by_turn nobody (whole_turn w.book).runs refl
    by_runner (Some r) runs = tt

-- What belongs to an environment
owned_belongs : (e : ℕ) (row : PageRow) → is_owned_by e row ≡ true → belongs_to e row ≡ true
owned_belongs e Free owned = cc
owned_belongs e (Guaranteed owner) owned = cc
owned_belongs e (Owned owner words) owned = owned

-- A page that is taken, where it may be.
module _ (x : Taking) (w : World) (may : MayTaking w x) (i : ℕ) where
  copy_licensed : i ≢ x.env → (backup : Option ℕ) → x.backup ≡ backup → Each (AtTaking x w i) (copy_left w x backup i)
  copy_licensed other None into = tt
  copy_licensed other (Some backup) into =
      cond_both (i == x.env) [] (left_if (sees w.book i backup) backup its) (Each (AtTaking x w i)) (λ own. tt) (λ others. by_sight (sees w.book i backup) refl)
    where
      its : Store
      its = page_store backup (page_bytes w x.page)

      by_sight : (t : Bool) → sees w.book i backup ≡ t → Each (AtTaking x w i) (left_if t backup its)
      by_sight true seen = (record { may = may; another = other; into = into; whole = refl; its = refl; seen = seen }, tt)
      by_sight false seen = tt

  taking_licensed : Each (AtTaking x w i) ((takes x w).items i)
  taking_licensed =
      let owned = owned_belongs x.env (w.book.pages x.page) may.owned in
      each_at (AtTaking x w) x.env (Taken x.page x.backup ∷ []) (λ e. copy_left w x x.backup e ++ lost_bindings w.book x.page e) i (record { may = may; its = refl }, tt)
      (λ other. each_both (AtTaking x w i) (copy_left w x x.backup i) (lost_bindings w.book x.page i) (copy_licensed other x.backup refl)
      (each_break (AtTaking x w i) w.book x.page i (λ bound. record { may = may; its = refl; has = record { another = other; owned = owned; bound = bound } })))

-- In this world a store to a page that isn't guaranteed goes through a live binding.
abbrev StoresIn : System → ℕ → World → Type 0
StoresIn system t w = (e : ℕ) (x : Store) (page : ℕ) → Acts w e (Stores x) → x.key ≡ Physical page → HasLiveBinding system t e page

-- The step of a runner.
module _ (system : System) (t : ℕ) (w : World) (e : ℕ) where
  -- what others lose of a page of the runner's
  broken : (page : ℕ) → belongs_to e (w.book.pages page) ≡ true → Breaks w e page → (i : ℕ) → i ≢ e → Each (AtStep system t w i) (lost_bindings w.book page i)
  broken page owned why i other = each_break (AtStep system t w i) w.book page i (λ bound. inr (record { owner = e; has = record { another = other; owned = owned; bound = bound }; breaks = why }))

  deed_licensed : (d : Deed) → Does w e d → May w e d → (i : ℕ) → Each (AtStep system t w i) ((done w e d).items i)
  deed_licensed Answers does may i = tt
  deed_licensed Stops does may i = tt
  deed_licensed (Gives target) does may i = each_only (AtStep system t w) target (Start ∷ []) i (record { giver = e; does = does; may = may }, tt)
  deed_licensed (Own own) does may i = tt
  deed_licensed (Allocates page words) does may i =
      each_only (AtStep system t w) e (Gained page true zero_page ∷ []) i (inl (record { words = words; does = does; may = may; mode = refl; zeros = refl }), tt)
  deed_licensed (Frees page) does may i =
      each_at (AtStep system t w) e (Lost page ∷ []) (lost_bindings w.book page) i (inl (record { does = does; may = may }), tt) (broken page (owned_belongs e (w.book.pages page) may.owned) (ByFree does) i)
  deed_licensed (Recaps page words) does may i =
      each_at (AtStep system t w) e [] (lost_bindings w.book page) i tt (broken page (owned_belongs e (w.book.pages page) may.owned) (ByRecap words does) i)
  deed_licensed (Binds b word) does may i =
      each_only (AtStep system t w) e (Gained b.page b.writable (page_bytes w b.page) ∷ []) i
      (inr (record { binding = b; word = word; does = does; may = may; its = refl; mode = refl; same = refl }), tt)
  deed_licensed (Unbinds vpn) does may i = tt
  deed_licensed (Transfers target kind) does may i =
      each_only (AtStep system t w) target (Transfer e kind (carried (w.solos e).cpu) ∷ []) i (record { does = does; may = may; its = refl }, tt)
  deed_licensed (TakesSlot slot) does may i = tt
  deed_licensed (DropsSlot slot) does may i = tt
  deed_licensed (TakesLine line) does may i = tt
  deed_licensed (DropsLine line) does may i = tt
  deed_licensed (Claims claim address atoms page) does may i = tt
  deed_licensed (Unclaims claim) does may i = tt
  deed_licensed (Downloads claim address words) does may i = tt
  deed_licensed (Loads page) does may i = tt

  -- an environment that is asked for a page
  pressed_licensed : (c : Option Call) (who : ℕ) → Acts w e (Calls c) → verdict w e c ≡ Again who → MayAsk w e who → is_none (w.book.pending who) ≡ true → (i : ℕ) (item : Item)
      → AtRevocation who 1 (w.book.time + 2 * w.book.quantum) w i item → AtStep system t w i item
  pressed_licensed c who acts is may nothing i (Asked outstanding deadline) its =
      let same : who ≡ i = its.its in
      record {
        caller = e;
        answered = record { call = c; acts = acts; its = is ∙ ap Again same };
        may = subst (λ (n : ℕ). MayAsk w e n) same may;
        nothing = subst (λ (n : ℕ). is_none (w.book.pending n) ≡ true) same nothing;
        asks = record { its = refl; lives = its.lives; pending = its.pending };
      }
  pressed_licensed c who acts is may nothing i item its = absurd its

  module _ (granted : GrantedMay) (again : AgainAsks) (live : StoresIn system t w) where
    call_licensed : (c : Option Call) → Acts w e (Calls c) → (i : ℕ) → Each (AtStep system t w i) ((reply_to w e c).items i)
    call_licensed c acts i = by_verdict (verdict w e c) refl
      where
        answered : (v : Verdict) → verdict w e c ≡ v → Each (AtStep system t w i) (only e (Answer v ∷ []) i)
        answered v is = each_only (AtStep system t w) e (Answer v ∷ []) i (record { call = c; acts = acts; its = is }, tt)

        asked_licensed : (who : ℕ) → verdict w e c ≡ Again who → Each (AtStep system t w i) ((asks_one who w).items i)
        asked_licensed who is =
            let until = w.book.time + 2 * w.book.quantum in
            cond_both (is_none (w.book.pending who)) (revokes who 1 until w) (no_change w) (λ (r : Reply). Each (AtStep system t w i) (r.items i))
            (λ nothing. each_if (AtRevocation who 1 until w i) (AtStep system t w i) ((revokes who 1 until w).items i) (pressed_licensed c who acts is (again w e c who is) nothing i) (revocation_licensed who 1 until w i))
            (λ pending. tt)

        by_verdict : (v : Verdict) → verdict w e c ≡ v → Each (AtStep system t w i) ((reply_by_verdict w e v).items i)
        by_verdict (Refuse code value) is = answered (Refuse code value) is
        by_verdict (Again who) is = each_both (AtStep system t w i) (only e (Answer (Again who) ∷ []) i) ((asks_one who w).items i) (answered (Again who) is) (asked_licensed who is)
        by_verdict (Grant value) is =
            let d = deed_at (w.solos e) value in
            each_both (AtStep system t w i) (only e (Answer (Grant value) ∷ []) i) ((done w e d).items i) (answered (Grant value) is)
            (deed_licensed d (call_does w e c acts value is) (deed_may granted w e c (call_named w e c acts.comes) value is) i)

    store_licensed : (x : Store) → Acts w e (Stores x) → (i : ℕ) → Each (AtStep system t w i) (left_by w.book e x i)
    store_licensed x acts i = by_key x.key refl
      where
        by_sight : (page : ℕ) → x.key ≡ Physical page → i ≢ e → (sight : Bool) → sees w.book i page ≡ sight → Each (AtStep system t w i) (left_if sight page x)
        by_sight page into other true seen = (record { writer = e; another = other; store = x; acts = acts; into = into; at = refl; its = refl; right = live e x page acts into; seen = seen }, tt)
        by_sight page into other false seen = tt

        by_key : (key : Key) → x.key ≡ key → Each (AtStep system t w i) (left_at w.book e x key i)
        by_key (Kept vpn) into = tt
        by_key (Physical page) into =
            let seen = sees w.book i page in
            cond_both (i == e) [] (left_if seen page x) (Each (AtStep system t w i)) (λ own. tt) (λ other. by_sight page into (eqb-false i e other) seen refl)

    act_licensed : (act : Act) → Acts w e act → (i : ℕ) → Each (AtStep system t w i) ((act_reply e act (after w (tells e Step w))).items i)
    act_licensed Nothing acts i = tt
    act_licensed (Stores x) acts i = store_licensed x acts i
    act_licensed (Calls c) acts i = subst (λ (v : World). Each (AtStep system t w i) ((act_reply e (Calls c) v).items i)) (sym (call_stands w e c acts.comes)) (call_licensed c acts i)
    act_licensed (Raises exc) acts i = tt
    act_licensed (Dies cause) acts i =
        each_death (AtStep system t w i) w.book e i (λ other page owned bound. inr (record { owner = e; has = record { another = other; owned = owned; bound = bound }; breaks = ByDeath cause acts }))

step_licensed : GrantedMay → AgainAsks → (system : System) (t : ℕ) (w : World) → StoresIn system t w → (i : ℕ) → Each (AtStep system t w i) ((step w).items i)
step_licensed granted again system t w live i = by_runner w.book.runner refl
  where
    by_runner : (o : Option Runner) → w.book.runner ≡ o → Each (AtStep system t w i) ((step_when w o).items i)
    by_runner None runs = tt
    by_runner (Some r) runs =
        let e = r.env in
        let act = act_now w e in
        let items = (act_reply e act (after w (tells e Step w))).items i in
        each_both (AtStep system t w i) (only e (Step ∷ []) i) (items ++ []) (each_only (AtStep system t w) e (Step ∷ []) i (ap running runs, tt))
        (each_both (AtStep system t w i) items [] (act_licensed system t w e granted again live act (record { runs = ap running runs; comes = refl }) i) tt)

-- The timer.
module _ (w : World) (r : Runner) (runs : w.book.runner ≡ Some r) (i : ℕ) where
  abbrev e : ℕ
  e = r.env

  -- the world once its excess has risen
  abbrev owing : World
  owing = after w (owes_more e w)

  kill_licensed : IsOverdue w e → Each (AtTimer w i) ((kill e owing).items i)
  kill_licensed overdue =
      let lost = death_items (after owing (tells e Killed owing)).book e i in
      each_both (AtTimer w i) (only e (Killed ∷ []) i) (lost ++ []) (each_only (AtTimer w) e (Killed ∷ []) i (overdue, tt))
      (each_both (AtTimer w i) lost []
      (each_death (AtTimer w i) (after owing (tells e Killed owing)).book e i (λ other page owned bound. record { owner = e; has = record { another = other; owned = owned; bound = bound }; overdue = overdue })) tt)

  answer_licensed : (last : Bool) → (r.left == 1) ≡ last
      → Each (AtTimer w i) ((timer_reply r (if last then timer_at_end r.phase (handles_end w e) (w.book.excess e) else answer.Nothing) w).items i)
  answer_licensed false more = tt
  answer_licensed true one = by_phase r.phase refl
    where
      out : (p : Phase) → r.phase ≡ p → IsOut w e p
      out p is = record { runner = r; runs = runs; its = refl; so = is; last = ap (λ (left : ℕ). left - 1) (eqb-true r.left 1 one) }

      by_handler : r.phase ≡ phase.Own → (none : Bool) → ((w.solos e).handlers.end == 0) ≡ none
          → Each (AtTimer w i) ((timer_reply r (timer_at_end phase.Own (not none) (w.book.excess e)) w).items i)
      by_handler own true is = tt
      by_handler own false is = each_only (AtTimer w) e (End ∷ []) i (record { out = out phase.Own own; handles = eqb-false (w.solos e).handlers.end 0 is }, tt)

      by_excess : r.phase ≡ phase.Grace → (over : Bool) → nat_lt excess_limit (w.book.excess e + 1) ≡ over
          → Each (AtTimer w i) ((timer_reply r (if over then answer.Kill else answer.Over (w.book.excess e + 1)) w).items i)
      by_excess grace true is = each_both (AtTimer w i) ((kill e owing).items i) [] (kill_licensed (record { out = out phase.Grace grace; owes = ltb-true excess_limit (w.book.excess e + 1) is })) tt
      by_excess grace false is = tt

      by_phase : (p : Phase) → r.phase ≡ p → Each (AtTimer w i) ((timer_reply r (timer_at_end p (handles_end w e) (w.book.excess e)) w).items i)
      by_phase phase.Own own = by_handler own ((w.solos e).handlers.end == 0) refl
      by_phase phase.Grace grace = by_excess grace (nat_lt excess_limit (w.book.excess e + 1)) refl

timer_licensed : (w : World) (i : ℕ) → Each (AtTimer w i) ((timer w).items i)
timer_licensed w i = each_both (AtTimer w i) ((count_when w.book.runner w).items i) [] (by_runner w.book.runner refl) tt
  where
    by_runner : (o : Option Runner) → w.book.runner ≡ o → Each (AtTimer w i) ((count_when o w).items i)
    by_runner None runs = tt
    by_runner (Some r) runs = answer_licensed w r runs i (r.left == 1) refl

-- Phase by phase, where what is taken may be, and the step's store goes through a live binding.
module _ (granted : GrantedMay) (again : AgainAsks) (system : System) (t : ℕ) where
  -- the step's world, from the world in which this is taken on
  abbrev stepping : List Taking → World → World
  stepping xs w = after_phase turn (run_phases w (serve_phases xs))

  behind_licensed : (xs : List Taking) (w : World) → AreTakable (revocations w.book) w.book.time xs → StoresIn system t (stepping xs w)
      → (k e : ℕ) → (let m = run_phases w (take k (tick_phases xs)) in Each (LicensedBehind system t xs k m e) (given_by m (slice_get (tick_phases xs) k) e))
  behind_licensed [] w may live zero e = tt
  behind_licensed [] w may live (suc zero) e = turn_licensed (run_phases w (take 1 (tick_phases []))) e
  behind_licensed [] w may live (suc (suc zero)) e = step_licensed granted again system t (run_phases w (take 2 (tick_phases []))) live e
  behind_licensed [] w may live (suc (suc (suc zero))) e = timer_licensed (run_phases w (take 3 (tick_phases []))) e
  behind_licensed [] w may live (suc (suc (suc (suc k)))) e = tt
  behind_licensed (x ∷ xs) w (may, rest) live zero e = taking_licensed x w may e
  behind_licensed (x ∷ xs) w (may, rest) live (suc k) e = behind_licensed xs (after w (takes x w)) rest live k e

  phase_licensed : (happens : List Occurrence) (xs : List Taking) (w : World)
      → (let v = run_phases w (map happen happens) in AreTakable (revocations v.book) v.book.time xs) → StoresIn system t (stepping xs (run_phases w (map happen happens)))
      → (k e : ℕ) → (let m = run_phases w (take k (phases_after happens xs)) in Each (LicensedIn system t happens xs k m e) (given_by m (slice_get (phases_after happens xs) k) e))
  phase_licensed [] xs w may live k e = behind_licensed xs w may live k e
  phase_licensed (what ∷ happens) xs w may live zero e = event_licensed what w e
  phase_licensed (what ∷ happens) xs w may live (suc k) e = phase_licensed happens xs (after w (happen what w)) may live k e

-- an item of a list stands in its first or its second part
data Place (xs ys : List Item) (n : ℕ) (item : Item) : Type 0 where
  Early : slice_get xs n ≡ Some item → Place xs ys n item
  Late : (m : ℕ) → n ≡ length xs + m → slice_get ys m ≡ Some item → Place xs ys n item

place_later : (x : Item) (xs ys : List Item) (n : ℕ) (item : Item) → Place xs ys n item → Place (x ∷ xs) ys (suc n) item
place_later x xs ys n item (Early is) = Early is
place_later x xs ys n item (Late m stands is) = Late m (omega (arith, stands)) is

place_in : (xs ys : List Item) (n : ℕ) (item : Item) → slice_get (xs ++ ys) n ≡ Some item → Place xs ys n item
place_in [] ys n item is = Late n (omega arith) is
place_in (x ∷ xs) ys zero item is = Early is
place_in (x ∷ xs) ys (suc n) item is = place_later x xs ys n item (place_in xs ys n item is)

each_place : (P : Item → Type 0) (xs : List Item) → Each P xs → (n : ℕ) (item : Item) → slice_get xs n ≡ Some item → P item
each_place P [] each n item is = cc
each_place P (x ∷ xs) (its, rest) zero item is = let same : x ≡ item = cc in subst P same its
each_place P (x ∷ xs) (its, rest) (suc n) item is = each_place P xs rest n item is

module _ (granted : GrantedMay) (again : AgainAsks) (takable : TakingsAreTakable) (live : StoresAreLive) where
  given_licensed : (system : System) (t k e : ℕ) → Each (LicensedAt system t k e) (given_at system t k e)
  given_licensed system t k e =
      let w = world_after system t in
      let v = once_happened system.schedule w in
      let order = moments_in_order system t in
      let stepped = order.turned ∙ ap (after_phase turn) (order.served ∙ ap served order.happened) in
      phase_licensed granted again system t (happens_in system.schedule w) (takings_in system t) w (takable (revocations v.book) v.book.time v.count)
      (subst (StoresIn system t) stepped (live system t)) k e

  pub given_is_licensed : GivenIsLicensed
  given_is_licensed system t k e = each_all (LicensedAt system t k e) (given_at system t k e) (given_licensed system t k e)

  -- in a tick
  module _ (system : System) (t e n : ℕ) (item : Item) where
    abbrev Given : ℕ → Type 0
    Given m = n ≡ length (feed system e t) + m → IsGivenInPhase system (suc t) e n item

    here : (k m : ℕ) → Place (given_below system t k e) (given_at system t k e) m item → (slice_get (given_below system t k e) m ≡ Some item → Given m) → Given m
    here k m (Early is) before = before is
    here k m (Late place at is) before = λ stands. record {
      tick = t;
      earlier = omega arith;
      phase = k;
      place = place;
      there = is;
      stands = omega (arith, stands, at);
      licence = each_place (LicensedAt system t k e) (given_at system t k e) (given_licensed system t k e) place item is;
    }

    phase_place : (k m : ℕ) → slice_get (given_below system t k e) m ≡ Some item → Given m
    phase_place zero m is = cc
    phase_place (suc k) m is = here k m (place_in (given_below system t k e) (given_at system t k e) m item is) (phase_place k m)

    tick_place : (m : ℕ) → slice_get (items_in system t e) m ≡ Some item → Given m
    tick_place m is = by_idle (is_idle_book (world_after system t).book) refl
      where
        by_idle : (idle : Bool) → is_idle_book (world_after system t).book ≡ idle → Given m
        by_idle true idle =
            let none : slice_get {X = Item} [] m ≡ Some item = ap (λ (i : Bool). slice_get (if i then [] else (in_turn (next_phases system.schedule (world_after system t)) (world_after system t)).items e) m) (sym idle) ∙ is in
            cc
        by_idle false busy = phase_place (phases_in system t) m (ap (λ items. slice_get items m) (sym (phases_give system t e busy)) ∙ is)

  -- at boot
  boot_licensed : (image : ImageValue) (e : ℕ) → Each (AtBoot image e) (boot_items image e)
  boot_licensed image e = by_program (slice_get image.programs e) refl
    where
      by_program : (o : Option ProgramValue) → slice_get image.programs e ≡ o → Each (AtBoot image e) (record_items image.version e o)
      by_program None there = tt
      by_program (Some p) there = (record { program = p; there = there; version_is = refl; number_is = refl; name_is = refl; entry_is = refl; accept_is = refl; kept_is = refl }, tt)

  -- and in a feed
  later : (system : System) (t e n : ℕ) (item : Item) → Licensed system t e n item → Licensed system (suc t) e n item
  later system t e n item (inl boot) = inl boot
  later system t e n item (inr its) =
      inr (record { tick = its.tick; earlier = omega (arith, its.earlier); phase = its.phase; place = its.place; there = its.there; stands = its.stands; licence = its.licence })

  next_licensed : (system : System) (t e n : ℕ) (item : Item) → Place (feed system e t) (items_in system t e) n item
      → (slice_get (feed system e t) n ≡ Some item → Licensed system t e n item) → Licensed system (suc t) e n item
  next_licensed system t e n item (Early is) before = later system t e n item (before is)
  next_licensed system t e n item (Late m stands is) before = inr (tick_place system t e n item m is stands)

  pub feed_is_licensed : FeedIsLicensed
  feed_is_licensed system zero e n item is = inl (record { there = is; licence = each_place (AtBoot system.image e) (boot_items system.image e) (boot_licensed system.image e) n item is })
  feed_is_licensed system (suc t) e n item is = next_licensed system t e n item (place_in (feed system e t) (items_in system t e) n item is) (feed_is_licensed system t e n item)

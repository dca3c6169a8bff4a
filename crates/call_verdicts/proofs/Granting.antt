-- What a granted call's deed presupposes, the world has.
use Rattle.std.proofs.Common.{◌≡◌, ◌<◌, ◌≤◌, ◌+◌, ℕ, List, Bool, true, false, Option, Some, None, is_none, is_some, Result, Ok, Err, arith, refl, ap, subst, ◌∙◌, inl, inr, ◌⊎◌, length}
use Rattle.std.specs.Prelude.{not, ◌==◌, ◌&&◌, ◌||◌, nat_le, nat_lt, if◌then◌else◌}
use Rattle.std.specs.Option.{option_map, option_or}
use Rattle.std.proofs.lemmas.Bool.{and_parts, eqb-true, leb-false, leb-true, ltb-false, ltb-true, not-false}
use Rattle.aegis_limits.specs.declared.version.Version.{Version}
use Rattle.aegis_limits.specs.declared.version.Version.TheVariants.{One, Two}
use Rattle.aegis_limits.specs.Limits.{console_size, vpn_end}
use Rattle.external_event.specs.Limits.{least_frame_size, lines, most_packet_size, most_sent}
use Rattle.mips_exec.specs.Cpu.{reg}
use Rattle.env_frames.specs.declared.context.Context.{Context}
use Rattle.env_frames.specs.Context.{context_numbered}
use Rattle.env_frames.specs.declared.transfer.TransferKind.{TransferKind}
use Rattle.env_frames.specs.Transfer.{hands_slot, transfer_numbered}
use Rattle.page_book.specs.declared.row.PageRow.{PageRow}
use Rattle.page_book.specs.declared.row.PageRow.TheVariants.{Free, Guaranteed, Owned}
use Rattle.page_book.specs.declared.refusal.PageNo.TheVariants as no
use Rattle.filter_core.specs.declared.atom.Atom.{Atom}
use Rattle.filter_tree.specs.declared.claim.ClaimNo.{ClaimNo}
use Rattle.filter_tree.specs.declared.claim.ClaimNo.TheVariants as claim_no
use Rattle.filter_tree.specs.Claims.{claim_refusal}
use Rattle.page_book.specs.Row.{alloc_refusal, bind_refusal, change_refusal, gives_right, is_owned_by}
use Rattle.page_book.specs.Rows.{IsLowestFree, lowest_free}
use Rattle.bind_book.specs.Stripe.{binding_at}
use Rattle.world_model.specs.declared.call.Call.TheVariants as call
use Rattle.world_model.specs.declared.code.Code.{Code}
use Rattle.world_model.specs.declared.code.Code.TheVariants as code
use Rattle.world_model.specs.declared.hold.Hold.{Hold}
use Rattle.world_model.specs.declared.verdict.Verdict.TheVariants.{Refuse, Grant}
use Rattle.world_model.specs.declared.verdict.HandlerNo.{HandlerNo}
use Rattle.world_model.specs.declared.verdict.HandlerNo.TheVariants as handler_no
use Rattle.world_model.specs.Downloads.{MayDownload, download_verdict, handler_at}
use Rattle.world_model.specs.Rings.{ring_of}
use Rattle.world_model.specs.Answer.{granted_unless}
use Rattle.world_model.specs.Book.{Book, page_row}
use Rattle.world_model.specs.Call.{any, binding_of, presented}
use Rattle.world_model.specs.Code.{code_of}
use Rattle.world_model.specs.Call.{context_deed, good_range, line_deed, transfer_deed, yield_deed}
use Rattle.world_model.specs.ClaimCalls.{claim_by, claim_verdict, filter_at, page_verdict}
use Rattle.revocation_book.specs.Backups.{load_refusal}
use Rattle.revocation_book.specs.Richest.{richest}
use Rattle.world_model.specs.BackupCalls.{code_of_load, refusal_of_load}
use Rattle.world_model.specs.LineCalls.{is_line_of, is_line_of_other, refusal_of_line, refusal_of_line_drop, refusal_of_line_take}
use Rattle.world_model.specs.OwnCalls.{MayPut, MaySend, is_frame_size, put_bytes}
use Rattle.world_model.specs.May.{HasRight, May, MayAllocate, MayClaim, MayBind, MayChange, MayDrop, MayEnter, MayLoad, MayMap, MayReach, MayTake}
use Rattle.world_model.specs.PageCalls.{alloc, any_page, is_guaranteed_vpn, pressed, revocations, vpn_refusal, refusal_of_change}
use Rattle.world_model.specs.SlotCalls.{accepts, drop_refusal, gift_refusal, is_other, refusal_of_gift, refusal_of_giving, slot_at, take_refusal, turn_slot, yield_by}
use Rattle.world_model.specs.Solo.{Solo, sight}
use Rattle.world_model.specs.Transfers.{is_open, refusal_of_transfer, transfer_by}
use Rattle.world_model.specs.World.{World}
use Rattle.call_verdicts.specs.Granted.{GrantedMay}
use Rattle.call_verdicts.specs.Refusals.{refusal_of_bind_call, refusal_of_put_call, refusal_of_send_call}

-- what isn't refused
not_refused : (why : Option Code) (v value : ℕ) → granted_unless why v ≡ Grant value → why ≡ None
not_refused None v value is = refl
not_refused (Some why) v value is = cc

unmapped : {A B : Type 0} (f : A → B) (o : Option A) → option_map f o ≡ None → o ≡ None
unmapped f None none = refl
unmapped f (Some x) none = cc

neither : {A : Type 0} (first second : Option A) → option_or first second ≡ None → (first ≡ None) × (second ≡ None)
neither None second none = (refl, none)
neither (Some x) second none = cc

-- a put
may_put : (s : Solo) → refusal_of_put_call s ≡ None → MayPut s (reg s.cpu 4) (reg s.cpu 5)
may_put s none = by_range (put_bytes (sight s) (reg s.cpu 4) (reg s.cpu 5)) (nat_lt console_size (length s.console + reg s.cpu 5)) refl refl none
  where
    by_range : (o : Option (List ℕ)) (much : Bool) → put_bytes (sight s) (reg s.cpu 4) (reg s.cpu 5) ≡ o → nat_lt console_size (length s.console + reg s.cpu 5) ≡ much
        → (if is_none o then Some code.BadPointer else (if much then Some code.ConsoleFull else None)) ≡ None → MayPut s (reg s.cpu 4) (reg s.cpu 5)
    by_range None much is room none = cc
    by_range (Some bytes) true is room none = cc
    by_range (Some bytes) false is room none = record { good = ap is_some is; room = omega (arith, ltb-false console_size (length s.console + reg s.cpu 5) room) }

-- a packet
frame_size : (size : ℕ) → not (is_frame_size size) ≡ false → (least_frame_size ≤ size) × (size ≤ most_packet_size)
frame_size size is =
    let parts = and_parts (nat_le least_frame_size size) (nat_le size most_packet_size) (not-false (is_frame_size size) is) in
    (leb-true least_frame_size size parts.0, leb-true size most_packet_size parts.1)

may_send : (s : Solo) → refusal_of_send_call s ≡ None → MaySend s (reg s.cpu 4) (reg s.cpu 5)
may_send s none =
    by_tests (not (is_frame_size (reg s.cpu 5))) (good_range (sight s) (reg s.cpu 4) (reg s.cpu 5)) (nat_le most_sent (length s.sent)) refl refl refl none
  where
    by_tests : (bad : Bool) (o : Option (List ℕ)) (full : Bool) → not (is_frame_size (reg s.cpu 5)) ≡ bad → good_range (sight s) (reg s.cpu 4) (reg s.cpu 5) ≡ o → nat_le most_sent (length s.sent) ≡ full
        → (if bad then Some code.BadCall else (if is_none o then Some code.BadPointer else (if full then Some code.Full else None))) ≡ None → MaySend s (reg s.cpu 4) (reg s.cpu 5)
    by_tests true o full size is room none = cc
    by_tests false None full size is room none = cc
    by_tests false (Some bytes) true size is room none = cc
    by_tests false (Some bytes) false size is room none =
        let sizes = frame_size (reg s.cpu 5) size in
        record { least = sizes.0; most = sizes.1; good = ap is_some is; room = omega (arith, leb-false most_sent (length s.sent) room) }

-- pages
never_pressed : (v : Version) (who : Option ℕ) (value : ℕ) → pressed v who ≡ Grant value → ⊥
never_pressed One who value is = cc
never_pressed Two None value is = cc
never_pressed Two (Some e) value is = cc

may_allocate : (w : World) (e value : ℕ) → IsLowestFree w.book.pages w.book.page_count (lowest_free w.book.pages w.book.page_count) → alloc w e ≡ Grant value → MayAllocate w.book value
may_allocate w e value lowest is = by_any (page == any) is
  where
    b : Book
    b = w.book

    page : ℕ
    page = reg (w.solos e).cpu 4

    by_lowest : (o who : Option ℕ) → IsLowestFree b.pages b.page_count o → any_page b.version o who ≡ Grant value → MayAllocate b value
    by_lowest None who found is = absurd (never_pressed b.version who value is)
    by_lowest (Some p) who found is =
        let same : p ≡ value = cc in
        record { there = subst (λ (n : ℕ). n < b.page_count) same found.below; free = subst (λ (n : ℕ). b.pages n ≡ Free) same found.free }

    by_row : (t : Bool) (row : PageRow) → nat_lt page b.page_count ≡ t → b.pages page ≡ row → granted_unless (option_map code_of (alloc_refusal (if t then Some row else None))) page ≡ Grant value
        → MayAllocate b value
    by_row true Free there stands is =
        let same : page ≡ value = cc in
        record { there = subst (λ (n : ℕ). n < b.page_count) same (ltb-true page b.page_count there); free = subst (λ (n : ℕ). b.pages n ≡ Free) same stands }
    by_row true (Guaranteed owner) there stands is = cc
    by_row true (Owned owner words) there stands is = cc
    by_row false row there stands is = cc

    by_any : (t : Bool)
        → (if t then any_page b.version (lowest_free b.pages b.page_count) (richest (revocations b) e) else granted_unless (option_map code_of (alloc_refusal (page_row b page))) page) ≡ Grant value
        → MayAllocate b value
    by_any true is = by_lowest (lowest_free b.pages b.page_count) (richest (revocations b) e) lowest is
    by_any false is = by_row (nat_lt page b.page_count) (b.pages page) refl refl is

may_change : (w : World) (e page : ℕ) → refusal_of_change w e page ≡ None → MayChange w.book e page
may_change w e page none = by_row (nat_lt page w.book.page_count) (w.book.pages page) refl refl (unmapped code_of (change_refusal e (page_row w.book page)) none)
  where
    its : (owner : ℕ) (t : Bool) → (if t then None else Some no.NotOwner) ≡ None → t ≡ true
    its owner true none = refl
    its owner false none = cc

    by_row : (t : Bool) (row : PageRow) → nat_lt page w.book.page_count ≡ t → w.book.pages page ≡ row → change_refusal e (if t then Some row else None) ≡ None → MayChange w.book e page
    by_row true Free there stands none = cc
    by_row true (Guaranteed owner) there stands none = cc
    by_row true (Owned owner words) there stands none = record { there = ltb-true page w.book.page_count there; owned = ap (is_owned_by e) stands ∙ its owner (owner == e) none }
    by_row false row there stands none = cc

may_map : (s : Solo) (vpn : ℕ) → vpn_refusal (is_guaranteed_vpn s vpn) vpn ≡ None → MayMap s vpn
may_map s vpn none = by_test (nat_le vpn_end vpn) (is_guaranteed_vpn s vpn) refl refl none
  where
    by_test : (above guaranteed : Bool) → nat_le vpn_end vpn ≡ above → is_guaranteed_vpn s vpn ≡ guaranteed
        → (if above then Some code.BadVpn else (if guaranteed then Some code.Guaranteed else None)) ≡ None → MayMap s vpn
    by_test true guaranteed below is none = cc
    by_test false true below is none = cc
    by_test false false below is none = record { within = omega (arith, leb-false vpn_end vpn below); other = is }

has_right : (e : ℕ) (writable : Bool) (word : ℕ) (row : PageRow) → bind_refusal e writable word (Some row) ≡ None → HasRight e writable word row
has_right e writable word Free none = cc
has_right e writable word (Guaranteed owner) none = cc
has_right e writable word (Owned owner words) none = record { owner = owner; words = words; owned = refl; right = by_test (owner == e) (gives_right words writable word) refl refl none }
  where
    by_test : (t u : Bool) → (owner == e) ≡ t → gives_right words writable word ≡ u → (if t || u then None else Some no.NoRight) ≡ None → (owner ≡ e) ⊎ (gives_right words writable word ≡ true)
    by_test true u own gives none = inl (eqb-true owner e own)
    by_test false true own gives none = inr gives
    by_test false false own gives none = cc

may_bind : (w : World) (e : ℕ) → refusal_of_bind_call w e ≡ None → let s = w.solos e in MayBind w e (binding_of s.cpu) (presented s.cpu)
may_bind w e none =
    let s = w.solos e in
    let page = reg s.cpu 5 in
    let why = bind_refusal e (binding_of s.cpu).writable (presented s.cpu) (page_row w.book page) in
    let parts = neither (vpn_refusal (is_guaranteed_vpn s (reg s.cpu 4)) (reg s.cpu 4)) (option_map code_of why) none in
    by_there (nat_lt page w.book.page_count) refl parts.0 (unmapped code_of why parts.1)
  where
    by_there : (t : Bool) → nat_lt (reg (w.solos e).cpu 5) w.book.page_count ≡ t → vpn_refusal (is_guaranteed_vpn (w.solos e) (reg (w.solos e).cpu 4)) (reg (w.solos e).cpu 4) ≡ None
        → bind_refusal e (binding_of (w.solos e).cpu).writable (presented (w.solos e).cpu) (if t then Some (w.book.pages (reg (w.solos e).cpu 5)) else None) ≡ None
        → MayBind w e (binding_of (w.solos e).cpu) (presented (w.solos e).cpu)
    by_there true there mapped none = record {
      at = may_map (w.solos e) (reg (w.solos e).cpu 4) mapped;
      there = ltb-true (reg (w.solos e).cpu 5) w.book.page_count there;
      right = has_right e (binding_of (w.solos e).cpu).writable (presented (w.solos e).cpu) (w.book.pages (reg (w.solos e).cpu 5)) none;
    }
    by_there false there mapped none = cc

-- gifts and transfers
giving : (other : Bool) (gift : Option Code) (accepted : Bool) → refusal_of_giving other gift accepted ≡ None → (other ≡ true) × (gift ≡ None) × (accepted ≡ true)
giving false gift accepted none = cc
giving true None false none = cc
giving true None true none = (refl, refl, refl)
giving true (Some why) accepted none = cc

may_give : (w : World) (e target : ℕ) → refusal_of_gift w e target ≡ None → MayReach w e target false
may_give w e target none =
    let parts = giving (is_other w e target) (gift_refusal false w.book.runner (turn_slot w.book)) (accepts (w.solos target).mask e) none in
    record { other = parts.0; gift = parts.1; accepted = parts.2 }

may_enter : (w : World) (e target : ℕ) (kind : TransferKind) → refusal_of_transfer w e target kind ≡ None → MayEnter w e target kind
may_enter w e target kind none =
    let parts = giving (is_other w e target) (gift_refusal (hands_slot kind) w.book.runner (turn_slot w.book)) (accepts (w.solos target).mask e && is_open (w.solos target) kind) none in
    let accepted = and_parts (accepts (w.solos target).mask e) (is_open (w.solos target) kind) parts.2 in
    record { reach = record { other = parts.0; gift = parts.1; accepted = accepted.0 }; entry = accepted.1 }

yields : (w : World) (e target value : ℕ) (t : Bool) → yield_by w e target t ≡ Grant value → May w e (yield_deed target t)
yields w e target value true is = tt
yields w e target value false is = may_give w e target (not_refused (refusal_of_gift w e target) 0 value is)

handles : (w : World) (e address : ℕ) (kind : Option Context) → May w e (context_deed kind address)
handles w e address None = tt
handles w e address (Some kind) = tt

transfers : (w : World) (e target value : ℕ) (kind : Option TransferKind) → transfer_by w e target kind ≡ Grant value → May w e (transfer_deed target kind)
transfers w e target value None is = tt
transfers w e target value (Some kind) is = may_enter w e target kind (not_refused (refusal_of_transfer w e target kind) 0 value is)

-- slots
may_take : (b : Book) (k : ℕ) → take_refusal (slot_at b k) ≡ None → MayTake b k
may_take b k none = by_slot (nat_lt k b.slot_count) (b.slots k) refl refl none
  where
    by_slot : (t : Bool) (slot : Option Hold) → nat_lt k b.slot_count ≡ t → b.slots k ≡ slot → take_refusal (if t then Some slot else None) ≡ None → MayTake b k
    by_slot false slot there stands none = cc
    by_slot true None there stands none = record { there = ltb-true k b.slot_count there; empty = stands }
    by_slot true (Some hold) there stands none = cc

may_drop : (b : Book) (e k : ℕ) → drop_refusal e (slot_at b k) ≡ None → MayDrop b e k
may_drop b e k none = by_slot (nat_lt k b.slot_count) (b.slots k) refl refl none
  where
    by_holder : (hold : Hold) → k < b.slot_count → b.slots k ≡ Some hold → (t : Bool) → (hold.holder == e) ≡ t → (if t then None else Some code.NotHolder) ≡ None → MayDrop b e k
    by_holder hold there stands true own none = record { there = there; hold = hold; stands = stands; holder = eqb-true hold.holder e own }
    by_holder hold there stands false own none = cc

    by_slot : (t : Bool) (slot : Option Hold) → nat_lt k b.slot_count ≡ t → b.slots k ≡ slot → drop_refusal e (if t then Some slot else None) ≡ None → MayDrop b e k
    by_slot false slot there stands none = cc
    by_slot true None there stands none = cc
    by_slot true (Some hold) there stands none = by_holder hold (ltb-true k b.slot_count there) stands (hold.holder == e) refl none

-- interrupt lines
may_line : (w : World) (e line act value : ℕ) → granted_unless (refusal_of_line e line act (w.book.lines line)) 0 ≡ Grant value → May w e (line_deed line (act == 1))
may_line w e line act value is = by_tests (nat_lt line lines) (act == 1) (act == 0) refl (not_refused (refusal_of_line e line act (w.book.lines line)) 0 value is)
  where
    taken : (other : Bool) → (if other then Some code.LineTaken else None) ≡ None → other ≡ false
    taken true none = cc
    taken false none = refl

    dropped : (its : Bool) → (if its then None else Some code.NotHolder) ≡ None → its ≡ true
    dropped true none = refl
    dropped false none = cc

    by_tests : (there takes drops : Bool) → nat_lt line lines ≡ there
        → (if there then (if takes then refusal_of_line_take e (w.book.lines line) else (if drops then refusal_of_line_drop e (w.book.lines line) else Some code.BadCall)) else Some code.BadCall) ≡ None
        → May w e (line_deed line takes)
    by_tests false takes drops there none = cc
    by_tests true true drops there none = record { there = ltb-true line lines there; free = taken (is_line_of_other e (w.book.lines line)) none }
    by_tests true false true there none = record { there = ltb-true line lines there; owned = dropped (is_line_of e (w.book.lines line)) none }
    by_tests true false false there none = cc

-- claims
claim_granted : (refusal : Option ClaimNo) (next value : ℕ) → claim_verdict refusal next ≡ Grant value → (refusal ≡ None) × (value ≡ next)
claim_granted None next value is = (refl, cc)
claim_granted (Some claim_no.Full) next value is = cc
claim_granted (Some (claim_no.Overlap other)) next value is = cc

may_claim : (w : World) (e address atoms page value : ℕ) → claim_by w e page (filter_at (sight (w.solos e)) address atoms) ≡ Grant value → MayClaim w e value address atoms page
may_claim w e address atoms page value is = by_filter (filter_at (sight (w.solos e)) address atoms) refl is
  where
    by_page : (filter : List Atom) → filter_at (sight (w.solos e)) address atoms ≡ Ok filter → (why : Option Code) → refusal_of_change w e page ≡ why
        → page_verdict why (claim_verdict (claim_refusal w.book.claims e filter) w.book.next_claim) ≡ Grant value → MayClaim w e value address atoms page
    by_page filter named None none is =
        let granted = claim_granted (claim_refusal w.book.claims e filter) w.book.next_claim value is in
        record { number = granted.1; filter = filter; named = named; ring = may_change w e page none; beside = granted.0 }
    by_page filter named (Some why) some is = cc

    by_filter : (f : Result (List Atom) Code) → filter_at (sight (w.solos e)) address atoms ≡ f → claim_by w e page f ≡ Grant value → MayClaim w e value address atoms page
    by_filter (Ok filter) named is = by_page filter named (refusal_of_change w e page) refl is
    by_filter (Err why) named is = cc

-- handlers
may_download : (s : Solo) (claim address words value : ℕ) → (if is_some (ring_of s.rings claim) then download_verdict (handler_at (sight s) address words) else Refuse code.NoFilter 0) ≡ Grant value
    → MayDownload s claim address words
may_download s claim address words value is = by_claim (is_some (ring_of s.rings claim)) refl is
  where
    by_handler : is_some (ring_of s.rings claim) ≡ true → (named : Result (List ℕ) HandlerNo) → handler_at (sight s) address words ≡ named → download_verdict named ≡ Grant value
        → MayDownload s claim address words
    by_handler own (Ok handler) named is = record { own = own; handler = handler; named = named }
    by_handler own (Err handler_no.BadPointer) named is = cc
    by_handler own (Err (handler_no.BadWord at)) named is = cc

    by_claim : (t : Bool) → is_some (ring_of s.rings claim) ≡ t → (if t then download_verdict (handler_at (sight s) address words) else Refuse code.NoFilter 0) ≡ Grant value
        → MayDownload s claim address words
    by_claim true own is = by_handler own (handler_at (sight s) address words) refl is
    by_claim false own is = cc

-- backups
may_load : (w : World) (e page : ℕ) → refusal_of_load w e page ≡ None → MayLoad w.book e page
may_load w e page none =
    let each = neither (refusal_of_change w e page) (option_map code_of_load (load_refusal (w.book.backups e) page)) none in
    record { own = may_change w e page each.0; room = unmapped code_of_load (load_refusal (w.book.backups e) page) each.1 }

-- call by call
pub granted_may : ((pages : ℕ → PageRow) (count : ℕ) → IsLowestFree pages count (lowest_free pages count)) → GrantedMay
granted_may lowest w e None value is = tt
granted_may lowest w e (Some call.Yield) value is = let target = reg (w.solos e).cpu 4 in yields w e target value (target == any) is
granted_may lowest w e (Some call.Put) value is = let s = w.solos e in may_put s (not_refused (refusal_of_put_call s) (reg s.cpu 5) value is)
granted_may lowest w e (Some call.Alloc) value is = may_allocate w e value (lowest w.book.pages w.book.page_count) is
granted_may lowest w e (Some call.Free) value is = let page = reg (w.solos e).cpu 4 in may_change w e page (not_refused (refusal_of_change w e page) 0 value is)
granted_may lowest w e (Some call.Recap) value is = let page = reg (w.solos e).cpu 4 in may_change w e page (not_refused (refusal_of_change w e page) 0 value is)
granted_may lowest w e (Some call.Bind) value is = may_bind w e (not_refused (refusal_of_bind_call w e) 0 value is)
granted_may lowest w e (Some call.Unbind) value is =
    let s = w.solos e in
    let vpn = reg s.cpu 4 in
    may_map s vpn (not_refused (vpn_refusal (is_guaranteed_vpn s vpn) vpn) (if is_some (binding_at s.version s.binds vpn) then 1 else 0) value is)
granted_may lowest w e (Some call.Context) value is = let cpu = (w.solos e).cpu in handles w e (reg cpu 5) (context_numbered (reg cpu 4))
granted_may lowest w e (Some call.Accept) value is = tt
granted_may lowest w e (Some call.Transfer) value is =
    let cpu = (w.solos e).cpu in
    transfers w e (reg cpu 4) value (transfer_numbered (reg cpu 5)) is
granted_may lowest w e (Some call.SlotTake) value is =
    let k = reg (w.solos e).cpu 4 in
    may_take w.book k (not_refused (take_refusal (slot_at w.book k)) 0 value is)
granted_may lowest w e (Some call.SlotDrop) value is =
    let k = reg (w.solos e).cpu 4 in
    may_drop w.book e k (not_refused (drop_refusal e (slot_at w.book k)) 0 value is)
granted_may lowest w e (Some call.Query) value is = tt
granted_may lowest w e (Some call.Claim) value is = let cpu = (w.solos e).cpu in may_claim w e (reg cpu 4) (reg cpu 5) (reg cpu 6) value is
granted_may lowest w e (Some call.Unclaim) value is = tt
granted_may lowest w e (Some call.Handler) value is = let s = w.solos e in may_download s (reg s.cpu 4) (reg s.cpu 5) (reg s.cpu 6) value is
granted_may lowest w e (Some call.Line) value is = let cpu = (w.solos e).cpu in may_line w e (reg cpu 4) (reg cpu 5) value is
granted_may lowest w e (Some call.Backup) value is = let page = reg (w.solos e).cpu 4 in may_load w e page (not_refused (refusal_of_load w e page) 0 value is)
granted_may lowest w e (Some call.Send) value is = let s = w.solos e in may_send s (not_refused (refusal_of_send_call s) 0 value is)
granted_may lowest w e (Some call.OwnNumber) value is = tt
granted_may lowest w e (Some call.Clock) value is = tt

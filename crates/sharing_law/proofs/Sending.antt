-- What environments send keeps within limits: an answer sends by its own rule, and a packet by what its handler replies.
use Rattle.std.proofs.lemmas.Grind.{common_steps}
use Rattle.std.proofs.Common.{◌≡◌, ◌≤◌, ◌<◌, ℕ, zero, suc, List, [], ◌∷◌, ◌++◌, length, take, Bool, true, false, Option, Some, None, refl, sym, ◌∙◌, ap, subst, arith, length-append}
use Rattle.std.specs.Prelude.{◌==◌, nat_lt, slice_get, unwrap_or}
use Rattle.std.specs.List.{All, list_all}
use Rattle.std.proofs.lemmas.Bool.{and_parts, eqb-true, eqb-false}
use Rattle.std.proofs.lemmas.List.{length-take}
use Rattle.boot_image.specs.ImageValue.{ImageValue, ProgramValue}
use Rattle.external_event.specs.declared.event.Occurrence.{Occurrence}
use Rattle.external_event.specs.declared.event.Occurrence.TheVariants as outside
use Rattle.external_event.specs.Limits.{most_packet_size, most_sent}
use Rattle.bind_book.specs.Stripe.{is_bound}
use Rattle.env_frames.specs.Context.{resumed_cpu, start_area, start_bytes}
use Rattle.env_frames.specs.Post.{most_records, record_bytes, record_offset}
use Rattle.env_frames.specs.Transfer.{carried}
use Rattle.env_frames.specs.declared.post.PostWord.TheVariants as post
use Rattle.frame_store.specs.Pages.{zero_page}
use Rattle.handler_rules.specs.Running.{handler_run}
use Rattle.mips_exec.specs.Cpu.{rested}
use Rattle.mips_exec.specs.Step.{cpu_after}
use Rattle.packet_ring.specs.Ring.{is_full, with_packet}
use Rattle.revocation_book.specs.declared.revocation.Taking.{Taking}
use Rattle.world_model.specs.declared.call.Call.{Call}
use Rattle.world_model.specs.declared.call.Deed.{Deed}
use Rattle.world_model.specs.declared.call.Deed.TheVariants.{Own, Gives, Allocates, Frees, Recaps, Binds, Unbinds, Transfers}
use Rattle.world_model.specs.declared.call.OwnDeed.TheVariants.{Sends}
use Rattle.world_model.specs.declared.slot.Runner.{Runner}
use Rattle.world_model.specs.declared.verdict.Verdict.{Verdict}
use Rattle.world_model.specs.declared.verdict.Verdict.TheVariants.{Refuse, Again, Grant}
use Rattle.world_model.specs.Book.{running}
use Rattle.world_model.specs.Call.{good_range}
use Rattle.world_model.specs.Item.{Item, Boot, Step, Start, Transfer, Answer, Asked, Gained, Lost, Packet, Taken, absorb, absorb_all, absorbed, deed_at, own_part}
use Rattle.world_model.specs.May.{May}
use Rattle.world_model.specs.Page.{Mapped}
use Rattle.world_model.specs.PageCalls.{lost_bindings, lost_if, page_bytes}
use Rattle.world_model.specs.Post.{counted, post_word}
use Rattle.world_model.specs.Repossession.{copied}
use Rattle.world_model.specs.Rings.{Loses, Queues, after_reception, reception_by, after_packet_in, sent_with_replies, ring_of}
use Rattle.world_model.specs.Solo.{Solo, Ring, Physical, absent, bytes_of, sight}
use Rattle.world_model.specs.Step.{Act, Nothing, Stores, Calls, Raises, Dies, act_of, acted, step_alone}
use Rattle.world_model.specs.Table.{set_at}
use Rattle.world_model.specs.Tick.{act_now, act_reply, phases_after, step, step_when, tick_phases}
use Rattle.world_model.specs.Upcalls.{with_context}
use Rattle.world_model.specs.Verdict.{asks_one, done, reply_by_verdict, verdict}
use Rattle.world_model.specs.World.{World, Reply, after, in_turn, only, tells}
use Rattle.call_verdicts.specs.Granted.{GrantedMay}
use Rattle.run_model.specs.Boot.{boot_items, record_items}
use Rattle.run_model.specs.Licensed.{AtEvent, AtStep, GivenIsLicensed, IsAnswered, LicensedAt, LicensedBehind, LicensedIn}
use Rattle.run_model.specs.Run.{System, given_by, happens_in, moment, takings_in, world_after}
use Rattle.run_model.proofs.Phases.{in_turn_is_each, next_moment, once_more}
use Rattle.run_model.proofs.Telling.{call_named, call_stands, deed_may}
use Rattle.page_laws.proofs.Tables.{set_here}
use Rattle.sharing_law.specs.Sent.{IsSentWithin, SentIsWithin, is_short}
use Rattle.sharing_law.proofs.Asking.{asking_or}
use Rattle.sharing_law.proofs.Choices.{either}
use Rattle.sharing_law.proofs.Given.{absorb_or}
use Rattle.sharing_law.proofs.Handling.{handled_holds, short_more, taken_short}
use Rattle.sharing_law.proofs.Moments.{each_moment}

-- ---- packets

few_taken : (n : ℕ) (packets : List (List ℕ)) → length (take n packets) ≤ n
few_taken n packets = omega (arith, length-take n packets)

short_taken : (n : ℕ) (packets : List (List ℕ)) → list_all is_short packets ≡ true → list_all is_short (take n packets) ≡ true
short_taken zero packets all = refl
short_taken (suc n) [] all = refl
short_taken (suc n) (packet ∷ packets) all =
    let parts = and_parts (is_short packet) (list_all is_short packets) all in
    rw (parts.0, short_taken n packets parts.1) refl

short_both : (xs ys : List (List ℕ)) → list_all is_short xs ≡ true → list_all is_short ys ≡ true → list_all is_short (xs ++ ys) ≡ true
short_both [] ys first next = next
short_both (x ∷ xs) ys first next =
    let parts = and_parts (is_short x) (list_all is_short xs) first in
    rw (parts.0, short_both xs ys parts.1 next) refl

-- with the replies of a handler
replied_within : (sent replies : List (List ℕ)) → IsSentWithin sent → list_all is_short replies ≡ true → IsSentWithin (sent_with_replies sent replies)
replied_within sent replies within short = record {
  count = few_taken most_sent (sent ++ replies);
  sizes = short_taken most_sent (sent ++ replies) (short_both sent replies within.sizes short);
}

-- with one packet more, where there is room
sent_within : (sent : List (List ℕ)) (packet : List ℕ) → IsSentWithin sent → length sent < most_sent → is_short packet ≡ true → IsSentWithin (sent ++ packet ∷ [])
sent_within sent packet within room short = record {
  count = omega (arith, length-append sent (packet ∷ []), room);
  sizes = short_more sent packet within.sizes short;
}

-- the bytes of a range are no more than were named
range_short : (look : ℕ → Option Mapped) (address size : ℕ) → size ≤ most_packet_size → is_short (unwrap_or (good_range look address size) []) ≡ true
range_short look address size most = grind (arith, taken_short)

-- ---- items

abbrev Within : Solo → Type 0
Within s = IsSentWithin s.sent

-- an item that is no answer
abbrev IsPlain : Item → Type 0
IsPlain (Answer verdict) = ⊥
IsPlain item = Unit {0}

abbrev ArePlain : List Item → Type 0
ArePlain [] = Unit {0}
ArePlain (item ∷ items) = IsPlain item × ArePlain items

acted_within : (act : Act) (s : Solo) → Within s → Within (acted act s)
acted_within Nothing s within = within
acted_within (Stores x) s within = within
acted_within (Calls c) s within = within
acted_within (Raises exc) s within = within
acted_within (Dies cause) s within = within

start_within : (s : Solo) → Within s → Within (absorbed s Start)
start_within s within =
    either Within (s.handlers.start == 0) (record s { cpu = rested s.cpu }) (record (with_context start_area (start_bytes s.cpu) s) { cpu = resumed_cpu s.handlers.start s.cpu }) within within

received_within : (handler : Option (List ℕ)) (r : Ring) (packet page : List ℕ) (s : Solo) → Within s → Within (after_reception r (reception_by handler r packet page) s)
received_within None r packet page s within = either (λ becomes. Within (after_reception r becomes s)) (is_full page r.next) Loses (Queues (with_packet page r.next packet)) within within
received_within (Some words) r packet page s within =
    let run = handler_run words packet r.claim page in
    replied_within s.sent run.replies within (handled_holds words packet r.claim page).short

packet_within : (o : Option Ring) (packet : List ℕ) (s : Solo) → Within s → Within (after_packet_in o packet s)
packet_within None packet s within = within
packet_within (Some r) packet s within = received_within r.handler r packet (bytes_of s (Physical r.page)) s within

taken_within : (page : ℕ) (backup : Option ℕ) (s : Solo) → Within s → Within (absorbed s (Taken page backup))
taken_within page backup s within =
    let t = copied page backup s in
    let n = post_word post.Takings t in
    either Within (nat_lt n most_records) (with_context (record_offset n) (record_bytes page backup) t) t (by_backup backup) (by_backup backup)
  where
    by_backup : (o : Option ℕ) → Within (copied page o s)
    by_backup None = within
    by_backup (Some into) = within

absorbed_within : (s : Solo) (item : Item) → IsPlain item → Within s → Within (absorbed s item)
absorbed_within s (Boot version number name entry accept kept) plain within = record { count = omega arith; sizes = refl }
absorbed_within s Step plain within = acted_within (act_of s (step_alone s)) (record s { cpu = cpu_after s.cpu (step_alone s) }) within
absorbed_within s Start plain within = start_within s within
absorbed_within s (Answer verdict) plain within = absurd plain
absorbed_within s (Packet claim packet) plain within = packet_within (ring_of s.rings claim) packet (counted post.Packets s) within
absorbed_within s (Taken page backup) plain within = taken_within page backup s within
absorbed_within s item plain within = within

plain_within : (items : List Item) → ArePlain items → (s : Solo) → Within s → Within (absorb_all s items)
plain_within [] plain s within = within
plain_within (item ∷ items) (plain, rest) s within =
    plain_within items rest (absorb s item) (absorb_or Within s item within (absorbed_within s item plain within))

all_plain : (P : Item → Type 0) → ((item : Item) → P item → IsPlain item) → (items : List Item) → All P items → ArePlain items
all_plain P more [] all = tt
all_plain P more (item ∷ items) all = (more item (all 0 item (omega arith)), all_plain P more items (λ k d below. all (suc k) d (omega arith)))

-- what one is given, and what the others are
plain_at : (n i : ℕ) (items : List Item) (others : ℕ → List Item) → ArePlain items → ArePlain (others i) → ArePlain (set_at n items others i)
plain_at n i items others its rest = either ArePlain (i == n) items (others i) its rest

plain_loss : (t : Bool) (page : ℕ) → ArePlain (lost_if t page)
plain_loss true page = (tt, tt)
plain_loss false page = tt

-- ---- calls

-- what a deed gives beside its answer, deed by deed
deed_plain : (w : World) (e : ℕ) (d : Deed) (i : ℕ) → ArePlain ((done w e d).items i)
deed_plain w e (Gives target) i = plain_at target i (Start ∷ []) (λ j. []) (tt, tt) tt
deed_plain w e (Allocates page words) i = plain_at e i (Gained page true zero_page ∷ []) (λ j. []) (tt, tt) tt
deed_plain w e (Frees page) i = plain_at e i (Lost page ∷ []) (lost_bindings w.book page) (tt, tt) (plain_loss (is_bound page (w.book.binds i)) page)
deed_plain w e (Recaps page words) i = plain_at e i [] (lost_bindings w.book page) tt (plain_loss (is_bound page (w.book.binds i)) page)
deed_plain w e (Binds b word) i = plain_at e i (Gained b.page b.writable (page_bytes w b.page) ∷ []) (λ j. []) (tt, tt) tt
deed_plain w e (Transfers target kind) i = plain_at target i (Transfer e kind (carried (w.solos e).cpu) ∷ []) (λ j. []) (tt, tt) tt
deed_plain w e d i = tt

-- what a deed leaves of its caller, which sends by its own rule
deed_within : (w : World) (e : ℕ) (d : Deed) → May w e d → Within (w.solos e) → Within (own_part d (w.solos e))
deed_within w e (Own (Sends address size)) may within =
    let s = w.solos e in
    sent_within s.sent (unwrap_or (good_range (sight s) address size) []) within may.room (range_short (sight s) address size may.most)
deed_within w e (Unbinds vpn) may within = grind (arith, common_steps)
deed_within w e d may within = within

module _ (granted : GrantedMay) (w : World) (e : ℕ) (c : Option Call) (comes : act_now w e ≡ Calls c) (within : Within (w.solos e)) where
  abbrev s : Solo
  s = w.solos e

  answer_within : (verdict : Verdict) → Within (absorbed s (Answer verdict)) → (items : List Item) → ArePlain items → Within (absorb_all s (only e (Answer verdict ∷ []) e ++ items))
  answer_within verdict its items plain =
      subst (λ (first : List Item). Within (absorb_all s (first ++ items))) (sym (set_here e (Answer verdict ∷ []) (λ j. [])))
      (plain_within items plain (absorb s (Answer verdict)) (absorb_or Within s (Answer verdict) within its))

  by_verdict : (v : Verdict) → verdict w e c ≡ v → Within (absorb_all s ((reply_by_verdict w e v).items e))
  by_verdict (Refuse code value) is =
      let v = Refuse code value in
      subst (λ (items : List Item). Within (absorb_all s items)) (sym (set_here e (Answer v ∷ []) (λ j. [])))
      (absorb_or Within s (Answer v) within within)
  by_verdict (Again who) is =
      answer_within (Again who) within ((asks_one who w).items e)
      (asking_or (λ (r : Reply). ArePlain (r.items e)) w who tt (λ p. plain_at who e (Asked p.outstanding p.deadline ∷ []) (λ j. []) (tt, tt) tt))
  by_verdict (Grant value) is =
      let d = deed_at s value in
      answer_within (Grant value) (deed_within w e d (deed_may granted w e c (call_named w e c comes) value is) within) ((done w e d).items e) (deed_plain w e d e)

  call_within : Within (absorb_all s ((in_turn (tells e Step ∷ act_reply e (Calls c) ∷ []) w).items e))
  call_within =
      let same = in_turn_is_each w (tells e Step ∷ act_reply e (Calls c) ∷ []) ∙ ap (λ (v : World). after v (act_reply e (Calls c) v)) (call_stands w e c comes) in
      subst (λ (v : World). Within (v.solos e)) (sym same) (by_verdict (verdict w e c) refl)

-- ---- phases

-- The step.
module _ (granted : GrantedMay) (system : System) (t : ℕ) (w : World) (i : ℕ) (within : Within (w.solos i)) where
  module _ (r : Runner) (runs : w.book.runner ≡ Some r) where
    -- who is answered runs, and its step is a call
    answered_runs : (v : Verdict) → IsAnswered w i v → r.env ≡ i
    answered_runs v its = let same : Some r.env ≡ Some i = sym (ap running runs) ∙ its.acts.runs in cc

    answered_calls : (v : Verdict) (its : IsAnswered w i v) → act_now w r.env ≡ Calls its.call
    answered_calls v its = ap (act_now w) (answered_runs v its) ∙ its.acts.comes

    none_plain : ((v : Verdict) → IsAnswered w i v → ⊥) → (item : Item) → AtStep system t w i item → IsPlain item
    none_plain none (Answer v) its = none v its
    none_plain none item its = tt

    abbrev given : Act → List Item
    given act = (in_turn (tells r.env Step ∷ act_reply r.env act ∷ []) w).items i

    none_within : ((v : Verdict) → IsAnswered w i v → ⊥) → (act : Act) → All (AtStep system t w i) (given act) → Within (absorb_all (w.solos i) (given act))
    none_within none act all = plain_within (given act) (all_plain (AtStep system t w i) (none_plain none) (given act) all) (w.solos i) within

    other_act : (act : Act) → act_now w r.env ≡ act → ((c : Option Call) → act ≡ Calls c → ⊥) → All (AtStep system t w i) (given act) → Within (absorb_all (w.solos i) (given act))
    other_act act is other all = none_within (λ v its. other its.call (sym is ∙ answered_calls v its)) act all

    by_env : (c : Option Call) → act_now w r.env ≡ Calls c → (own : Bool) → (i == r.env) ≡ own → All (AtStep system t w i) (given (Calls c)) → Within (absorb_all (w.solos i) (given (Calls c)))
    by_env c is true own all =
        let same = eqb-true i r.env own in
        subst (λ (e : ℕ). Within (absorb_all (w.solos i) ((in_turn (tells e Step ∷ act_reply e (Calls c) ∷ []) w).items i))) same
        (call_within granted w i c (ap (act_now w) same ∙ is) within)
    by_env c is false other all = none_within (λ v its. eqb-false i r.env other (sym (answered_runs v its))) (Calls c) all

    by_act : (act : Act) → act_now w r.env ≡ act → All (AtStep system t w i) (given act) → Within (absorb_all (w.solos i) (given act))
    by_act (Calls c) is all = by_env c is (i == r.env) refl all
    by_act act is all = other_act act is (λ c its. cc) all

  by_runner : (o : Option Runner) → w.book.runner ≡ o → All (AtStep system t w i) ((step_when w o).items i) → Within (absorb_all (w.solos i) ((step_when w o).items i))
  by_runner None is all = within
  by_runner (Some r) is all = by_act r is (act_now w r.env) refl all

  step_within : All (AtStep system t w i) ((step w).items i) → Within (absorb_all (w.solos i) ((step w).items i))
  step_within all = by_runner w.book.runner refl all

-- A phase is the step, or it gives no answer.
abbrev NoAnswer : (World → ℕ → Item → Type 0) → Type 0
NoAnswer L = (w : World) (e : ℕ) (v : Verdict) → L w e (Answer v) → ⊥

data Sort (system : System) (t : ℕ) (phase : World → Reply) (L : World → ℕ → Item → Type 0) : Type 0 where
  Steps : phase ≡ step → ((w : World) (e : ℕ) (item : Item) → L w e item → AtStep system t w e item) → Sort system t phase L
  Others : NoAnswer L → Sort system t phase L

sort_behind : (system : System) (t : ℕ) (xs : List Taking) (k : ℕ) (phase : World → Reply) → slice_get (tick_phases xs) k ≡ Some phase → Sort system t phase (LicensedBehind system t xs k)
sort_behind system t [] (suc (suc zero)) phase is = let same : step ≡ phase = cc in Steps (sym same) (λ w e item its. its)
sort_behind system t [] (suc (suc (suc (suc k)))) phase is = Others (λ w e v its. its)
sort_behind system t [] k phase is = Others (λ w e v its. its)
sort_behind system t (x ∷ xs) zero phase is = Others (λ w e v its. its)
sort_behind system t (x ∷ xs) (suc k) phase is = sort_behind system t xs k phase is

no_answer : (what : Occurrence) → NoAnswer (AtEvent what)
no_answer (outside.Packet packet) w e v its = its
no_answer (outside.Line line) w e v its = its
no_answer (outside.Revoke env count grace) w e v its = its

sort_of : (system : System) (t : ℕ) (happens : List Occurrence) (xs : List Taking) (k : ℕ) (phase : World → Reply) → slice_get (phases_after happens xs) k ≡ Some phase → Sort system t phase (LicensedIn system t happens xs k)
sort_of system t [] xs k phase is = sort_behind system t xs k phase is
sort_of system t (what ∷ happens) xs zero phase is = Others (no_answer what)
sort_of system t (what ∷ happens) xs (suc k) phase is = sort_of system t happens xs k phase is

unanswered : (L : World → ℕ → Item → Type 0) → NoAnswer L → (w : World) (e : ℕ) (item : Item) → L w e item → IsPlain item
unanswered L none w e (Answer v) its = none w e v its
unanswered L none w e item its = tt

abbrev AllWithin : World → Type 0
AllWithin w = (e : ℕ) → Within (w.solos e)

phase_within : GrantedMay → (system : System) (t : ℕ) (w : World) → AllWithin w → (phase : World → Reply) (L : World → ℕ → Item → Type 0) → Sort system t phase L → ((e : ℕ) → All (L w e) ((phase w).items e)) → AllWithin (after w (phase w))
phase_within granted system t w within phase L (Steps is at) all e =
    subst (λ (p : World → Reply). All (L w e) ((p w).items e) → Within (absorb_all (w.solos e) ((p w).items e))) (sym is)
    (λ its. step_within granted system t w e (within e) (λ k d below. at w e _ (its k d below))) (all e)
phase_within granted system t w within phase L (Others none) all e =
    plain_within ((phase w).items e) (all_plain (L w e) (unanswered L none w e) ((phase w).items e) (all e)) (w.solos e) (within e)

-- ---- runs

booted_within : (image : ImageValue) (e : ℕ) → Within (absorb_all (absent e) (boot_items image e))
booted_within image e = by_program (slice_get image.programs e)
  where
    by_program : (o : Option ProgramValue) → Within (absorb_all (absent e) (record_items image.version e o))
    by_program None = record { count = omega arith; sizes = refl }
    by_program (Some p) = record { count = omega arith; sizes = refl }

module _ (granted : GrantedMay) (licensed : GivenIsLicensed) (system : System) where
  module _ (t k : ℕ) (within : AllWithin (moment system t k)) where
    abbrev m : World
    m = moment system t k

    abbrev happens : List Occurrence
    happens = happens_in system.schedule (world_after system t)

    abbrev taken : List Taking
    taken = takings_in system t

    by_phase : (o : Option (World → Reply)) → slice_get (phases_after happens taken) k ≡ o → AllWithin (moment system t (suc k))
    by_phase None is = subst AllWithin (sym (next_moment system t k ∙ ap (once_more m) is)) within
    by_phase (Some phase) is =
        subst AllWithin (sym (next_moment system t k ∙ ap (once_more m) is))
        (phase_within granted system t m within phase (LicensedIn system t happens taken k) (sort_of system t happens taken k phase is)
        (λ e. subst (All (LicensedAt system t k e)) (ap (λ (o : Option (World → Reply)). given_by m o e) is) (licensed system t k e)))

    next_within : AllWithin (moment system t (suc k))
    next_within = by_phase (slice_get (phases_after happens taken) k) refl

pub sent_is_within : GrantedMay → GivenIsLicensed → SentIsWithin
sent_is_within granted licensed system = each_moment AllWithin system (next_within granted licensed system) (booted_within system.image)

-- What is licensed in a phase is given in it, phase by phase.
use Rattle.std.proofs.Common.{◌≡◌, ◌≢◌, ◌≤◌, ◌<◌, ◌+◌, ◌*◌, ℕ, zero, suc, List, [], ◌∷◌, ◌++◌, Bool, true, false, Option, Some, inl, inr, refl, sym, ◌∙◌, ap, subst, arith}
use Rattle.std.specs.Prelude.{◌==◌, if◌then◌else◌, nat_lt, not}
use Rattle.std.proofs.lemmas.Bool.{eq-eqb, eqb-true, eqb-false, ne_eqb, lt-ltb, ltb-true, ltb-false}
use Rattle.aegis_limits.specs.Limits.{excess_limit}
use Rattle.external_event.specs.declared.event.Occurrence.{Occurrence}
use Rattle.external_event.specs.declared.event.Occurrence.TheVariants as outside
use Rattle.filter_tree.specs.ClaimBook.{ClaimValue}
use Rattle.frame_store.specs.Pages.{zero_page}
use Rattle.env_frames.specs.declared.transfer.TransferKind.{TransferKind}
use Rattle.env_frames.specs.Transfer.{Registers, carried}
use Rattle.page_book.specs.declared.row.PageRow.TheVariants.{Free}
use Rattle.page_book.specs.Row.{belongs_to}
use Rattle.bind_book.specs.Stripe.{is_bound}
use Rattle.revocation_book.specs.declared.revocation.Pending.{Pending}
use Rattle.revocation_book.specs.declared.revocation.Taking.{Taking}
use Rattle.revocation_book.specs.Pending.{asked}
use Rattle.world_model.specs.declared.call.Deed.TheVariants.{Gives, Allocates, Frees, Recaps, Binds, Transfers}
use Rattle.world_model.specs.declared.slot.Phase.{Phase}
use Rattle.world_model.specs.declared.slot.Phase.TheVariants as phase
use Rattle.world_model.specs.declared.slot.Runner.{Runner}
use Rattle.world_model.specs.declared.slot.Turn.{Turn}
use Rattle.world_model.specs.declared.timer.Timer.{Timer}
use Rattle.world_model.specs.declared.timer.Timer.TheVariants as answer
use Rattle.world_model.specs.declared.verdict.Verdict.{Verdict}
use Rattle.world_model.specs.declared.verdict.Verdict.TheVariants.{Refuse, Again, Grant}
use Rattle.world_model.specs.Book.{Book, sees, whole_turn}
use Rattle.world_model.specs.ClaimCalls.{claim_of}
use Rattle.world_model.specs.Deadlines.{copy_left, takes}
use Rattle.world_model.specs.Death.{death_items, lost_with}
use Rattle.world_model.specs.Event.{arrives, asks, happen, revokes, ring_bytes, ring_left, signals}
use Rattle.world_model.specs.Item.{Item, Step, Start, End, Transfer, Killed, Answer, Gained, Lost, Left, Packet, Line, Asked, Taken}
use Rattle.world_model.specs.PageCalls.{left_at, left_by, left_if, lost_bindings, lost_if, page_bytes}
use Rattle.world_model.specs.Rings.{page_store, ring_of}
use Rattle.world_model.specs.Solo.{Key, Physical}
use Rattle.world_model.specs.Step.{Stores, Dies}
use Rattle.world_model.specs.Tick.{handles_end, kill, owes_more, step, take_turn, timer, timer_now, timer_reply, turn, turn_when}
use Rattle.world_model.specs.Timer.{timer_at_end}
use Rattle.world_model.specs.Verdict.{asks_one, reply_by_verdict}
use Rattle.world_model.specs.World.{World, after, is_living, no_change, no_items, only, tells}
use Rattle.run_model.specs.Licensed.{AtArrival, AtEvent, AtRevocation, AtSignal, AtStep, AtTaking, AtTimer, AtTurn, Breaks, ByDeath, ByFree, ByRecap, IsAnswered, IsBroken, IsEntered, IsLeft, IsOut, IsOverdue, IsPressed}
use Rattle.run_model.specs.Run.{System}
use Rattle.giving_law.proofs.Places.{Has, has_first, has_here, has_other, has_own, has_second}
use Rattle.giving_law.proofs.Running.{act_given, call_given, deed_given, step_gives, timer_gives}
use Rattle.giving_law.proofs.Ticking.{HasTicks}

-- an item that is told to one
told : (e i : ℕ) (x item : Item) → i ≡ e → item ≡ x → Has (only e (x ∷ []) i) item
told e i x item own same = has_own e i (x ∷ []) no_items item own (subst (λ (y : Item). Has (y ∷ []) item) same (has_here item []))

-- ---- events
signal_given : (raised : ℕ) (w : World) (e : ℕ) (item : Item) → AtSignal raised w e item → Has ((signals raised (w.book.lines raised) w).items e) item
signal_given raised w e (Line line) its =
    subst (λ (o : Option ℕ). Has ((signals raised o w).items e) (Line line)) (sym its.its) (told e e (Line raised) (Line line) refl (ap Line its.same))
signal_given raised w e item its = absurd its

left_given : (w : World) (owner e page : ℕ) (bytes : List ℕ) → e ≢ owner → sees w.book e page ≡ true → Has (left_by w.book owner (page_store page bytes) e) (Left page 0 bytes)
left_given w owner e page bytes other seen =
    subst (λ (t : Bool). Has (if t then [] else left_if (sees w.book e page) page (page_store page bytes)) (Left page 0 bytes)) (sym (ne_eqb e owner other))
    (subst (λ (t : Bool). Has (left_if t page (page_store page bytes)) (Left page 0 bytes)) (sym seen) (has_here (Left page 0 bytes) []))

arrival_given : (packet : List ℕ) (w : World) (e : ℕ) (item : Item) → AtArrival packet w e item → Has ((arrives packet (claim_of w.book packet) w).items e) item
arrival_given packet w e (Packet claim given) its =
    let c = its.lowest in
    let s = w.solos c.env in
    let same : Packet claim given ≡ Packet c.id packet = λ k. Packet (sym its.number k) (its.same k) in
    subst (λ (o : Option ClaimValue). Has ((arrives packet o w).items e) (Packet claim given)) (sym its.goes)
    (has_own c.env e (Packet c.id packet ∷ []) (ring_left w.book c.env c.page (ring_bytes s (ring_of s.rings c.id) packet)) (Packet claim given) (sym its.its)
    (subst (λ (y : Item). Has (y ∷ []) (Packet claim given)) same (has_here (Packet claim given) [])))
arrival_given packet w e (Left page offset bytes) its =
    let c = its.lowest in
    let s = w.solos c.env in
    let filled : ring_bytes s (ring_of s.rings c.id) packet ≡ Some bytes = its.filled in
    let same : Left c.page 0 bytes ≡ Left page offset bytes = λ k. Left (its.into k) (sym its.whole k) bytes in
    let seen : sees w.book e c.page ≡ true = ap (λ (p : ℕ). sees w.book e p) its.into ∙ its.seen in
    let given : Has (ring_left w.book c.env c.page (Some bytes) e) (Left page offset bytes) =
    subst (λ (y : Item). Has (ring_left w.book c.env c.page (Some bytes) e) y) same (left_given w c.env e c.page bytes its.another seen) in
    subst (λ (o : Option ClaimValue). Has ((arrives packet o w).items e) (Left page offset bytes)) (sym its.goes)
    (has_other c.env e (Packet c.id packet ∷ []) (ring_left w.book c.env c.page (ring_bytes s (ring_of s.rings c.id) packet)) (Left page offset bytes) its.another
    (subst (λ (o : Option (List ℕ)). Has (ring_left w.book c.env c.page o e) (Left page offset bytes)) (sym filled) given))
arrival_given packet w e item its = absurd its

revocation_given : (named count until : ℕ) (w : World) (e : ℕ) (item : Item) → AtRevocation named count until w e item → Has ((revokes named count until w).items e) item
revocation_given named count until w e (Asked outstanding deadline) its =
    let item = Asked outstanding deadline in
    let lives : is_living w named ≡ true = ap (is_living w) its.its ∙ its.lives in
    let pending : asked count until (w.book.pending named) ≡ Some (record { outstanding = outstanding; deadline = deadline }) = ap (λ (n : ℕ). asked count until (w.book.pending n)) its.its ∙ its.pending in
    subst (λ (t : Bool). Has ((if t then asks named (asked count until (w.book.pending named)) w else no_change w).items e) item) (sym lives)
    (subst (λ (o : Option Pending). Has ((asks named o w).items e) item) (sym pending) (told named e item item (sym its.its) refl))
revocation_given named count until w e item its = absurd its

pub event_given : (what : Occurrence) (w : World) (e : ℕ) (item : Item) → AtEvent what w e item → Has ((happen what w).items e) item
event_given (outside.Packet packet) w e item its = arrival_given packet w e item its
event_given (outside.Line line) w e item its = signal_given line w e item its
event_given (outside.Revoke env count grace) w e item its = revocation_given env count (w.book.time + grace) w e item its

-- ---- losses
loss_given : (w : World) (e page : ℕ) → is_bound page (w.book.binds e) ≡ true → Has (lost_bindings w.book page e) (Lost page)
loss_given w e page bound = subst (λ (t : Bool). Has (lost_if t page) (Lost page)) (sym bound) (has_here (Lost page) [])

losses_given : (b : Book) (gone e page : ℕ) → belongs_to gone (b.pages page) ≡ true → is_bound page (b.binds e) ≡ true → (n : ℕ) → page < n → Has (lost_with b gone e n) (Lost page)
losses_given b gone e page owned bound zero below = absurd (omega (arith, below))
losses_given b gone e page owned bound (suc n) below = by_test (page == n) refl (losses_given b gone e page owned bound n)
  where
    its : ℕ → List Item
    its m = if belongs_to gone (b.pages m) then lost_bindings b m e else []

    here : Has (its page) (Lost page)
    here =
        subst (λ (t : Bool). Has (if t then lost_bindings b page e else []) (Lost page)) (sym owned)
        (subst (λ (t : Bool). Has (lost_if t page) (Lost page)) (sym bound) (has_here (Lost page) []))

    by_test : (t : Bool) → (page == n) ≡ t → (page < n → Has (lost_with b gone e n) (Lost page)) → Has (lost_with b gone e n ++ its n) (Lost page)
    by_test true same further = has_second (lost_with b gone e n) (its n) (Lost page) (subst (λ (m : ℕ). Has (its m) (Lost page)) (eqb-true page n same) here)
    by_test false other further = let ne = eqb-false page n other in has_first (lost_with b gone e n) (its n) (Lost page) (further (omega (arith, below, ne)))

death_given : (b : Book) (gone e page : ℕ) → e ≢ gone → belongs_to gone (b.pages page) ≡ true → is_bound page (b.binds e) ≡ true → page < b.page_count → Has (death_items b gone e) (Lost page)
death_given b gone e page other owned bound below =
    subst (λ (t : Bool). Has (if t then [] else lost_with b gone e b.page_count) (Lost page)) (sym (ne_eqb e gone other)) (losses_given b gone e page owned bound b.page_count below)

-- pages end at their count
abbrev pub PagesEndIn : World → Type 0
PagesEndIn w = (page : ℕ) → w.book.page_count ≤ page → w.book.pages page ≡ Free

is_below : (w : World) (owner page : ℕ) → PagesEndIn w → belongs_to owner (w.book.pages page) ≡ true → page < w.book.page_count
is_below w owner page ends owned = by_test (nat_lt page w.book.page_count) refl
  where
    by_test : (t : Bool) → nat_lt page w.book.page_count ≡ t → page < w.book.page_count
    by_test true is = ltb-true page w.book.page_count is
    by_test false is =
        let none : false ≡ true = sym (ap (belongs_to owner) (ends page (ltb-false page w.book.page_count is))) ∙ owned in
        cc

-- ---- takings
pub taking_given : (x : Taking) (w : World) (e : ℕ) (item : Item) → AtTaking x w e item → Has ((takes x w).items e) item
taking_given x w e (Taken page backup) its =
    let same : Taken x.page x.backup ≡ Taken page backup = ap (λ (y : Taking). Taken y.page y.backup) its.its in
    has_own x.env e (Taken x.page x.backup ∷ []) (λ i. copy_left w x x.backup i ++ lost_bindings w.book x.page i) (Taken page backup) (sym (ap (λ (y : Taking). y.env) its.its))
    (subst (λ (y : Item). Has (y ∷ []) (Taken page backup)) (sym same) (has_here (Taken page backup) []))
taking_given x w e (Lost page) its =
    let bound : is_bound x.page (w.book.binds e) ≡ true = ap (λ (p : ℕ). is_bound p (w.book.binds e)) its.its ∙ its.has.bound in
    let lost : Has (lost_bindings w.book x.page e) (Lost page) = subst (λ (p : ℕ). Has (lost_bindings w.book x.page e) (Lost p)) its.its (loss_given w e x.page bound) in
    has_other x.env e (Taken x.page x.backup ∷ []) (λ i. copy_left w x x.backup i ++ lost_bindings w.book x.page i) (Lost page) its.has.another
    (has_second (copy_left w x x.backup e) (lost_bindings w.book x.page e) (Lost page) lost)
taking_given x w e (Left page offset bytes) its =
    let copy = page_bytes w x.page in
    let same : Left page 0 copy ≡ Left page offset bytes = λ k. Left page (sym its.whole k) (sym its.its k) in
    let left : Has (copy_left w x (Some page) e) (Left page offset bytes) = subst (λ (y : Item). Has (copy_left w x (Some page) e) y) same (left_given w x.env e page copy its.another its.seen) in
    has_other x.env e (Taken x.page x.backup ∷ []) (λ i. copy_left w x x.backup i ++ lost_bindings w.book x.page i) (Left page offset bytes) its.another
    (has_first (copy_left w x x.backup e) (lost_bindings w.book x.page e) (Left page offset bytes)
    (subst (λ (o : Option ℕ). Has (copy_left w x o e) (Left page offset bytes)) (sym its.into) left))
taking_given x w e item its = absurd its

-- ---- the turn
pub turn_given : (w : World) (e : ℕ) (item : Item) → AtTurn w e item → Has ((turn w).items e) item
turn_given w e Start its =
    subst (λ (o : Option Runner). Has ((turn_when w o).items e) Start) (sym its.nobody)
    (subst (λ (o : Option Turn). Has ((take_turn w (whole_turn w.book) o).items e) Start) (sym its.runs) (told its.turn.env e Start Start (sym its.its) refl))
turn_given w e item its = absurd its

-- ---- the step
module _ (system : System) (t : ℕ) (w : World) (e : ℕ) where
  lost_given : (page : ℕ) → PagesEndIn w → IsBroken w e page → Has ((step w).items e) (Lost page)
  lost_given page ends broken = by_cause broken.breaks
    where
      owner : ℕ
      owner = broken.owner

      lost : Has (lost_bindings w.book page e) (Lost page)
      lost = loss_given w e page broken.has.bound

      by_cause : Breaks w owner page → Has ((step w).items e) (Lost page)
      by_cause (ByFree does) = deed_given w owner e (Frees page) (Lost page) does (has_other owner e (Lost page ∷ []) (lost_bindings w.book page) (Lost page) broken.has.another lost)
      by_cause (ByRecap words does) = deed_given w owner e (Recaps page words) (Lost page) does (has_other owner e [] (lost_bindings w.book page) (Lost page) broken.has.another lost)
      by_cause (ByDeath cause acts) =
          act_given w owner e (Dies cause) (Lost page) acts
          (death_given w.book owner e page broken.has.another broken.has.owned broken.has.bound (is_below w owner page ends broken.has.owned))

  stored_given : (page offset : ℕ) (bytes : List ℕ) → IsLeft system t w e page offset bytes → Has ((step w).items e) (Left page offset bytes)
  stored_given page offset bytes its =
      let x = its.store in
      let same : Left page x.offset x.bytes ≡ Left page offset bytes = λ k. Left page (its.at k) (its.its k) in
      let left : Has (left_at w.book its.writer x (Physical page) e) (Left page offset bytes) =
      subst (λ (b : Bool). Has (if b then [] else left_if (sees w.book e page) page x) (Left page offset bytes)) (sym (ne_eqb e its.writer its.another))
      (subst (λ (b : Bool). Has (left_if b page x) (Left page offset bytes)) (sym its.seen)
      (subst (λ (y : Item). Has (Left page x.offset x.bytes ∷ []) y) same (has_here (Left page x.offset x.bytes) []))) in
      act_given w its.writer e (Stores x) (Left page offset bytes) its.acts
      (subst (λ (key : Key). Has (left_at w.book its.writer x key e) (Left page offset bytes)) (sym its.into) left)

  asked_given : (outstanding deadline : ℕ) → IsPressed w e outstanding deadline → Has ((step w).items e) (Asked outstanding deadline)
  asked_given outstanding deadline its =
      let item = Asked outstanding deadline in
      let caller = its.caller in
      let until = w.book.time + 2 * w.book.quantum in
      let revoked = revocation_given e 1 until w e item its.asks in
      let asks : Has ((asks_one e w).items e) item =
      subst (λ (b : Bool). Has ((if b then revokes e 1 until w else no_change w).items e) item) (sym its.nothing) revoked in
      call_given w caller e its.answered.call (Again e) item its.answered.acts its.answered.its
      (has_second (only caller (Answer (Again e) ∷ []) e) ((asks_one e w).items e) item asks)

  answer_given : (v : Verdict) → IsAnswered w e v → Has ((step w).items e) (Answer v)
  answer_given v its = call_given w e e its.call v (Answer v) its.acts its.its (by_verdict v)
    where
      here : (v : Verdict) → Has (only e (Answer v ∷ []) e) (Answer v)
      here v = told e e (Answer v) (Answer v) refl refl

      by_verdict : (v : Verdict) → Has ((reply_by_verdict w e v).items e) (Answer v)
      by_verdict (Refuse code value) = here (Refuse code value)
      by_verdict (Again who) = has_first (only e (Answer (Again who) ∷ []) e) ((asks_one who w).items e) (Answer (Again who)) (here (Again who))
      by_verdict (Grant value) = has_first (only e (Answer (Grant value) ∷ []) e) _ (Answer (Grant value)) (here (Grant value))

  gained_given : (page : ℕ) (writable : Bool) (bytes : List ℕ) → AtStep system t w e (Gained page writable bytes) → Has ((step w).items e) (Gained page writable bytes)
  gained_given page writable bytes (inl its) =
      let same : Gained page writable bytes ≡ Gained page true zero_page = λ k. Gained page (its.mode k) (its.zeros k) in
      deed_given w e e (Allocates page its.words) (Gained page writable bytes) its.does (told e e (Gained page true zero_page) (Gained page writable bytes) refl same)
  gained_given page writable bytes (inr its) =
      let b = its.binding in
      let here : page_bytes w b.page ≡ page_bytes w page = ap (page_bytes w) its.its in
      let same : Gained page writable bytes ≡ Gained b.page b.writable (page_bytes w b.page) = λ k. Gained (sym its.its k) (sym its.mode k) ((its.same ∙ sym here) k) in
      deed_given w e e (Binds b its.word) (Gained page writable bytes) its.does (told e e (Gained b.page b.writable (page_bytes w b.page)) (Gained page writable bytes) refl same)

  entered_given : (from : ℕ) (kind : TransferKind) (registers : Registers) → IsEntered w e from kind registers → Has ((step w).items e) (Transfer from kind registers)
  entered_given from kind registers its =
      deed_given w from e (Transfers e kind) (Transfer from kind registers) its.does
      (told e e (Transfer from kind (carried (w.solos from).cpu)) (Transfer from kind registers) refl (ap (Transfer from kind) its.its))

  pub step_given : PagesEndIn w → (item : Item) → AtStep system t w e item → Has ((step w).items e) item
  step_given ends Step runs =
      subst (λ xs. Has xs Step) (sym (step_gives w e e runs)) (has_first (only e (Step ∷ []) e) _ Step (told e e Step Step refl refl))
  step_given ends Start its = deed_given w its.giver e (Gives e) Start its.does (told e e Start Start refl refl)
  step_given ends (Transfer from kind registers) its = entered_given from kind registers its
  step_given ends (Answer v) its = answer_given v its
  step_given ends (Gained page writable bytes) its = gained_given page writable bytes its
  step_given ends (Lost page) (inl its) = deed_given w e e (Frees page) (Lost page) its.does (has_own e e (Lost page ∷ []) (lost_bindings w.book page) (Lost page) refl (has_here (Lost page) []))
  step_given ends (Lost page) (inr its) = lost_given page ends its
  step_given ends (Left page offset bytes) its = stored_given page offset bytes its
  step_given ends (Asked outstanding deadline) its = asked_given outstanding deadline its
  step_given ends item its = absurd its

-- ---- the timer
module _ (w : World) (x : ℕ) (p : Phase) (out : IsOut w x p) (ticks : HasTicks w.book.runner) where
  abbrev r : Runner
  r = out.runner

  last : (r.left == 1) ≡ true
  last =
      let some : 1 ≤ r.left = subst HasTicks out.runs ticks in
      let one : r.left ≡ 1 = omega (arith, some, out.last) in
      eq-eqb r.left 1 one

  -- what the timer answers at the end of a quantum
  at_end : timer_now w r ≡ timer_at_end p (handles_end w r.env) (w.book.excess r.env)
  at_end =
      ap (λ (one : Bool). if one then timer_at_end r.phase (handles_end w r.env) (w.book.excess r.env) else answer.Nothing) last
      ∙ ap (λ (q : Phase). timer_at_end q (handles_end w r.env) (w.book.excess r.env)) out.so

  pub answers : (a : Timer) → timer_at_end p (handles_end w x) (w.book.excess x) ≡ a → (i : ℕ) (item : Item)
      → Has ((timer_reply r a w).items i) item → Has ((timer w).items i) item
  answers a is i item has =
      let own : timer_at_end p (handles_end w r.env) (w.book.excess r.env) ≡ a = ap (λ (n : ℕ). timer_at_end p (handles_end w n) (w.book.excess n)) out.its ∙ is in
      subst (λ xs. Has xs item) (sym (timer_gives w r i out.runs))
      (has_first ((timer_reply r (timer_now w r) w).items i) [] item
      (subst (λ (b : Timer). Has ((timer_reply r b w).items i) item) (sym (at_end ∙ own)) has))

-- who runs out of grace and owes too much is killed
killed : (w : World) (x : ℕ) (overdue : IsOverdue w x) → HasTicks w.book.runner → (i : ℕ) (item : Item)
    → Has ((kill x (after w (owes_more x w))).items i) item → Has ((timer w).items i) item
killed w x overdue ticks i item has =
    let r = overdue.out.runner in
    let is : timer_at_end phase.Grace (handles_end w x) (w.book.excess x) ≡ answer.Kill =
    ap (λ (t : Bool). if t then answer.Kill else answer.Over (w.book.excess x + 1)) (lt-ltb excess_limit (w.book.excess x + 1) overdue.owes) in
    let its : Has ((kill r.env (after w (owes_more r.env w))).items i) item = subst (λ (n : ℕ). Has ((kill n (after w (owes_more n w))).items i) item) (sym overdue.out.its) has in
    answers w x phase.Grace overdue.out ticks answer.Kill is i item
    (has_first ((kill r.env (after w (owes_more r.env w))).items i) [] item its)

pub timer_given : (w : World) (e : ℕ) → HasTicks w.book.runner → PagesEndIn w → (item : Item) → AtTimer w e item → Has ((timer w).items e) item
timer_given w e ticks ends End its =
    let handles : handles_end w e ≡ true = ap not (ne_eqb (w.solos e).handlers.end 0 its.handles) in
    let r = its.out.runner in
    answers w e phase.Own its.out ticks answer.End (ap (λ (t : Bool). timer_at_end phase.Own t (w.book.excess e)) handles) e End (told r.env e End End (sym its.out.its) refl)
timer_given w e ticks ends Killed its =
    killed w e its ticks e Killed (has_first (only e (Killed ∷ []) e) _ Killed (told e e Killed Killed refl refl))
timer_given w e ticks ends (Lost page) its =
    let gone = its.owner in
    let w2 = after w (owes_more gone w) in
    let b = (after w2 (tells gone Killed w2)).book in
    let lost = death_given b gone e page its.has.another its.has.owned its.has.bound (is_below w gone page ends its.has.owned) in
    killed w gone its.overdue ticks e (Lost page)
    (has_second (only gone (Killed ∷ []) e) (death_items b gone e ++ []) (Lost page) (has_first (death_items b gone e) [] (Lost page) lost))
timer_given w e ticks ends item its = absurd its

-- What each phase of a tick gives to an environment: at most its first item changes guaranteed pages, or life.
use Rattle.std.proofs.Common.{ap, ◌+◌, ◌≡◌, ◌≢◌, ℕ, List, [], ◌∷◌, ◌++◌, Bool, true, false, Option, Some, None, refl, sym, ◌∙◌, subst}
use Rattle.std.specs.Prelude.{◌==◌, ◌&&◌, nat_lt, not, if◌then◌else◌}
use Rattle.std.proofs.lemmas.Bool.{and_parts, eq-eqb, eqb-true}
use Rattle.env_frames.specs.Transfer.{carried}
use Rattle.bind_book.specs.Stripe.{is_bound}
use Rattle.world_model.specs.declared.call.Call.{Call}
use Rattle.world_model.specs.declared.call.Deed.{Deed}
use Rattle.world_model.specs.declared.call.Deed.TheVariants.{Gives as Donates, Allocates, Frees, Recaps, Binds, Transfers}
use Rattle.world_model.specs.declared.slot.Runner.{Runner}
use Rattle.world_model.specs.declared.slot.Turn.{Turn}
use Rattle.world_model.specs.declared.verdict.Verdict.{Verdict}
use Rattle.world_model.specs.declared.verdict.Verdict.TheVariants.{Refuse, Again, Grant}
use Rattle.world_model.specs.Book.{WholeTurn, sees, whole_turn}
use Rattle.world_model.specs.Call.{called}
use Rattle.world_model.specs.Death.{death_items}
use Rattle.external_event.specs.declared.event.Occurrence.{Occurrence}
use Rattle.external_event.specs.declared.event.Occurrence.TheVariants as outside
use Rattle.filter_tree.specs.ClaimBook.{ClaimValue}
use Rattle.world_model.specs.ClaimCalls.{claim_of}
use Rattle.revocation_book.specs.declared.revocation.Taking.{Taking}
use Rattle.world_model.specs.Deadlines.{copy_left, settles, takes}
use Rattle.world_model.specs.Event.{arrives, happen, revokes, ring_bytes, ring_left, signals}
use Rattle.world_model.specs.Rings.{page_store, ring_of}
use Rattle.world_model.specs.Item.{Item, Step, Start, End, Transfer, Killed, Answer, Gained, Lost, Packet, Line, Asked, Taken, deed_at}
use Rattle.world_model.specs.May.{May}
use Rattle.world_model.specs.PageCalls.{lost_bindings, left_at, left_by, page_bytes}
use Rattle.world_model.specs.SlotCalls.{is_other}
use Rattle.world_model.specs.Solo.{Store, Key, Kept, Physical, is_dead}
use Rattle.world_model.specs.Step.{Act, Stores, Calls, Dies}
use Rattle.world_model.specs.Tick.{act_now, act_reply, count_when, kill, owes_more, step, step_when, take_turn, timer, turn, turn_when, timer_reply, timer_now}
use Rattle.world_model.specs.declared.timer.Timer.{Timer}
use Rattle.world_model.specs.declared.timer.Timer.TheVariants as answer
use Rattle.world_model.specs.Verdict.{asks_one, done, reply_by_verdict, reply_to, verdict}
use Rattle.world_model.specs.World.{World, Reply, after, only, tells}
use Rattle.frame_store.specs.Pages.{zero_page}
use Rattle.call_verdicts.specs.Granted.{AgainAsks, GrantedMay}
use Rattle.run_model.proofs.Telling.{call_stands, deed_may, call_named}
use Rattle.sharing_law.proofs.Asking.{asking_or, revocation_or}
use Rattle.sharing_law.proofs.Choices.{either}
use Rattle.sharing_law.proofs.Given.{AreTold, Gives, Hands, IsHanded, Led, Leads, Rests, Tells, gives_led, gives_own, led_more, led_only, told_at, told_both, told_death, told_left, told_lost_if, told_only}

-- what may be reached is another
pub other_than : (w : World) (e target : ℕ) → is_other w e target ≡ true → e ≢ target
other_than w e target its same =
    let alive = not (is_dead (w.solos target).life) in
    let parts = and_parts alive (not (target == e)) (and_parts (nat_lt target w.count) (alive && not (target == e)) its).1 in
    let clash : not true ≡ true = ap not (sym (eq-eqb target e (sym same))) ∙ parts.1 in
    cc

-- what is handed to a target goes to no other
hands : (e target : ℕ) (item : Item) → IsHanded item → e ≢ target → (i : ℕ) → Gives e i (only target (item ∷ []) i)
hands e target item is_handed other i = by_test (i == target) refl
  where
    by_test : (t : Bool) → (i == target) ≡ t → Gives e i (if t then item ∷ [] else [])
    by_test true same = Hands (subst (λ (n : ℕ). e ≢ n) (sym (eqb-true i target same)) other) item is_handed refl
    by_test false same = Tells tt

-- deed by deed
pub deed_gives : (w : World) (e : ℕ) (d : Deed) → May w e d → (i : ℕ) → Gives e i ((done w e d).items i)
deed_gives w e (Donates target) may i = hands e target Start tt (other_than w e target may.other) i
deed_gives w e (Allocates page words) may i = Tells (told_only e i (Gained page true zero_page ∷ []) (tt, tt))
deed_gives w e (Frees page) may i = Tells (told_at e i (Lost page ∷ []) (lost_bindings w.book page) (tt, tt) (told_lost_if (is_bound page (w.book.binds i)) page))
deed_gives w e (Recaps page words) may i = Tells (told_at e i [] (lost_bindings w.book page) tt (told_lost_if (is_bound page (w.book.binds i)) page))
deed_gives w e (Binds b word) may i = Tells (told_only e i (Gained b.page b.writable (page_bytes w b.page) ∷ []) (tt, tt))
deed_gives w e (Transfers target kind) may i = hands e target (Transfer e kind (carried (w.solos e).cpu)) tt (other_than w e target may.reach.other) i
deed_gives w e d may i = Tells tt

-- another is asked for a page
pub ask_gives : (w : World) (e who : ℕ) → e ≢ who → (i : ℕ) → Gives e i ((asks_one who w).items i)
ask_gives w e who other i =
    asking_or (λ (r : Reply). Gives e i (r.items i)) w who (Tells tt) (λ p. hands e who (Asked p.outstanding p.deadline) tt other i)

-- an answer comes first
answers : (e i : ℕ) (v : Verdict) (items : List Item) → Gives e i items → Gives e i (only e (Answer v ∷ []) i ++ items)
answers e i v items gives = by_test (i == e) refl
  where
    by_test : (t : Bool) → (i == e) ≡ t → Gives e i ((if t then Answer v ∷ [] else []) ++ items)
    by_test true same = Tells (tt, gives_own e i items gives (sym (eqb-true i e same)))
    by_test false same = gives

pub store_gives : (w : World) (e : ℕ) (x : Store) (i : ℕ) → Gives e i (left_by w.book e x i)
store_gives w e x i = by_key x.key
  where
    by_key : (key : Key) → Gives e i (left_at w.book e x key i)
    by_key (Kept vpn) = Tells tt
    by_key (Physical page) = Tells (told_left (sees w.book i page) e i page x)

module _ (granted : GrantedMay) (again : AgainAsks) (w : World) (e : ℕ) where
  call_gives : (c : Option Call) → called (w.solos e).cpu ≡ c → (i : ℕ) → Gives e i ((reply_to w e c).items i)
  call_gives c named i = by_verdict (verdict w e c) refl
    where
      by_verdict : (v : Verdict) → verdict w e c ≡ v → Gives e i ((reply_by_verdict w e v).items i)
      by_verdict (Refuse code value) is = Tells (told_only e i (Answer (Refuse code value) ∷ []) (tt, tt))
      by_verdict (Again who) is = answers e i (Again who) ((asks_one who w).items i) (ask_gives w e who (λ same. (again w e c who is).another (sym same)) i)
      by_verdict (Grant value) is = let d = deed_at (w.solos e) value in answers e i (Grant value) ((done w e d).items i) (deed_gives w e d (deed_may granted w e c named value is) i)

  -- what an act brings once the step is made
  act_gives : (act : Act) → act_now w e ≡ act → (i : ℕ) → Gives e i ((act_reply e act (after w (tells e Step w))).items i)
  act_gives (Stores x) is i = store_gives w e x i
  act_gives (Calls c) is i = subst (λ (v : World). Gives e i ((act_reply e (Calls c) v).items i)) (sym (call_stands w e c is)) (call_gives c (call_named w e c is) i)
  act_gives (Dies cause) is i = Tells (told_death w.book e i)
  act_gives act is i = Tells tt

-- The phases. What happens from outside, kind by kind
signal_led : (line : ℕ) (owner : Option ℕ) (w : World) (i : ℕ) → Led ((signals line owner w).items i)
signal_led line None w i = Rests tt
signal_led line (Some owner) w i = led_only owner i (Line line)

pub ring_told : (w : World) (owner page : ℕ) (bytes : Option (List ℕ)) (i : ℕ) → AreTold (ring_left w.book owner page bytes i)
ring_told w owner page None i = tt
ring_told w owner page (Some bytes) i = told_left (sees w.book i page) owner i page (page_store page bytes)

arrival_led : (packet : List ℕ) (claim : Option ClaimValue) (w : World) (i : ℕ) → Led ((arrives packet claim w).items i)
arrival_led packet None w i = Rests tt
arrival_led packet (Some c) w i =
    let bytes = let s = w.solos c.env in ring_bytes s (ring_of s.rings c.id) packet in
    either Led (i == c.env) (Packet c.id packet ∷ []) (ring_left w.book c.env c.page bytes i) (Leads (Packet c.id packet) [] tt refl) (Rests (ring_told w c.env c.page bytes i))

revocation_led : (e count deadline : ℕ) (w : World) (i : ℕ) → Led ((revokes e count deadline w).items i)
revocation_led e count deadline w i =
    revocation_or (λ (r : Reply). Led (r.items i)) w e count deadline (Rests tt) (λ p. led_only e i (Asked p.outstanding p.deadline))

pub happen_led : (what : Occurrence) (w : World) (i : ℕ) → Led ((happen what w).items i)
happen_led (outside.Packet packet) w i = arrival_led packet (claim_of w.book packet) w i
happen_led (outside.Line line) w i = signal_led line (w.book.lines line) w i
happen_led (outside.Revoke env count grace) w i = revocation_led env count (w.book.time + grace) w i

-- A page that is taken: its owner is given the record, and others what they lose and what is copied.
pub copy_told : (w : World) (x : Taking) (backup : Option ℕ) (i : ℕ) → AreTold (copy_left w x backup i)
copy_told w x None i = tt
copy_told w x (Some backup) i = told_left (sees w.book i backup) x.env i backup (page_store backup (page_bytes w x.page))

pub taking_told : (w : World) (x : Taking) (i : ℕ) → AreTold (copy_left w x x.backup i ++ lost_bindings w.book x.page i)
taking_told w x i = told_both (copy_left w x x.backup i) (lost_bindings w.book x.page i) (copy_told w x x.backup i) (told_lost_if (is_bound x.page (w.book.binds i)) x.page)

pub taking_led : (x : Taking) (w : World) (i : ℕ) → Led ((takes x w).items i)
taking_led x w i =
    let told = Taken x.page x.backup in
    either Led (i == x.env) (told ∷ []) (copy_left w x x.backup i ++ lost_bindings w.book x.page i) (Leads told [] tt refl) (Rests (taking_told w x i))

pub settling_led : (w : World) (i : ℕ) → Led ((settles w).items i)
settling_led w i = Rests tt

pub turn_led : (w : World) (i : ℕ) → Led ((turn w).items i)
turn_led w i = by_runner w.book.runner
  where
    by_turn : (told : WholeTurn) (o : Option Turn) → Led ((take_turn w told o).items i)
    by_turn told None = Rests tt
    by_turn told (Some t) = led_only t.env i Start

    by_runner : (o : Option Runner) → Led ((turn_when w o).items i)
    by_runner None = by_turn (whole_turn w.book) (whole_turn w.book).runs
    by_runner (Some r) = Rests tt

pub step_led : GrantedMay → AgainAsks → (w : World) (i : ℕ) → Led ((step w).items i)
step_led granted again w i = by_runner w.book.runner
  where
    by_test : (e : ℕ) (items : List Item) → Gives e i items → (t : Bool) → (i == e) ≡ t → Led ((if t then Step ∷ [] else []) ++ (items ++ []))
    by_test e items gives true same = Leads Step (items ++ []) (told_both items [] (gives_own e i items gives (sym (eqb-true i e same))) tt) refl
    by_test e items gives false same = led_more items [] (gives_led e i items gives) tt

    by_runner : (o : Option Runner) → Led ((step_when w o).items i)
    by_runner None = Rests tt
    by_runner (Some r) =
        let act = act_now w r.env in
        by_test r.env ((act_reply r.env act (after w (tells r.env Step w))).items i) (act_gives granted again w r.env act refl i) (i == r.env) refl

killed_led : (w : World) (e i : ℕ) → Led ((kill e w).items i)
killed_led w e i =
    let rest = death_items w.book e i ++ [] in
    let told = told_both (death_items w.book e i) [] (told_death w.book e i) tt in
    either (λ (first : List Item). Led (first ++ rest)) (i == e) (Killed ∷ []) [] (Leads Killed rest told refl) (Rests told)

answer_led : (w : World) (r : Runner) (what : Timer) (i : ℕ) → Led ((timer_reply r what w).items i)
answer_led w r answer.Nothing i = Rests tt
answer_led w r answer.End i = led_only r.env i End
answer_led w r answer.Stop i = Rests tt
answer_led w r (answer.Over excess) i = Rests tt
answer_led w r answer.Kill i = let u = after w (owes_more r.env w) in led_more ((kill r.env u).items i) [] (killed_led u r.env i) tt

pub timer_led : (w : World) (i : ℕ) → Led ((timer w).items i)
timer_led w i = led_more ((count_when w.book.runner w).items i) [] (by_runner w.book.runner) tt
  where
    by_runner : (o : Option Runner) → Led ((count_when o w).items i)
    by_runner None = Rests tt
    by_runner (Some r) = answer_led w r (timer_now w r) i

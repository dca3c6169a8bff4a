-- The items of each phase rise by rank, so each of them is given once.
use Rattle.std.proofs.Common.{◌≤◌, ◌+◌, ℕ, zero, suc, List, [], ◌∷◌, ◌++◌, Bool, true, false, Option, Some, None, is_none, arith}
use Rattle.std.specs.Prelude.{◌*◌, ◌==◌, if◌then◌else◌}
use Rattle.external_event.specs.declared.event.Occurrence.{Occurrence}
use Rattle.external_event.specs.declared.event.Occurrence.TheVariants as outside
use Rattle.filter_tree.specs.ClaimBook.{ClaimValue}
use Rattle.frame_store.specs.Pages.{zero_page}
use Rattle.env_frames.specs.Transfer.{carried}
use Rattle.page_book.specs.Row.{belongs_to}
use Rattle.bind_book.specs.Stripe.{is_bound}
use Rattle.revocation_book.specs.declared.revocation.Pending.{Pending}
use Rattle.revocation_book.specs.declared.revocation.Taking.{Taking}
use Rattle.revocation_book.specs.Pending.{asked}
use Rattle.world_model.specs.declared.call.Deed.{Deed}
use Rattle.world_model.specs.declared.call.Deed.TheVariants.{Answers, Own, Stops, Gives, Allocates, Frees, Recaps, Binds, Unbinds, Transfers, TakesSlot, DropsSlot, TakesLine, DropsLine, Claims, Unclaims, Downloads, Loads}
use Rattle.world_model.specs.declared.slot.Runner.{Runner}
use Rattle.world_model.specs.declared.slot.Turn.{Turn}
use Rattle.world_model.specs.declared.timer.Timer.{Timer}
use Rattle.world_model.specs.declared.timer.Timer.TheVariants as answer
use Rattle.world_model.specs.declared.verdict.Verdict.{Verdict}
use Rattle.world_model.specs.declared.verdict.Verdict.TheVariants.{Refuse, Again, Grant}
use Rattle.world_model.specs.Book.{Book, sees, whole_turn}
use Rattle.world_model.specs.ClaimCalls.{claim_of}
use Rattle.world_model.specs.Deadlines.{copy_left, settles, takes}
use Rattle.world_model.specs.Death.{death_items, lost_with}
use Rattle.world_model.specs.Event.{arrives, asks, happen, revokes, ring_bytes, ring_left, signals}
use Rattle.world_model.specs.Item.{Item, Step, Start, End, Transfer, Killed, Answer, Gained, Lost, Left, Packet, Line, Asked, Taken, deed_at}
use Rattle.world_model.specs.PageCalls.{left_at, left_if, lost_bindings, lost_if, page_bytes}
use Rattle.world_model.specs.Rings.{page_store, ring_of}
use Rattle.world_model.specs.Solo.{Key, Kept, Physical, Store}
use Rattle.world_model.specs.Step.{Act, Nothing, Stores, Calls, Raises, Dies}
use Rattle.world_model.specs.Tick.{act_now, act_reply, count_when, kill, owes_more, step, step_when, take_turn, timer, timer_now, timer_reply, turn, turn_when}
use Rattle.world_model.specs.Verdict.{asks_one, done, reply_by_verdict, verdict}
use Rattle.world_model.specs.World.{World, Reply, after, is_living, no_change, no_items, only, tells}
use Rattle.giving_law.proofs.Rising.{Rises, RisesFrom, either, none_rises, one_rises, rises_at, rises_both, rises_from, rises_nil, rises_within, then_rises}

-- what is told to one
told_rises : (from e i : ℕ) (x : Item) → RisesFrom from (x ∷ []) → RisesFrom from (only e (x ∷ []) i)
told_rises from e i x own = rises_at from e i (x ∷ []) no_items own (none_rises from)

-- ---- events
left_rises : (from : ℕ) (t : Bool) (page : ℕ) (x : Store) → from ≤ 1 → RisesFrom from (left_if t page x)
left_rises from true page x least = one_rises from (Left page x.offset x.bytes) least
left_rises from false page x least = none_rises from

left_by_rises : (from : ℕ) (b : Book) (owner e : ℕ) (x : Store) (key : Key) → from ≤ 1 → RisesFrom from (left_at b owner x key e)
left_by_rises from b owner e x (Kept vpn) least = none_rises from
left_by_rises from b owner e x (Physical page) least =
    either (RisesFrom from) (e == owner) [] (left_if (sees b e page) page x) (none_rises from) (left_rises from (sees b e page) page x least)

signal_rises : (line : ℕ) (owner : Option ℕ) (w : World) (e : ℕ) → RisesFrom 0 ((signals line owner w).items e)
signal_rises line None w e = none_rises 0
signal_rises line (Some owner) w e = told_rises 0 owner e (Line line) (one_rises 0 (Line line) (omega arith))

arrival_rises : (packet : List ℕ) (o : Option ClaimValue) (w : World) (e : ℕ) → RisesFrom 0 ((arrives packet o w).items e)
arrival_rises packet None w e = none_rises 0
arrival_rises packet (Some c) w e =
    let s = w.solos c.env in
    rises_at 0 c.env e (Packet c.id packet ∷ []) (ring_left w.book c.env c.page (ring_bytes s (ring_of s.rings c.id) packet))
    (one_rises 0 (Packet c.id packet) (omega arith)) (by_bytes (ring_bytes s (ring_of s.rings c.id) packet))
  where
    by_bytes : (o : Option (List ℕ)) → RisesFrom 0 (ring_left w.book c.env c.page o e)
    by_bytes None = none_rises 0
    by_bytes (Some bytes) = left_by_rises 0 w.book c.env e (page_store c.page bytes) (Physical c.page) (omega arith)

asks_rises : (from named : ℕ) (o : Option Pending) (w : World) (e : ℕ) → from ≤ 2 → RisesFrom from ((asks named o w).items e)
asks_rises from named None w e least = none_rises from
asks_rises from named (Some p) w e least = told_rises from named e (Asked p.outstanding p.deadline) (one_rises from (Asked p.outstanding p.deadline) least)

revokes_rises : (from named count until : ℕ) (w : World) (e : ℕ) → from ≤ 2 → RisesFrom from ((revokes named count until w).items e)
revokes_rises from named count until w e least =
    either (λ (r : Reply). RisesFrom from (r.items e)) (is_living w named) (asks named (asked count until (w.book.pending named)) w) (no_change w)
    (asks_rises from named (asked count until (w.book.pending named)) w e least) (none_rises from)

pub event_rises : (what : Occurrence) (w : World) (e : ℕ) → RisesFrom 0 ((happen what w).items e)
event_rises (outside.Packet packet) w e = arrival_rises packet (claim_of w.book packet) w e
event_rises (outside.Line line) w e = signal_rises line (w.book.lines line) w e
event_rises (outside.Revoke env count grace) w e = revokes_rises 0 env count (w.book.time + grace) w e (omega arith)

-- ---- losses
lost_rises : (from : ℕ) (t : Bool) (page : ℕ) → from ≤ suc (suc page) → RisesFrom from (lost_if t page)
lost_rises from true page least = one_rises from (Lost page) least
lost_rises from false page least = none_rises from

one_loss : (t : Bool) (page : ℕ) → Rises (suc (suc page)) (suc (suc (suc page))) (lost_if t page)
one_loss true page = (omega arith, omega arith)
one_loss false page = omega arith

losses_rise : (b : Book) (gone e n : ℕ) → Rises 2 (suc (suc n)) (lost_with b gone e n)
losses_rise b gone e zero = omega arith
losses_rise b gone e (suc n) =
    let its = if belongs_to gone (b.pages n) then lost_bindings b n e else [] in
    rises_both 2 (suc (suc n)) (suc (suc (suc n))) (lost_with b gone e n) its (losses_rise b gone e n)
    (either (Rises (suc (suc n)) (suc (suc (suc n)))) (belongs_to gone (b.pages n)) (lost_bindings b n e) [] (one_loss (is_bound n (b.binds e)) n) (omega arith))

death_rises : (from : ℕ) (b : Book) (gone e : ℕ) → from ≤ 2 → RisesFrom from (death_items b gone e)
death_rises from b gone e least =
    either (RisesFrom from) (e == gone) [] (lost_with b gone e b.page_count) (none_rises from)
    (suc (suc b.page_count), rises_from from 2 (suc (suc b.page_count)) (lost_with b gone e b.page_count) least (losses_rise b gone e b.page_count))

-- ---- takings
copy_rises : (x : Taking) (w : World) (e : ℕ) (backup : Option ℕ) → Rises 0 2 (copy_left w x backup e)
copy_rises x w e None = omega arith
copy_rises x w e (Some backup) =
    either (Rises 0 2) (e == x.env) [] (left_if (sees w.book e backup) backup (page_store backup (page_bytes w x.page))) (omega arith) (by_sight (sees w.book e backup))
  where
    by_sight : (t : Bool) → Rises 0 2 (left_if t backup (page_store backup (page_bytes w x.page)))
    by_sight true = (omega arith, omega arith)
    by_sight false = omega arith

pub taking_rises : (x : Taking) (w : World) (e : ℕ) → RisesFrom 0 ((takes x w).items e)
taking_rises x w e =
    rises_at 0 x.env e (Taken x.page x.backup ∷ []) (λ i. copy_left w x x.backup i ++ lost_bindings w.book x.page i) (one_rises 0 (Taken x.page x.backup) (omega arith))
    (then_rises 0 2 (copy_left w x x.backup e) (lost_bindings w.book x.page e) (copy_rises x w e x.backup) (lost_rises 2 (is_bound x.page (w.book.binds e)) x.page (omega arith)))

-- ---- the turn
pub turn_rises : (w : World) (e : ℕ) → RisesFrom 0 ((turn w).items e)
turn_rises w e = by_runner w.book.runner
  where
    by_turn : (o : Option Turn) → RisesFrom 0 ((take_turn w (whole_turn w.book) o).items e)
    by_turn None = none_rises 0
    by_turn (Some t) = told_rises 0 t.env e Start (one_rises 0 Start (omega arith))

    by_runner : (o : Option Runner) → RisesFrom 0 ((turn_when w o).items e)
    by_runner None = by_turn (whole_turn w.book).runs
    by_runner (Some r) = none_rises 0

-- ---- the step
deed_rises : (w : World) (x : ℕ) (d : Deed) (e : ℕ) → RisesFrom 2 ((done w x d).items e)
deed_rises w x Answers e = none_rises 2
deed_rises w x Stops e = none_rises 2
deed_rises w x (Gives target) e = told_rises 2 target e Start (one_rises 2 Start (omega arith))
deed_rises w x (Own own) e = none_rises 2
deed_rises w x (Allocates page words) e = told_rises 2 x e (Gained page true zero_page) (one_rises 2 (Gained page true zero_page) (omega arith))
deed_rises w x (Frees page) e =
    rises_at 2 x e (Lost page ∷ []) (lost_bindings w.book page) (one_rises 2 (Lost page) (omega arith)) (lost_rises 2 (is_bound page (w.book.binds e)) page (omega arith))
deed_rises w x (Recaps page words) e = rises_at 2 x e [] (lost_bindings w.book page) (none_rises 2) (lost_rises 2 (is_bound page (w.book.binds e)) page (omega arith))
deed_rises w x (Binds b word) e = told_rises 2 x e (Gained b.page b.writable (page_bytes w b.page)) (one_rises 2 (Gained b.page b.writable (page_bytes w b.page)) (omega arith))
deed_rises w x (Unbinds vpn) e = none_rises 2
deed_rises w x (Transfers target kind) e =
    told_rises 2 target e (Transfer x kind (carried (w.solos x).cpu)) (one_rises 2 (Transfer x kind (carried (w.solos x).cpu)) (omega arith))
deed_rises w x (TakesSlot slot) e = none_rises 2
deed_rises w x (DropsSlot slot) e = none_rises 2
deed_rises w x (TakesLine line) e = none_rises 2
deed_rises w x (DropsLine line) e = none_rises 2
deed_rises w x (Claims claim address atoms page) e = none_rises 2
deed_rises w x (Unclaims claim) e = none_rises 2
deed_rises w x (Downloads claim address words) e = none_rises 2
deed_rises w x (Loads page) e = none_rises 2

reply_rises : (w : World) (x : ℕ) (v : Verdict) (e : ℕ) → RisesFrom 1 ((reply_by_verdict w x v).items e)
reply_rises w x (Refuse code value) e = told_rises 1 x e (Answer (Refuse code value)) (one_rises 1 (Answer (Refuse code value)) (omega arith))
reply_rises w x (Again who) e =
    then_rises 1 2 (only x (Answer (Again who) ∷ []) e) ((asks_one who w).items e) (rises_within 1 2 x e (Answer (Again who)) (omega arith) (omega arith))
    (either (λ (r : Reply). RisesFrom 2 (r.items e)) (is_none (w.book.pending who)) (revokes who 1 (w.book.time + 2 * w.book.quantum) w) (no_change w)
    (revokes_rises 2 who 1 (w.book.time + 2 * w.book.quantum) w e (omega arith)) (none_rises 2))
reply_rises w x (Grant value) e =
    let d = deed_at (w.solos x) value in
    then_rises 1 2 (only x (Answer (Grant value) ∷ []) e) ((done w x d).items e) (rises_within 1 2 x e (Answer (Grant value)) (omega arith) (omega arith)) (deed_rises w x d e)

act_rises : (x : ℕ) (act : Act) (w : World) (e : ℕ) → RisesFrom 1 ((act_reply x act w).items e)
act_rises x Nothing w e = none_rises 1
act_rises x (Stores store) w e = left_by_rises 1 w.book x e store store.key (omega arith)
act_rises x (Calls c) w e = reply_rises w x (verdict w x c) e
act_rises x (Raises exc) w e = none_rises 1
act_rises x (Dies cause) w e = death_rises 1 w.book x e (omega arith)

pub step_rises : (w : World) (e : ℕ) → RisesFrom 0 ((step w).items e)
step_rises w e = by_runner w.book.runner
  where
    by_runner : (o : Option Runner) → RisesFrom 0 ((step_when w o).items e)
    by_runner None = none_rises 0
    by_runner (Some r) =
        let v = after w (tells r.env Step w) in
        let items = (act_reply r.env (act_now w r.env) v).items e in
        then_rises 0 1 (only r.env (Step ∷ []) e) (items ++ []) (rises_within 0 1 r.env e Step (omega arith) (omega arith))
        (rises_nil 1 items (act_rises r.env (act_now w r.env) v e))

-- ---- the timer
kill_rises : (w : World) (x e : ℕ) → RisesFrom 0 ((kill x w).items e)
kill_rises w x e =
    let v = after w (tells x Killed w) in
    then_rises 0 1 (only x (Killed ∷ []) e) (death_items v.book x e ++ []) (rises_within 0 1 x e Killed (omega arith) (omega arith))
    (rises_nil 1 (death_items v.book x e) (death_rises 1 v.book x e (omega arith)))

answer_rises : (r : Runner) (a : Timer) (w : World) (e : ℕ) → RisesFrom 0 ((timer_reply r a w).items e)
answer_rises r answer.Nothing w e = none_rises 0
answer_rises r answer.End w e = told_rises 0 r.env e End (one_rises 0 End (omega arith))
answer_rises r answer.Stop w e = none_rises 0
answer_rises r (answer.Over excess) w e = none_rises 0
answer_rises r answer.Kill w e = let v = after w (owes_more r.env w) in rises_nil 0 ((kill r.env v).items e) (kill_rises v r.env e)

pub timer_rises : (w : World) (e : ℕ) → RisesFrom 0 ((timer w).items e)
timer_rises w e = rises_nil 0 ((count_when w.book.runner w).items e) (by_runner w.book.runner)
  where
    by_runner : (o : Option Runner) → RisesFrom 0 ((count_when o w).items e)
    by_runner None = none_rises 0
    by_runner (Some r) = answer_rises r (timer_now w r) w e

pub settling_rises : (w : World) (e : ℕ) → RisesFrom 0 ((settles w).items e)
settling_rises w e = none_rises 0

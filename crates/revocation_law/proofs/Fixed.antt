-- No phase changes the quantum, and none but the timer the time.
use Rattle.std.proofs.Common.{refl, ◌∙◌, ap, ◌≡◌, ◌+◌, ℕ, List, [], ◌∷◌, Option, None, Some}
use Rattle.std.specs.Prelude.{◌*◌, is_none}
use Rattle.std.proofs.lemmas.Bool.{cond_both}
use Rattle.external_event.specs.declared.event.Occurrence.{Occurrence}
use Rattle.external_event.specs.declared.event.Occurrence.TheVariants as outside
use Rattle.filter_tree.specs.ClaimBook.{ClaimValue}
use Rattle.revocation_book.specs.declared.revocation.Pending.{Pending}
use Rattle.revocation_book.specs.declared.revocation.Taking.{Taking}
use Rattle.revocation_book.specs.Pending.{asked}
use Rattle.world_model.specs.declared.call.Deed.{Deed}
use Rattle.world_model.specs.declared.call.Deed.TheVariants.{Answers, Own, Stops, Gives, Allocates, Frees, Recaps, Binds, Unbinds, Transfers, TakesSlot, DropsSlot, TakesLine, DropsLine, Claims, Unclaims, Downloads, Loads}
use Rattle.world_model.specs.declared.slot.Runner.{Runner}
use Rattle.world_model.specs.declared.slot.Turn.{Turn}
use Rattle.world_model.specs.declared.timer.Timer.{Timer}
use Rattle.world_model.specs.declared.timer.Timer.TheVariants as answer
use Rattle.world_model.specs.declared.verdict.Verdict.{Verdict}
use Rattle.world_model.specs.declared.verdict.Verdict.TheVariants.{Refuse, Again, Grant}
use Rattle.world_model.specs.Book.{Book, whole_turn}
use Rattle.world_model.specs.ClaimCalls.{claim_of}
use Rattle.world_model.specs.Deadlines.{settles, takes}
use Rattle.world_model.specs.Event.{arrives, asks, happen, revokes, signals}
use Rattle.world_model.specs.Item.{deed_at}
use Rattle.world_model.specs.Step.{Act, Nothing, Stores, Calls, Raises, Dies}
use Rattle.world_model.specs.Tick.{act_now, act_reply, count_when, phases_after, step, step_when, timer_now, timer_reply, turn, turn_when, take_turn}
use Rattle.world_model.specs.Verdict.{asks_one, done, reply_by_verdict, verdict}
use Rattle.world_model.specs.World.{World, Reply, after, is_living, no_change, run_phases}

-- the time and the quantum
abbrev pub Pace : Type 0
Pace = ℕ × ℕ

abbrev pub pace : Book → Pace
pace b = (b.time, b.quantum)

asks_pace : (e : ℕ) (p : Option Pending) (w : World) → pace (asks e p w).book ≡ pace w.book
asks_pace e None w = refl
asks_pace e (Some p) w = refl

revokes_pace : (e count deadline : ℕ) (w : World) → pace (revokes e count deadline w).book ≡ pace w.book
revokes_pace e count deadline w =
    cond_both (is_living w e) (asks e (asked count deadline (w.book.pending e)) w) (no_change w) (λ (r : Reply). pace r.book ≡ pace w.book)
    (λ lives. asks_pace e (asked count deadline (w.book.pending e)) w) (λ not. refl)

arrives_pace : (packet : List ℕ) (c : Option ClaimValue) (w : World) → pace (arrives packet c w).book ≡ pace w.book
arrives_pace packet None w = refl
arrives_pace packet (Some c) w = refl

signals_pace : (line : ℕ) (owner : Option ℕ) (w : World) → pace (signals line owner w).book ≡ pace w.book
signals_pace line None w = refl
signals_pace line (Some owner) w = refl

pub happen_pace : (what : Occurrence) (w : World) → pace (happen what w).book ≡ pace w.book
happen_pace (outside.Packet packet) w = arrives_pace packet (claim_of w.book packet) w
happen_pace (outside.Line line) w = signals_pace line (w.book.lines line) w
happen_pace (outside.Revoke env count grace) w = revokes_pace env count (w.book.time + grace) w

taken_pace : (w : World) (o : Option Turn) → pace (take_turn w (whole_turn w.book) o).book ≡ pace w.book
taken_pace w None = refl
taken_pace w (Some t) = refl

turn_when_pace : (w : World) (o : Option Runner) → pace (turn_when w o).book ≡ pace w.book
turn_when_pace w None = taken_pace w (whole_turn w.book).runs
turn_when_pace w (Some r) = refl

pub turn_pace : (w : World) → pace (turn w).book ≡ pace w.book
turn_pace w = turn_when_pace w w.book.runner

done_pace : (w : World) (e : ℕ) (d : Deed) → pace (done w e d).book ≡ pace w.book
done_pace w e Answers = refl
done_pace w e (Own own) = refl
done_pace w e Stops = refl
done_pace w e (Gives target) = refl
done_pace w e (Allocates page words) = refl
done_pace w e (Frees page) = refl
done_pace w e (Recaps page words) = refl
done_pace w e (Binds binding word) = refl
done_pace w e (Unbinds vpn) = refl
done_pace w e (Transfers target kind) = refl
done_pace w e (TakesSlot slot) = refl
done_pace w e (DropsSlot slot) = refl
done_pace w e (TakesLine line) = refl
done_pace w e (DropsLine line) = refl
done_pace w e (Claims claim address atoms page) = refl
done_pace w e (Unclaims claim) = refl
done_pace w e (Downloads claim address words) = refl
done_pace w e (Loads page) = refl

asks_one_pace : (who : ℕ) (w : World) → pace (asks_one who w).book ≡ pace w.book
asks_one_pace who w =
    let until = w.book.time + 2 * w.book.quantum in
    cond_both (is_none (w.book.pending who)) (revokes who 1 until w) (no_change w) (λ (r : Reply). pace r.book ≡ pace w.book) (λ nothing. revokes_pace who 1 until w) (λ pending. refl)

reply_pace : (w : World) (e : ℕ) (v : Verdict) → pace (reply_by_verdict w e v).book ≡ pace w.book
reply_pace w e (Refuse code value) = refl
reply_pace w e (Again who) = asks_one_pace who w
reply_pace w e (Grant value) = done_pace w e (deed_at (w.solos e) value)

act_pace : (w : World) (e : ℕ) (act : Act) → pace (act_reply e act w).book ≡ pace w.book
act_pace w e Nothing = refl
act_pace w e (Stores x) = refl
act_pace w e (Calls call) = reply_pace w e (verdict w e call)
act_pace w e (Raises exc) = refl
act_pace w e (Dies cause) = refl

step_when_pace : (w : World) (o : Option Runner) → pace (step_when w o).book ≡ pace w.book
step_when_pace w None = refl
step_when_pace w (Some r) = act_pace _ r.env (act_now w r.env)

pub step_pace : (w : World) → pace (step w).book ≡ pace w.book
step_pace w = step_when_pace w w.book.runner

answer_pace : (w : World) (r : Runner) (what : Timer) → pace (timer_reply r what w).book ≡ pace w.book
answer_pace w r answer.Nothing = refl
answer_pace w r answer.End = refl
answer_pace w r answer.Stop = refl
answer_pace w r (answer.Over excess) = refl
answer_pace w r answer.Kill = refl

count_pace : (w : World) (o : Option Runner) → pace (count_when o w).book ≡ pace w.book
count_pace w None = refl
count_pace w (Some r) = answer_pace w r (timer_now w r)

-- a tick later
abbrev pub later : Pace → Pace
later p = (p.0 + 1, p.1)

pub tick_pace : (happens : List Occurrence) (xs : List Taking) (w : World) → pace (run_phases w (phases_after happens xs)).book ≡ later (pace w.book)
tick_pace [] [] w =
    let s = after w (settles w) in
    let t = after s (turn s) in
    let u = after t (step t) in
    ap later (count_pace u u.book.runner ∙ step_pace t ∙ turn_pace s)
tick_pace [] (x ∷ xs) w = tick_pace [] xs (after w (takes x w))
tick_pace (what ∷ happens) xs w = tick_pace happens xs (after w (happen what w)) ∙ ap later (happen_pace what w)

-- Time is the number of ticks that were made.
use Rattle.std.proofs.Common.{append_assoc, arith, refl, sym, ◌∙◌, ap, ◌≡◌, ◌+◌, ◌⊎◌, inl, inr, ℕ, zero, suc, List, [], ◌∷◌, ◌++◌, map, true, false, Option, None, Some}
use Rattle.std.specs.Prelude.{◌*◌, is_none}
use Rattle.std.proofs.lemmas.Bool.{cond_both}
use Rattle.external_event.specs.declared.event.Occurrence.{Occurrence}
use Rattle.external_event.specs.declared.event.Occurrence.TheVariants as outside
use Rattle.filter_tree.specs.ClaimBook.{ClaimValue}
use Rattle.revocation_book.specs.declared.revocation.Pending.{Pending}
use Rattle.revocation_book.specs.declared.revocation.Taking.{Taking}
use Rattle.revocation_book.specs.Pending.{asked}
use Rattle.world_model.specs.declared.call.Deed.{Deed}
use Rattle.world_model.specs.declared.call.Deed.TheVariants.{Answers, Own, Stops, Gives, Allocates, Frees, Recaps, Binds, Unbinds, Transfers, TakesSlot, DropsSlot, TakesLine, DropsLine, Claims, Unclaims, Downloads, Loads}
use Rattle.world_model.specs.declared.slot.Runner.{Runner}
use Rattle.world_model.specs.declared.slot.Turn.{Turn}
use Rattle.world_model.specs.declared.timer.Timer.{Timer}
use Rattle.world_model.specs.declared.timer.Timer.TheVariants as answer
use Rattle.world_model.specs.declared.verdict.Verdict.{Verdict}
use Rattle.world_model.specs.declared.verdict.Verdict.TheVariants.{Refuse, Again, Grant}
use Rattle.world_model.specs.Book.{is_idle_book, whole_turn}
use Rattle.world_model.specs.ClaimCalls.{claim_of}
use Rattle.world_model.specs.Deadlines.{settles, takes}
use Rattle.world_model.specs.Event.{Schedule, arrives, asks, happen, revokes, signals}
use Rattle.world_model.specs.Item.{deed_at}
use Rattle.world_model.specs.Step.{Act, Nothing, Stores, Calls, Raises, Dies}
use Rattle.world_model.specs.Tick.{act_now, act_reply, count_when, phases_after, serve_phases, step, step_when, timer, timer_now, timer_reply, turn, turn_when, take_turn}
use Rattle.world_model.specs.Verdict.{asks_one, done, reply_by_verdict, verdict}
use Rattle.world_model.specs.World.{World, Reply, after, is_living, no_change, run_phases}
use Rattle.run_model.specs.Run.{TimeIsTick, happens_in, next_phases, takings_next, world_after_ticks}
use Rattle.run_model.proofs.Phases.{run_append}

-- ---- no phase but the timer changes the time

asks_time : (e : ℕ) (p : Option Pending) (w : World) → (asks e p w).book.time ≡ w.book.time
asks_time e None w = refl
asks_time e (Some p) w = refl

revokes_time : (e count deadline : ℕ) (w : World) → (revokes e count deadline w).book.time ≡ w.book.time
revokes_time e count deadline w =
    cond_both (is_living w e) (asks e (asked count deadline (w.book.pending e)) w) (no_change w) (λ (r : Reply). r.book.time ≡ w.book.time)
    (λ lives. asks_time e (asked count deadline (w.book.pending e)) w) (λ not. refl)

arrives_time : (packet : List ℕ) (c : Option ClaimValue) (w : World) → (arrives packet c w).book.time ≡ w.book.time
arrives_time packet None w = refl
arrives_time packet (Some c) w = refl

signals_time : (line : ℕ) (owner : Option ℕ) (w : World) → (signals line owner w).book.time ≡ w.book.time
signals_time line None w = refl
signals_time line (Some owner) w = refl

happen_time : (what : Occurrence) (w : World) → (happen what w).book.time ≡ w.book.time
happen_time (outside.Packet packet) w = arrives_time packet (claim_of w.book packet) w
happen_time (outside.Line line) w = signals_time line (w.book.lines line) w
happen_time (outside.Revoke env count grace) w = revokes_time env count (w.book.time + grace) w

serve_time : (xs : List Taking) (w : World) → (run_phases w (serve_phases xs)).book.time ≡ w.book.time
serve_time [] w = refl
serve_time (x ∷ xs) w = serve_time xs _

early_time : (happens : List Occurrence) (xs : List Taking) (w : World) → (run_phases w (map happen happens ++ serve_phases xs)).book.time ≡ w.book.time
early_time [] xs w = serve_time xs w
early_time (what ∷ happens) xs w = early_time happens xs (after w (happen what w)) ∙ happen_time what w

taken_time : (w : World) (o : Option Turn) → (take_turn w (whole_turn w.book) o).book.time ≡ w.book.time
taken_time w None = refl
taken_time w (Some t) = refl

turn_time : (w : World) (o : Option Runner) → (turn_when w o).book.time ≡ w.book.time
turn_time w None = taken_time w (whole_turn w.book).runs
turn_time w (Some r) = refl

done_time : (w : World) (e : ℕ) (d : Deed) → (done w e d).book.time ≡ w.book.time
done_time w e Answers = refl
done_time w e (Own own) = refl
done_time w e Stops = refl
done_time w e (Gives target) = refl
done_time w e (Allocates page words) = refl
done_time w e (Frees page) = refl
done_time w e (Recaps page words) = refl
done_time w e (Binds binding word) = refl
done_time w e (Unbinds vpn) = refl
done_time w e (Transfers target kind) = refl
done_time w e (TakesSlot slot) = refl
done_time w e (DropsSlot slot) = refl
done_time w e (TakesLine line) = refl
done_time w e (DropsLine line) = refl
done_time w e (Claims claim address atoms page) = refl
done_time w e (Unclaims claim) = refl
done_time w e (Downloads claim address words) = refl
done_time w e (Loads page) = refl

asks_one_time : (who : ℕ) (w : World) → (asks_one who w).book.time ≡ w.book.time
asks_one_time who w =
    let until = w.book.time + 2 * w.book.quantum in
    cond_both (is_none (w.book.pending who)) (revokes who 1 until w) (no_change w) (λ (r : Reply). r.book.time ≡ w.book.time) (λ nothing. revokes_time who 1 until w) (λ pending. refl)

reply_time : (w : World) (e : ℕ) (v : Verdict) → (reply_by_verdict w e v).book.time ≡ w.book.time
reply_time w e (Refuse code value) = refl
reply_time w e (Again who) = asks_one_time who w
reply_time w e (Grant value) = done_time w e (deed_at (w.solos e) value)

act_time : (w : World) (e : ℕ) (act : Act) → (act_reply e act w).book.time ≡ w.book.time
act_time w e Nothing = refl
act_time w e (Stores x) = refl
act_time w e (Calls call) = reply_time w e (verdict w e call)
act_time w e (Raises exc) = refl
act_time w e (Dies cause) = refl

step_time : (w : World) (o : Option Runner) → (step_when w o).book.time ≡ w.book.time
step_time w None = refl
step_time w (Some r) = act_time _ r.env (act_now w r.env)

answer_time : (w : World) (r : Runner) (what : Timer) → (timer_reply r what w).book.time ≡ w.book.time
answer_time w r answer.Nothing = refl
answer_time w r answer.End = refl
answer_time w r answer.Stop = refl
answer_time w r (answer.Over excess) = refl
answer_time w r answer.Kill = refl

count_time : (w : World) (o : Option Runner) → (count_when o w).book.time ≡ w.book.time
count_time w None = refl
count_time w (Some r) = answer_time w r (timer_now w r)

-- ---- a tick takes one tick

abbrev behind : List (World → Reply)
behind = turn ∷ step ∷ timer ∷ []

phases_in_two : (happens : List Occurrence) (xs : List Taking) → phases_after happens xs ≡ (map happen happens ++ serve_phases xs) ++ behind
phases_in_two happens xs =
    ap (λ (ys : List (World → Reply)). map happen happens ++ ys) (sym (append_assoc (map takes xs) (settles ∷ []) behind))
    ∙ sym (append_assoc (map happen happens) (serve_phases xs) behind)

tick_time : (w : World) (happens : List Occurrence) (xs : List Taking) → (run_phases w (phases_after happens xs)).book.time ≡ w.book.time + 1
tick_time w happens xs =
    let early = map happen happens ++ serve_phases xs in
    let v = run_phases w early in
    let t = after v (turn v) in
    let u = after t (step t) in
    ap (λ (x : World). x.book.time) (ap (run_phases w) (phases_in_two happens xs) ∙ run_append w early behind)
    ∙ ap (λ (n : ℕ). n + 1) (count_time u u.book.runner ∙ step_time t t.book.runner ∙ turn_time v v.book.runner ∙ early_time happens xs w)

-- a busy world has made a tick each time
module _ (schedule : Schedule) (w : World) (start : w.book.time ≡ 0) where
  busy_time : (t : ℕ) → ((world_after_ticks schedule w t).book.time ≡ t) ⊎ (is_idle_book (world_after_ticks schedule w t).book ≡ true)
  busy_time zero = inl start
  busy_time (suc t) =
      let v = world_after_ticks schedule w t in
      cond_both (is_idle_book v.book) v (run_phases v (next_phases schedule v)) (λ (u : World). (u.book.time ≡ suc t) ⊎ (is_idle_book u.book ≡ true))
      (λ idle. inr idle) (λ busy. by_time busy (busy_time t))
    where
      by_time : is_idle_book (world_after_ticks schedule w t).book ≡ false → ((world_after_ticks schedule w t).book.time ≡ t) ⊎ (is_idle_book (world_after_ticks schedule w t).book ≡ true)
          → (let v = world_after_ticks schedule w t in let u = run_phases v (next_phases schedule v) in (u.book.time ≡ suc t) ⊎ (is_idle_book u.book ≡ true))
      by_time busy (inl is) =
          let v = world_after_ticks schedule w t in
          let next = tick_time v (happens_in schedule v) (takings_next schedule v) in inl (omega arith)
      by_time busy (inr idle) = let never : true ≡ false = sym idle ∙ busy in cc

pub time_is_tick : TimeIsTick
time_is_tick schedule w t start busy = by_side (busy_time schedule w start t)
  where
    by_side : ((world_after_ticks schedule w t).book.time ≡ t) ⊎ (is_idle_book (world_after_ticks schedule w t).book ≡ true) → (world_after_ticks schedule w t).book.time ≡ t
    by_side (inl is) = is
    by_side (inr idle) = let never : true ≡ false = sym idle ∙ busy in cc

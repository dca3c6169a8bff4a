-- A runner has a tick left, at each moment of a run whose quantum has one.
use Rattle.std.proofs.Common.{◌≡◌, ◌≢◌, ◌≤◌, ◌<◌, ◌+◌, ℕ, List, [], ◌∷◌, Bool, true, false, Option, Some, None, is_none, refl, subst, arith}
use Rattle.std.specs.Prelude.{◌*◌, ◌==◌, nat_lt, if◌then◌else◌}
use Rattle.std.proofs.lemmas.Bool.{eqb-false}
use Rattle.aegis_limits.specs.Limits.{excess_limit}
use Rattle.boot_image.specs.ImageValue.{ImageValue, ProgramValue}
use Rattle.external_event.specs.declared.event.Occurrence.{Occurrence}
use Rattle.external_event.specs.declared.event.Occurrence.TheVariants as outside
use Rattle.filter_tree.specs.ClaimBook.{ClaimValue}
use Rattle.revocation_book.specs.declared.revocation.Pending.{Pending}
use Rattle.revocation_book.specs.declared.revocation.Taking.{Taking}
use Rattle.revocation_book.specs.Pending.{asked}
use Rattle.world_model.specs.declared.call.Deed.{Deed}
use Rattle.world_model.specs.declared.call.Deed.TheVariants.{Answers, Own, Stops, Gives, Allocates, Frees, Recaps, Binds, Unbinds, Transfers, TakesSlot, DropsSlot, TakesLine, DropsLine, Claims, Unclaims, Downloads, Loads}
use Rattle.world_model.specs.declared.slot.Phase.{Phase}
use Rattle.world_model.specs.declared.slot.Phase.TheVariants as phase
use Rattle.world_model.specs.declared.slot.Runner.{Runner}
use Rattle.world_model.specs.declared.slot.Turn.{Turn}
use Rattle.world_model.specs.declared.timer.Timer.{Timer}
use Rattle.world_model.specs.declared.timer.Timer.TheVariants as answer
use Rattle.world_model.specs.declared.verdict.Verdict.{Verdict}
use Rattle.world_model.specs.declared.verdict.Verdict.TheVariants.{Refuse, Again, Grant}
use Rattle.world_model.specs.Book.{Book, whole_turn}
use Rattle.world_model.specs.ClaimCalls.{claim_of}
use Rattle.world_model.specs.Deadlines.{settles, takes}
use Rattle.world_model.specs.Event.{arrives, asks, happen, revokes, signals}
use Rattle.world_model.specs.Item.{Step, deed_at}
use Rattle.world_model.specs.SlotCalls.{handed}
use Rattle.world_model.specs.Step.{Act, Nothing, Stores, Calls, Raises, Dies}
use Rattle.world_model.specs.Tick.{act_now, act_reply, count_when, handles_end, step, step_when, take_turn, timer, timer_reply, turn, turn_when}
use Rattle.world_model.specs.Timer.{timer_at_end}
use Rattle.world_model.specs.Verdict.{done, reply_by_verdict, verdict}
use Rattle.world_model.specs.World.{World, Reply, after, is_living, no_change, tells}
use Rattle.run_model.specs.Boot.{book_of_image, boot_world, with_all_kept, with_kept}
use Rattle.run_model.specs.Run.{System, moment}
use Rattle.giving_law.proofs.Moments.{each_moment}
use Rattle.giving_law.proofs.Rising.{either}

-- a runner, if one runs, has a tick left
abbrev pub HasTicks : Option Runner → Type 0
HasTicks None = Unit {0}
HasTicks (Some r) = 1 ≤ r.left

-- a quantum has a tick, and a runner too
pub record Ticks (b : Book) : Type 0 where
  pub quantum : 0 < b.quantum
  pub runner : HasTicks b.runner

abbrev Keeps : (World → Reply) → Type 0
Keeps phase = (w : World) → Ticks w.book → Ticks (phase w).book

-- what happens from outside
asks_keeps : (e : ℕ) (p : Option Pending) (w : World) → Ticks w.book → Ticks (asks e p w).book
asks_keeps e None w ticks = ticks
asks_keeps e (Some p) w ticks = record { quantum = ticks.quantum; runner = ticks.runner }

revokes_keeps : (e count deadline : ℕ) (w : World) → Ticks w.book → Ticks (revokes e count deadline w).book
revokes_keeps e count deadline w ticks =
    either (λ (r : Reply). Ticks r.book) (is_living w e) (asks e (asked count deadline (w.book.pending e)) w) (no_change w)
    (asks_keeps e (asked count deadline (w.book.pending e)) w ticks) ticks

arrives_keeps : (packet : List ℕ) (c : Option ClaimValue) (w : World) → Ticks w.book → Ticks (arrives packet c w).book
arrives_keeps packet None w ticks = ticks
arrives_keeps packet (Some c) w ticks = ticks

signals_keeps : (line : ℕ) (owner : Option ℕ) (w : World) → Ticks w.book → Ticks (signals line owner w).book
signals_keeps line None w ticks = ticks
signals_keeps line (Some owner) w ticks = ticks

happen_keeps : (what : Occurrence) → Keeps (happen what)
happen_keeps (outside.Packet packet) w ticks = arrives_keeps packet (claim_of w.book packet) w ticks
happen_keeps (outside.Line line) w ticks = signals_keeps line (w.book.lines line) w ticks
happen_keeps (outside.Revoke env count grace) w ticks = revokes_keeps env count (w.book.time + grace) w ticks

takes_keeps : (x : Taking) → Keeps (takes x)
takes_keeps x w ticks = record { quantum = ticks.quantum; runner = ticks.runner }

settles_keeps : Keeps settles
settles_keeps w ticks = record { quantum = ticks.quantum; runner = ticks.runner }

-- the turn
taken_keeps : (w : World) (o : Option Turn) → Ticks w.book → Ticks (take_turn w (whole_turn w.book) o).book
taken_keeps w None ticks = ticks
taken_keeps w (Some t) ticks = record { quantum = ticks.quantum; runner = ticks.quantum }

turn_keeps : Keeps turn
turn_keeps w ticks = by_runner w.book.runner
  where
    by_runner : (o : Option Runner) → Ticks (turn_when w o).book
    by_runner None = taken_keeps w (whole_turn w.book).runs ticks
    by_runner (Some r) = ticks

-- the step
handed_ticks : (target : ℕ) (o : Option Runner) → HasTicks o → HasTicks (handed target o)
handed_ticks target None ticks = tt
handed_ticks target (Some r) ticks = ticks

done_keeps : (w : World) (e : ℕ) (d : Deed) → Ticks w.book → Ticks (done w e d).book
done_keeps w e Stops ticks = record { quantum = ticks.quantum; runner = tt }
done_keeps w e (Gives target) ticks = record { quantum = ticks.quantum; runner = handed_ticks target w.book.runner ticks.runner }
done_keeps w e (Transfers target kind) ticks = record { quantum = ticks.quantum; runner = handed_ticks target w.book.runner ticks.runner }
done_keeps w e Answers ticks = ticks
done_keeps w e (Own own) ticks = ticks
done_keeps w e (Allocates page words) ticks = record { quantum = ticks.quantum; runner = ticks.runner }
done_keeps w e (Frees page) ticks = record { quantum = ticks.quantum; runner = ticks.runner }
done_keeps w e (Recaps page words) ticks = record { quantum = ticks.quantum; runner = ticks.runner }
done_keeps w e (Binds binding word) ticks = record { quantum = ticks.quantum; runner = ticks.runner }
done_keeps w e (Unbinds vpn) ticks = record { quantum = ticks.quantum; runner = ticks.runner }
done_keeps w e (TakesSlot slot) ticks = record { quantum = ticks.quantum; runner = ticks.runner }
done_keeps w e (DropsSlot slot) ticks = record { quantum = ticks.quantum; runner = ticks.runner }
done_keeps w e (TakesLine line) ticks = record { quantum = ticks.quantum; runner = ticks.runner }
done_keeps w e (DropsLine line) ticks = record { quantum = ticks.quantum; runner = ticks.runner }
done_keeps w e (Claims claim address atoms page) ticks = record { quantum = ticks.quantum; runner = ticks.runner }
done_keeps w e (Unclaims claim) ticks = record { quantum = ticks.quantum; runner = ticks.runner }
done_keeps w e (Downloads claim address words) ticks = ticks
done_keeps w e (Loads page) ticks = record { quantum = ticks.quantum; runner = ticks.runner }

reply_keeps : (w : World) (e : ℕ) (v : Verdict) → Ticks w.book → Ticks (reply_by_verdict w e v).book
reply_keeps w e (Refuse code value) ticks = ticks
reply_keeps w e (Again who) ticks =
    either (λ (r : Reply). Ticks r.book) (is_none (w.book.pending who)) (revokes who 1 (w.book.time + 2 * w.book.quantum) w) (no_change w)
    (revokes_keeps who 1 (w.book.time + 2 * w.book.quantum) w ticks) ticks
reply_keeps w e (Grant value) ticks = done_keeps w e (deed_at (w.solos e) value) ticks

act_keeps : (e : ℕ) (act : Act) (w : World) → Ticks w.book → Ticks (act_reply e act w).book
act_keeps e Nothing w ticks = ticks
act_keeps e (Stores x) w ticks = ticks
act_keeps e (Calls c) w ticks = reply_keeps w e (verdict w e c) ticks
act_keeps e (Raises exc) w ticks = ticks
act_keeps e (Dies cause) w ticks = record { quantum = ticks.quantum; runner = tt }

step_keeps : Keeps step
step_keeps w ticks = by_runner w.book.runner
  where
    by_runner : (o : Option Runner) → Ticks (step_when w o).book
    by_runner None = ticks
    by_runner (Some r) = act_keeps r.env (act_now w r.env) (after w (tells r.env Step w)) ticks

-- the timer
count_keeps : (w : World) (r : Runner) → Ticks w.book → w.book.runner ≡ Some r → Ticks (count_when (Some r) w).book
count_keeps w r ticks runs = by_left (r.left == 1) refl
  where
    by_end : (a : Timer) → a ≢ answer.Nothing → Ticks (timer_reply r a w).book
    by_end answer.Nothing some = absurd (some refl)
    by_end answer.End some = record { quantum = ticks.quantum; runner = ticks.quantum }
    by_end answer.Stop some = record { quantum = ticks.quantum; runner = tt }
    by_end (answer.Over excess) some = record { quantum = ticks.quantum; runner = ticks.quantum }
    by_end answer.Kill some = record { quantum = ticks.quantum; runner = tt }

    at_end : (p : Phase) (has_end : Bool) (excess : ℕ) → timer_at_end p has_end excess ≢ answer.Nothing
    at_end phase.Own true excess is = cc
    at_end phase.Own false excess is = cc
    at_end phase.Grace has_end excess is = either (λ (a : Timer). a ≡ answer.Nothing → ⊥) (nat_lt excess_limit (excess + 1)) answer.Kill (answer.Over (excess + 1)) (λ so. cc) (λ so. cc) is

    by_left : (last : Bool) → (r.left == 1) ≡ last → Ticks (timer_reply r (if last then timer_at_end r.phase (handles_end w r.env) (w.book.excess r.env) else answer.Nothing) w).book
    by_left true one = by_end (timer_at_end r.phase (handles_end w r.env) (w.book.excess r.env)) (at_end r.phase (handles_end w r.env) (w.book.excess r.env))
    by_left false more =
        let some : 1 ≤ r.left = subst HasTicks runs ticks.runner in
        let ne = eqb-false r.left 1 more in
        record { quantum = ticks.quantum; runner = omega (arith, some, ne) }

timer_keeps : Keeps timer
timer_keeps w ticks = by_runner w.book.runner refl
  where
    clocked : (b : Book) → Ticks b → Ticks (record b { time = b.time + 1 })
    clocked b its = record { quantum = its.quantum; runner = its.runner }

    by_runner : (o : Option Runner) → w.book.runner ≡ o → Ticks (let v = after w (count_when o w) in record v.book { time = v.book.time + 1 })
    by_runner None runs = clocked w.book ticks
    by_runner (Some r) runs = clocked (count_when (Some r) w).book (count_keeps w r ticks runs)

-- at boot nobody runs
boot_ticks : (image : ImageValue) → 0 < image.quantum → Ticks (boot_world image).book
boot_ticks image some = all image.programs 0 (book_of_image image) (record { quantum = some; runner = tt })
  where
    all : (programs : List ProgramValue) (e : ℕ) (b : Book) → Ticks b → Ticks (with_all_kept e programs b)
    all [] e b ticks = ticks
    all (p ∷ programs) e b ticks = all programs (e + 1) (with_kept e p b) (record { quantum = ticks.quantum; runner = ticks.runner })

-- So it is at each moment.
pub moment_ticks : (system : System) → 0 < system.image.quantum → (t k : ℕ) → Ticks (moment system t k).book
moment_ticks system some t k =
    each_moment (λ w. Ticks w.book) happen_keeps takes_keeps settles_keeps turn_keeps step_keeps timer_keeps system (boot_ticks system.image some) t k

-- What a phase of a tick adds to the ledger isn't earlier than the tick. No phase but the clock changes the time, and none
-- how many slots there are.
use Rattle.std.proofs.Common.{arith, refl, ap, ◌≡◌, ◌+◌, ℕ, List, [], ◌∷◌, ◌++◌, Option, None, Some}
use Rattle.kernel_journal.specs.declared.row.Row.{Row}
use Rattle.kernel_journal.specs.declared.row.Row.TheVariants as row
use Rattle.env_frames.specs.declared.transfer.TransferKind.TheVariants as kind
use Rattle.world_model.specs.declared.call.Deed.{Deed}
use Rattle.world_model.specs.declared.call.Deed.TheVariants.{Answers, Own, Stops, Gives, Allocates, Frees, Recaps, Binds, Unbinds, Transfers, TakesSlot, DropsSlot, TakesLine, DropsLine, Claims, Unclaims, Downloads, Loads}
use Rattle.world_model.specs.declared.hold.Hold.{Hold}
use Rattle.world_model.specs.declared.slot.Runner.{Runner}
use Rattle.world_model.specs.declared.timer.Timer.{Timer}
use Rattle.world_model.specs.declared.timer.Timer.TheVariants as answer
use Rattle.world_model.specs.declared.verdict.Verdict.{Verdict}
use Rattle.world_model.specs.declared.verdict.Verdict.TheVariants.{Refuse, Again, Grant}
use Rattle.world_model.specs.Book.{own_hold}
use Rattle.world_model.specs.Item.{Step, deed_at}
use Rattle.world_model.specs.SlotCalls.{dropped, slot_row}
use Rattle.world_model.specs.Step.{Act, Nothing, Stores, Calls, Raises, Dies}
use Rattle.world_model.specs.Tick.{act_now, act_reply, count_when, step, step_when, timer, timer_now, timer_reply}
use Rattle.world_model.specs.Verdict.{asks_one, done, reply_by_verdict, verdict}
use Rattle.world_model.specs.World.{World, Reply, after, tells}
use Rattle.ledger_law.proofs.Told.{Core, From}
use Rattle.ledger_law.proofs.Events.{asking_early}
use Rattle.ledger_law.proofs.Mute.{IsMute}

pub from_both : (t : ℕ) (xs ys : List Row) → From t xs → From t ys → From t (xs ++ ys)
from_both t [] ys first second = second
from_both t (r ∷ xs) ys first second = first

pub record Ages (w : World) (r : Reply) : Type 0 where
  pub time : r.book.time ≡ w.book.time
  pub count : r.book.slot_count ≡ w.book.slot_count
  pub from : From w.book.time r.rows

slot_from : (t k : ℕ) (hold : Option Hold) → From t (slot_row t k hold ∷ [])
slot_from t k None = omega arith
slot_from t k (Some hold) = omega arith

mute_from : (t : ℕ) (rows : List Row) → IsMute t rows → From t rows
mute_from t [] mute = tt
mute_from t (row.Asked u e outstanding deadline ∷ []) mute = omega arith
mute_from t (row.Take u e page backup ∷ []) mute = omega arith
mute_from t (row.Unclaimed u size ∷ []) mute = omega arith
mute_from t rows mute = absurd mute

done_ages : (w : World) (e : ℕ) (d : Deed) → Ages w (done w e d)
done_ages w e Answers = record { time = refl; count = refl; from = tt }
done_ages w e (Own own) = record { time = refl; count = refl; from = tt }
done_ages w e Stops = record { time = refl; count = refl; from = omega arith }
done_ages w e (Gives target) = record { time = refl; count = refl; from = omega arith }
done_ages w e (Allocates page words) = record { time = refl; count = refl; from = tt }
done_ages w e (Frees page) = record { time = refl; count = refl; from = tt }
done_ages w e (Recaps page words) = record { time = refl; count = refl; from = tt }
done_ages w e (Binds binding word) = record { time = refl; count = refl; from = tt }
done_ages w e (Unbinds vpn) = record { time = refl; count = refl; from = tt }
done_ages w e (Transfers target kind.Asynchronous) = record { time = refl; count = refl; from = omega arith }
done_ages w e (Transfers target kind.Synchronous) = record { time = refl; count = refl; from = omega arith }
done_ages w e (TakesSlot k) = record { time = refl; count = refl; from = slot_from w.book.time k (Some (own_hold e)) }
done_ages w e (DropsSlot k) = record { time = refl; count = refl; from = slot_from w.book.time k (dropped e (w.book.slots k)) }
done_ages w e (TakesLine line) = record { time = refl; count = refl; from = tt }
done_ages w e (DropsLine line) = record { time = refl; count = refl; from = tt }
done_ages w e (Claims claim address atoms page) = record { time = refl; count = refl; from = tt }
done_ages w e (Unclaims claim) = record { time = refl; count = refl; from = tt }
done_ages w e (Downloads claim address words) = record { time = refl; count = refl; from = tt }
done_ages w e (Loads page) = record { time = refl; count = refl; from = tt }

verdict_ages : (w : World) (e : ℕ) (v : Verdict) → Ages w (reply_by_verdict w e v)
verdict_ages w e (Refuse code value) = record { time = refl; count = refl; from = tt }
verdict_ages w e (Again who) = let early = asking_early who w in record { time = ap (λ (c : Core). c.time) early.same; count = ap (λ (c : Core). c.count) early.same; from = mute_from w.book.time (asks_one who w).rows early.mute }
verdict_ages w e (Grant value) = let ages = done_ages w e (deed_at (w.solos e) value) in record { time = ages.time; count = ages.count; from = ages.from }

act_ages : (w : World) (e : ℕ) (act : Act) → Ages w (act_reply e act w)
act_ages w e Nothing = record { time = refl; count = refl; from = tt }
act_ages w e (Stores x) = record { time = refl; count = refl; from = tt }
act_ages w e (Calls call) = verdict_ages w e (verdict w e call)
act_ages w e (Raises exc) = record { time = refl; count = refl; from = tt }
act_ages w e (Dies cause) = record { time = refl; count = refl; from = omega arith }

step_by : (w : World) (o : Option Runner) → Ages w (step_when w o)
step_by w None = record { time = refl; count = refl; from = tt }
step_by w (Some r) =
    let v = after w (tells r.env Step w) in
    let ages = act_ages v r.env (act_now w r.env) in
    record { time = ages.time; count = ages.count; from = from_both w.book.time (act_reply r.env (act_now w r.env) v).rows [] ages.from tt }

pub step_ages : (w : World) → Ages w (step w)
step_ages w = step_by w w.book.runner

answer_ages : (w : World) (r : Runner) (what : Timer) → Ages w (timer_reply r what w)
answer_ages w r answer.Nothing = record { time = refl; count = refl; from = tt }
answer_ages w r answer.End = record { time = refl; count = refl; from = omega arith }
answer_ages w r answer.Stop = record { time = refl; count = refl; from = omega arith }
answer_ages w r (answer.Over excess) = record { time = refl; count = refl; from = omega arith }
answer_ages w r answer.Kill = record { time = refl; count = refl; from = omega arith }

count_ages : (w : World) (o : Option Runner) → Ages w (count_when o w)
count_ages w None = record { time = refl; count = refl; from = tt }
count_ages w (Some r) = answer_ages w r (timer_now w r)

pub timer_from : (w : World) → From w.book.time (timer w).rows
timer_from w = from_both w.book.time (count_when w.book.runner w).rows [] (count_ages w w.book.runner).from tt

pub timer_time : (w : World) → (timer w).book.time ≡ w.book.time + 1
timer_time w = ap (λ (n : ℕ). n + 1) (count_ages w w.book.runner).time

pub timer_count : (w : World) → (timer w).book.slot_count ≡ w.book.slot_count
timer_count w = (count_ages w w.book.runner).count

-- The tick: what happens from outside, what is taken at deadlines, the turn, the runner's step with its call or
-- death, and the timer.
use Rattle.std.specs.Prelude.{◌≡◌, ℕ, ◌+◌, ◌-◌, List, [], ◌∷◌, ◌++◌, map, Bool, not, ◌==◌, Option, Some, None}
use Rattle.kernel_journal.specs.declared.row.Row.{Row}
use Rattle.kernel_journal.specs.declared.row.Row.TheVariants as row
use Rattle.world_model.specs.declared.code.Code.{Code}
use Rattle.world_model.specs.declared.life.Cause.{Cause}
use Rattle.world_model.specs.declared.life.Cause.TheVariants as cause
use Rattle.world_model.specs.declared.slot.Phase.TheVariants as phase
use Rattle.world_model.specs.declared.slot.Runner.{Runner}
use Rattle.world_model.specs.declared.slot.Turn.{Turn}
use Rattle.world_model.specs.declared.timer.Timer.{Timer}
use Rattle.world_model.specs.declared.timer.Timer.TheVariants as answer
use Rattle.world_model.specs.Book.{WholeTurn, running, whole_turn}
use Rattle.world_model.specs.Item.{Step, Start, End, Killed, with_answer}
use Rattle.world_model.specs.Step.{Act, Nothing, Stores, Calls, Raises, Dies, step_alone, act_of, acted, call_act}
use Rattle.world_model.specs.declared.verdict.Verdict.{Verdict}
use Rattle.world_model.specs.declared.verdict.Verdict.TheVariants.{Again, Refuse}
use Rattle.world_model.specs.SlotCalls.{stop_row}
use Rattle.world_model.specs.Timer.{timer_of}
use Rattle.world_model.specs.Death.{death}
use Rattle.world_model.specs.Verdict.{asks_one, reply_to, verdict_now}
use Rattle.world_model.specs.Table.{set_at}
use Rattle.world_model.specs.PageCalls.{left_by}
use Rattle.world_model.specs.World.{World, Reply, only, no_items, after, run_phases, no_change, tells, in_turn}
use Rattle.external_event.specs.declared.event.Occurrence.{Occurrence}
use Rattle.world_model.specs.Event.{happen}
use Rattle.revocation_book.specs.declared.revocation.Taking.{Taking}
use Rattle.world_model.specs.Deadlines.{settles, takes, takings}

-- The turn: where nobody runs, slots are forfeited whose holders owe, and the first holder that owes nothing starts
-- with a full quantum.
abbrev pub pay_row : ℕ → Turn → Row
pay_row time t = row.Pay time t.slot t.env

abbrev pub take_turn : World → WholeTurn → Option Turn → Reply
take_turn w told None = no_change w
take_turn w told (Some t) = record {
  book = record w.book {
    cursor = told.cursor;
    excess = told.excess;
    runner = Some (record { env = t.env; left = w.book.quantum; phase = phase.Own });
  };
  items = only t.env (Start ∷ []);
  rows = map (pay_row w.book.time) told.pays ++ row.Run w.book.time t.slot t.env ∷ [];
}

abbrev pub turn_when : World → Option Runner → Reply
turn_when w (Some r) = no_change w
turn_when w None = take_turn w (whole_turn w.book) (whole_turn w.book).runs

abbrev pub turn : World → Reply
turn w = turn_when w w.book.runner

-- what an act of the runner brings
abbrev pub act_reply : ℕ → Act → World → Reply
act_reply e Nothing w = no_change w
act_reply e (Stores x) w = record { book = w.book; items = left_by w.book e x; rows = [] }
act_reply e (Calls call) w = reply_to w e call
act_reply e (Raises exc) w = no_change w
act_reply e (Dies cause) w = death w e

-- The step: the runner absorbs it, and then comes what its act brings.
abbrev pub act_now : World → ℕ → Act
act_now w e = let s = w.solos e in act_of s (step_alone s)

abbrev pub step_when : World → Option Runner → Reply
step_when w None = no_change w
step_when w (Some r) = in_turn (tells r.env Step ∷ act_reply r.env (act_now w r.env) ∷ []) w

abbrev pub step : World → Reply
step w = step_when w w.book.runner

-- The timer: the ticks left of a runner's slice fall by one, and time rises by one.
abbrev pub clock : World → Reply
clock w = record { book = record w.book { time = w.book.time + 1 }; items = no_items; rows = [] }

-- a runner with so many ticks left, in a phase
abbrev pub with_runner : Runner → World → Reply
with_runner r w = record { book = record w.book { runner = Some r }; items = no_items; rows = [] }

-- a full quantum of grace
abbrev pub grace_of : World → ℕ → Runner
grace_of w e = record { env = e; left = w.book.quantum; phase = phase.Grace }

-- whether a living environment handles the ends of its slices
abbrev pub handles_end : World → ℕ → Bool
handles_end w e = not ((w.solos e).handlers.end == 0)

-- what the timer answers for a runner
abbrev pub timer_now : World → Runner → Timer
timer_now w r = timer_of r (handles_end w r.env) (w.book.excess r.env)

-- the end of a slice is told, and a quantum of grace begins
abbrev pub slice_end : ℕ → World → Reply
slice_end e w = record {
  book = record w.book { runner = Some (grace_of w e) };
  items = only e (End ∷ []);
  rows = row.End w.book.time w.book.cursor e ∷ [];
}

-- a runner is stopped
abbrev pub stop_at_end : ℕ → World → Reply
stop_at_end e w = record { book = record w.book { runner = None }; items = no_items; rows = stop_row w.book e ∷ [] }

-- the runner's excess rises by one
abbrev pub owes_more : ℕ → World → Reply
owes_more e w = let excess = w.book.excess e + 1 in record {
  book = record w.book { excess = set_at e excess w.book.excess };
  items = no_items;
  rows = row.Over w.book.time w.book.cursor e excess ∷ [];
}

-- another quantum of grace
abbrev pub grace_again : ℕ → World → Reply
grace_again e w = with_runner (grace_of w e) w

-- the runner dies of its excess
abbrev pub kill : ℕ → World → Reply
kill e w = in_turn (tells e Killed ∷ act_reply e (Dies cause.Excess) ∷ []) w

-- what becomes of a runner by the timer's answer
abbrev pub timer_reply : Runner → Timer → World → Reply
timer_reply r answer.Nothing w = with_runner (record r { left = r.left - 1 }) w
timer_reply r answer.End w = slice_end r.env w
timer_reply r answer.Stop w = stop_at_end r.env w
timer_reply r (answer.Over excess) w = in_turn (owes_more r.env ∷ grace_again r.env ∷ []) w
timer_reply r answer.Kill w = in_turn (owes_more r.env ∷ kill r.env ∷ []) w

abbrev pub count_when : Option Runner → World → Reply
count_when None w = no_change w
count_when (Some r) w = timer_reply r (timer_now w r) w

abbrev pub timer : World → Reply
timer w = in_turn (count_when w.book.runner ∷ clock ∷ []) w

-- The deadlines that have come are served: pages are taken one after another, and then these revocations are over.
abbrev pub serve_phases : List Taking → List (World → Reply)
serve_phases xs = map takes xs ++ settles ∷ []

abbrev pub served : World → World
served w = run_phases w (serve_phases (takings w))

-- a tick in its order, in which this is taken
abbrev pub tick_phases : List Taking → List (World → Reply)
tick_phases xs = map takes xs ++ settles ∷ turn ∷ step ∷ timer ∷ []

abbrev pub tick_step : World → World
tick_step w = run_phases w (tick_phases (takings w))

-- the phases of a tick with what happens in it, which comes first
abbrev pub phases_after : List Occurrence → List Taking → List (World → Reply)
phases_after happens xs = map happen happens ++ tick_phases xs

-- Apart from a tick. The world after an act of the runner: what it does to the runner itself, and then what it brings
abbrev pub act_world : World → ℕ → Act → World
act_world w e act = let v = record w { solos = set_at e (acted act (w.solos e)) w.solos } in after v (act_reply e act v)

-- the world after the runner's death of this cause
abbrev pub died : World → ℕ → Cause → World
died w e cause = act_world w e (Dies cause)

-- the world after the kernel call at which the runner stands
abbrev pub called_world : World → ℕ → World
called_world w e = act_world w e (call_act (w.solos e).cpu)

-- the world in which an environment's call was answered so, and nothing else happened
abbrev pub answered_world : World → ℕ → Verdict → World
answered_world w e verdict = record w { solos = set_at e (with_answer verdict (w.solos e)) w.solos }

-- it was refused
abbrev pub refused_world : World → ℕ → Code → ℕ → World
refused_world w e code value = answered_world w e (Refuse code value)

-- it is to be made again, and another environment was asked, if nothing was pending for it
abbrev pub again_world : World → ℕ → ℕ → World
again_world w e who = after (answered_world w e (Again who)) (asks_one who w)

-- The second world is the first after the kernel call at which its runner stands.
abbrev pub IsCalled : World → World → Type 0
IsCalled old new = (e : ℕ) → running old.book.runner ≡ Some e → new ≡ called_world old e

-- Where the verdict on that call is a refusal, the second world is the first with exactly that answer, and nothing
-- else.
abbrev pub IsRefused : World → World → Type 0
IsRefused old new =
    (e : ℕ) (code : Code) (value : ℕ) → running old.book.runner ≡ Some e → verdict_now old e ≡ Some (Refuse code value)
    → new ≡ refused_world old e code value

-- Where the verdict is that the call is to be made again, it is the first with that answer, and with what asking the
-- other environment changes: its pending revocation, its post words and a row, if nothing was pending for it.
abbrev pub IsAgain : World → World → Type 0
IsAgain old new =
    (e : ℕ) (who : ℕ) → running old.book.runner ≡ Some e → verdict_now old e ≡ Some (Again who)
    → new ≡ again_world old e who

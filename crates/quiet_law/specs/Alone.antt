-- What an environment that asks nothing of others is given, made of the environment alone.
use Rattle.std.specs.Prelude.{ℕ, zero, suc, ◌+◌, ◌-◌, ◌*◌, List, [], ◌∷◌, ◌++◌, Bool, true, false, not, ◌==◌, if◌then◌else◌, Option, Some, None}
use Rattle.std.specs.Option.{option_map_or}
use Rattle.aegis_limits.specs.Limits.{excess_limit}
use Rattle.mips_exec.specs.declared.registers.Cpu.{Cpu}
use Rattle.mips_exec.specs.Cpu.{reg}
use Rattle.world_model.specs.declared.call.Call.{Call}
use Rattle.world_model.specs.declared.call.Call.TheVariants as call
use Rattle.world_model.specs.declared.code.Code.TheVariants as code
use Rattle.world_model.specs.declared.question.Question.{Question}
use Rattle.world_model.specs.declared.question.Question.TheVariants as question
use Rattle.world_model.specs.declared.slot.Phase.{Phase}
use Rattle.world_model.specs.declared.slot.Phase.TheVariants as phase
use Rattle.world_model.specs.declared.timer.Timer.{Timer}
use Rattle.world_model.specs.declared.timer.Timer.TheVariants as timer
use Rattle.world_model.specs.declared.verdict.Verdict.{Verdict}
use Rattle.world_model.specs.declared.verdict.Verdict.TheVariants.{Refuse, Grant}
use Rattle.world_model.specs.Call.{any}
use Rattle.world_model.specs.Item.{Item, Step, Start, End, Killed, Answer, absorb, absorb_all}
use Rattle.world_model.specs.Queries.{question_numbered}
use Rattle.world_model.specs.Solo.{Solo, absent, is_dead}
use Rattle.world_model.specs.Step.{Act, Calls, Dies, act_of, step_alone}
use Rattle.world_model.specs.Timer.{timer_of}
use Rattle.world_model.specs.Verdict.{verdict_alone}

-- Quiet questions are those about the quantum and the caller's own excess, and numbers that name no question.
abbrev pub is_quiet_question : Option Question → Bool
is_quiet_question None = true
is_quiet_question (Some question.Quantum) = true
is_quiet_question (Some question.Excess) = true
is_quiet_question question = false

-- Quiet calls are a yield without a target, put, send, unbind, context and self; an accept of nobody; quiet questions;
-- unclaim and handler, which are refused to a caller without claims; and numbers that name no call. Their answers
-- depend on the caller alone, and they change nothing that others see. Exit, which has no answer, is quiet too.
abbrev pub is_quiet_call : Cpu → Option Call → Bool
is_quiet_call cpu None = true
is_quiet_call cpu (Some call.Yield) = reg cpu 4 == any
is_quiet_call cpu (Some call.Put) = true
is_quiet_call cpu (Some call.Send) = true
is_quiet_call cpu (Some call.Unbind) = true
is_quiet_call cpu (Some call.Context) = true
is_quiet_call cpu (Some call.Accept) = reg cpu 4 == 0
is_quiet_call cpu (Some call.Query) = is_quiet_question (question_numbered (reg cpu 4))
is_quiet_call cpu (Some call.Unclaim) = true
is_quiet_call cpu (Some call.Handler) = true
is_quiet_call cpu (Some call.OwnNumber) = true
is_quiet_call cpu call = false

-- An environment alone: all that it was given, the Solo that this leaves, the ticks left of its quantum, the phase of
-- this, and the quanta that it owes. Between slices no tick is left.
pub record Alone : Type 0 where
  pub items : List Item
  pub solo : Solo
  pub left : ℕ
  pub phase : Phase
  pub excess : ℕ

abbrev pub with_item : Item → Alone → Alone
with_item item a = record a { items = a.items ++ item ∷ []; solo = absorb a.solo item }

abbrev pub stopped : Alone → Alone
stopped a = record a { left = 0; phase = phase.Own }

-- the answer to a question of an environment alone that owes so many quanta; others aren't answered by it alone
abbrev pub question_alone : ℕ → ℕ → Option Question → Option Verdict
question_alone quantum excess None = Some (Refuse code.BadCall 0)
question_alone quantum excess (Some question.Quantum) = Some (Grant quantum)
question_alone quantum excess (Some question.Excess) = Some (Grant excess)
question_alone quantum excess question = None

-- the answer to its call
abbrev pub answer_alone : ℕ → Alone → Option Call → Option Verdict
answer_alone quantum a None = Some (Refuse code.BadCall 0)
answer_alone quantum a (Some call.Query) =
    question_alone quantum a.excess (question_numbered (reg a.solo.cpu 4))
answer_alone quantum a call = verdict_alone a.solo call

-- A quiet call is answered, and a yield ends the slice. So does death, and the dead owe nothing. A call that isn't its
-- caller's alone ends what is told of the slice.
abbrev pub after_act : ℕ → Act → Alone → Alone
after_act quantum (Calls (Some call.Yield)) a = stopped (with_item (Answer (Grant 0)) a)
after_act quantum (Calls call) a =
    option_map_or (λ v. with_item (Answer v) a) (answer_alone quantum a call) (stopped a)
after_act quantum (Dies cause) a = record (stopped a) { excess = 0 }
after_act quantum act a = a

-- what the timer's answer comes to
abbrev pub after_timer : ℕ → Timer → Alone → Alone
after_timer quantum timer.Nothing a = record a { left = a.left - 1 }
after_timer quantum timer.End a = with_item End (record a { left = quantum; phase = phase.Grace })
after_timer quantum timer.Stop a = stopped a
after_timer quantum (timer.Over excess) a = record a { left = quantum; phase = phase.Grace; excess = excess }
after_timer quantum timer.Kill a = with_item Killed (record (stopped a) { excess = 0 })

-- the timer, which has nothing to count once the slice is over
abbrev pub count_alone : ℕ → Alone → Alone
count_alone quantum a =
    let has_end = not (a.solo.handlers.end == 0) in
    after_timer quantum (timer_of (record { env = a.solo.number; left = a.left; phase = a.phase }) has_end a.excess) a

-- one tick: a step, what it comes to, and the timer
unfoldable pub tick_alone : ℕ → Alone → Alone
tick_alone quantum a = count_alone quantum (after_act quantum (act_of a.solo (step_alone a.solo)) (with_item Step a))

-- the ticks of a slice to its end, but no more than this number
abbrev pub ticks_alone : ℕ → ℕ → Alone → Alone
ticks_alone quantum zero a = a
ticks_alone quantum (suc most) a = if a.left == 0 then a else ticks_alone quantum most (tick_alone quantum a)

-- A slice begins with nothing owed; the dead have none. It ends within its own quantum, one of grace, and one for each
-- quantum that may be owed, since each tick uses up one of theirs.
abbrev pub quiet_slice : ℕ → Alone → Alone
quiet_slice quantum a =
    if is_dead a.solo.life then record a { excess = 0 }
    else ticks_alone quantum ((2 + excess_limit) * quantum)
    (with_item Start (record a { left = quantum; phase = phase.Own; excess = 0 }))

-- what it is given at boot, and then n slices
abbrev pub quiet_course : ℕ → List Item → ℕ → ℕ → Alone
quiet_course e boot quantum zero =
    record { items = boot; solo = absorb_all (absent e) boot; left = 0; phase = phase.Own; excess = 0 }
quiet_course e boot quantum (suc n) = quiet_slice quantum (quiet_course e boot quantum n)

abbrev pub quiet_feed : ℕ → List Item → ℕ → ℕ → List Item
quiet_feed e boot quantum n = (quiet_course e boot quantum n).items

abbrev pub quiet_excess : ℕ → List Item → ℕ → ℕ → ℕ
quiet_excess e boot quantum n = (quiet_course e boot quantum n).excess

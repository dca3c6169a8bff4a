-- A run keeps the size of the ring page, and its replies are few and frames.
use Rattle.std.proofs.Common.{arith, ◌≡◌, ◌<◌, ◌≤◌, ℕ, zero, suc, true, List, [], ◌∷◌, ◌++◌, length, Option, Some, None, sym, ◌∙◌, length-append, length-drop, rules}
use Rattle.std.specs.List.{list_all}
use Rattle.std.proofs.lemmas.Bool.{and_parts, leb-true, ltb-true}
use Rattle.std.proofs.lemmas.List.{length-take-le}
use Rattle.std.proofs.lemmas.List.Folds.{list_all-append}
use Rattle.mips_exec.specs.Access.{Write}
use Rattle.mips_exec.specs.Kept.{IsWrite, StepsAreSound}
use Rattle.mips_exec.specs.Step.{Step, Retired, Called, Trapped, step_of, view_of, write_after}
use Rattle.handler_rules.specs.declared.outcome.HandlerEnd.{HandlerEnd}
use Rattle.handler_rules.specs.Laws.{IsWithinLimits, RunsKeepLimits, is_frame}
use Rattle.handler_rules.specs.Memory.{answers_of}
use Rattle.handler_rules.specs.Running.{HandlerRun, HandlerState, after_call, after_step, handler_run, most_replies, handler_step, ended_or, run_on}

-- the ring page has its size, and the replies are few and frames
record Keeps (size : ℕ) (state : HandlerState) : Type 0 where
  page : length state.page ≡ size
  count : length state.replies ≤ most_replies
  frames : list_all is_frame state.replies ≡ true

-- ---- replies

-- a reply more, where there is room, is within the limit
length_more : (replies : List (List ℕ)) (reply : List ℕ) → length replies < most_replies → length (replies ++ reply ∷ []) ≤ most_replies
length_more replies reply room = let all = length-append replies (reply ∷ []) in omega (arith, all, room)

-- a SYSCALL keeps the limits
call_keeps : (size : ℕ) (state : HandlerState) → Keeps size state → Keeps size (after_call state).state
call_keeps size state keeps = search (rules, length_more, ltb-true, list_all-append, and_parts, leb-true, length-drop, length-take-le)

-- ---- runs

-- so does each step of the machine, whose writes are those that memory takes
step_keeps : (size : ℕ) (words packet : List ℕ) (state : HandlerState) (step : Step) → Keeps size state
    → ((write : Write) → write_after step ≡ Some write → IsWrite (answers_of words packet state.page) write) → Keeps size (after_step state step).state
step_keeps size words packet state (Retired cpu None) keeps writes = record { page = keeps.page; count = keeps.count; frames = keeps.frames }
step_keeps size words packet state (Retired cpu (Some write)) keeps writes = search (rules, length-append, length-take-le, length-drop, and_parts, leb-true)
step_keeps size words packet state Called keeps writes = call_keeps size state keeps
step_keeps size words packet state (Trapped exc) keeps writes = keeps

-- so does a run of any number of instructions
run_keeps : (size n : ℕ) (words packet : List ℕ) (state : HandlerState) → StepsAreSound → Keeps size state → (page : List ℕ) → length page ≡ size → IsWithinLimits page (run_on n words packet state)
run_keeps size zero words packet state sound keeps page same = record { size = keeps.page ∙ sym same; count = keeps.count; frames = keeps.frames }
run_keeps size (suc n) words packet state sound keeps page same =
    let progress = handler_step words packet state in
    let answers = answers_of words packet state.page in
    let left = step_keeps size words packet state (step_of state.cpu (view_of answers state.cpu)) keeps (sound answers state.cpu).writes in
    by_end progress.end progress.state left (run_keeps size n words packet progress.state sound left page same)
  where
    by_end : (end : Option HandlerEnd) (after : HandlerState) → Keeps size after → {rest : HandlerRun} → IsWithinLimits page rest → IsWithinLimits page (ended_or end after rest)
    by_end None after left rest = rest
    by_end (Some end) after left rest = record { size = left.page ∙ sym same; count = left.count; frames = left.frames }

-- and so the run of a handler
pub runs_keep_limits : StepsAreSound → RunsKeepLimits
unfolding handler_run
runs_keep_limits sound words packet page id whole = search (rules, run_keeps)

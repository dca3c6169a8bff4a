-- What a run of a handler leaves: no less of a page than there was, and replies that are short.
use Rattle.std.proofs.Common.{◌≡◌, ◌≤◌, ◌+◌, ℕ, zero, suc, List, [], ◌∷◌, ◌++◌, length, take, drop, true, Option, Some, None, refl, ◌∙◌, ap, arith, length-append}
use Rattle.std.proofs.lemmas.Grind.{common_steps}
use Rattle.std.specs.List.{list_all}
use Rattle.std.proofs.lemmas.Bool.{and_parts, le-leb, leb-true}
use Rattle.std.proofs.lemmas.List.{append-nil, drop_all, length-drop, length-take}
use Rattle.std.proofs.lemmas.List.Folds.{list_all-append}
use Rattle.external_event.specs.Limits.{most_packet_size}
use Rattle.frame_store.specs.Pages.{with_bytes}
use Rattle.mips_exec.specs.declared.registers.Cpu.{Cpu}
use Rattle.mips_exec.specs.Step.{Step, step_of, view_of}
use Rattle.handler_rules.specs.declared.outcome.HandlerEnd.{HandlerEnd}
use Rattle.handler_rules.specs.Memory.{answers_of}
use Rattle.handler_rules.specs.Running.{HandlerRun, HandlerState, after_call, after_step, ended_or, entry_state, handler_run, handler_step, reply_of, run_on}
use Rattle.sharing_law.specs.Sent.{is_short}

-- a page with bytes in it has no fewer than before
pub filled_size : (page bytes : List ℕ) (offset : ℕ) → length page ≤ length (with_bytes page offset bytes)
filled_size page bytes offset =
    omega (arith, length-append (take offset page ++ bytes) (drop (offset + length bytes) page), length-append (take offset page) bytes, length-take offset page, length-drop (offset + length bytes) page)

-- bytes that are no fewer than those of a page are all of it, once they stand there from its start on
pub filled_whole : (page bytes : List ℕ) → length page ≤ length bytes → with_bytes page 0 bytes ≡ bytes
filled_whole page bytes size = ap (λ (rest : List ℕ). bytes ++ rest) (drop_all (0 + length bytes) page (omega (arith, size))) ∙ append-nil bytes

-- a packet more that is short
pub short_more : (packets : List (List ℕ)) (packet : List ℕ) → list_all is_short packets ≡ true → is_short packet ≡ true → list_all is_short (packets ++ packet ∷ []) ≡ true
short_more packets packet all short = grind (arith, common_steps, list_all-append)

-- so many bytes at most are taken
pub taken_short : (size : ℕ) (bytes : List ℕ) → size ≤ most_packet_size → is_short (take size bytes) ≡ true
taken_short size bytes most = le-leb (length (take size bytes)) most_packet_size (omega (arith, length-take size bytes, most))

reply_short : (cpu : Cpu) (page reply : List ℕ) → reply_of cpu page ≡ Some reply → is_short reply ≡ true
reply_short cpu page reply is = grind (arith, taken_short, leb-true, and_parts)

-- A handler at work on a page of so many bytes at least.
pub record Holds (size : ℕ) (page : List ℕ) (replies : List (List ℕ)) : Type 0 where
  pub page_size : size ≤ length page
  pub short : list_all is_short replies ≡ true

abbrev StateHolds : ℕ → HandlerState → Type 0
StateHolds size state = Holds size state.page state.replies

call_holds : (size : ℕ) (state : HandlerState) → StateHolds size state → StateHolds size (after_call state).state
call_holds size state holds = grind (arith, common_steps, short_more, reply_short)

step_holds : (size : ℕ) (state : HandlerState) (step : Step) → StateHolds size state → StateHolds size (after_step state step).state
step_holds size state step holds = grind (arith, common_steps, filled_size, call_holds)

abbrev RunHolds : ℕ → HandlerRun → Type 0
RunHolds size run = Holds size run.page run.replies

run_holds : (size n : ℕ) (words packet : List ℕ) (state : HandlerState) → StateHolds size state → RunHolds size (run_on n words packet state)
run_holds size zero words packet state holds = holds
run_holds size (suc n) words packet state holds =
    let progress = handler_step words packet state in
    let left = step_holds size state (step_of state.cpu (view_of (answers_of words packet state.page) state.cpu)) holds in
    by_end progress.end progress.state left (run_on n words packet progress.state) (run_holds size n words packet progress.state left)
  where
    by_end : (end : Option HandlerEnd) (state : HandlerState) → StateHolds size state → (rest : HandlerRun) → RunHolds size rest → RunHolds size (ended_or end state rest)
    by_end None state left rest holds = holds
    by_end (Some end) state left rest holds = left

-- so does the run of a handler
pub handled_holds : (words packet : List ℕ) (id : ℕ) (page : List ℕ) → (let run = handler_run words packet id page in Holds (length page) run.page run.replies)
unfolding handler_run
handled_holds words packet id page = run_holds (length page) (length words) words packet (entry_state packet id page) (record { page_size = omega arith; short = refl })

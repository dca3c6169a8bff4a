-- A verified handler ends in as many instructions as it has words.
use Rattle.std.proofs.Common.{arith, ◌≡◌, ◌<◌, ◌≤◌, ◌+◌, ◌*◌, ◌⊎◌, inl, inr, ℕ, zero, suc, Bool, true, false, List, length, Option, Some, None, Result, refl, get_or, rules}
use mathlib.Core.Path.{ap}
use Rattle.std.specs.Prelude.{◌&&◌, slice_get, slice_index, nat_lt, if◌then◌else◌}
use Rattle.std.specs.Option.{is_some}
use Rattle.std.proofs.lemmas.Option.{slice_get-get_or, slice_get_cases, slice_get_past}
use Rattle.mips_isa.specs.declared.insn.Insn.{Insn}
use Rattle.mips_exec.specs.declared.registers.Cpu.{Cpu}
use Rattle.mips_exec.specs.declared.reach.Access.{Access}
use Rattle.mips_exec.specs.declared.exception.Exc.{Exc}
use Rattle.mips_exec.specs.declared.exception.ExcCode.TheVariants.{Ibe}
use Rattle.mips_exec.specs.declared.change.Change.{Change}
use Rattle.mips_exec.specs.declared.change.Change.TheVariants.{Puts, PutsHiLo, Passes, Jumps, JumpsAndLinks, Calls, Raises}
use Rattle.mips_exec.specs.Access.{Write, access}
use Rattle.mips_exec.specs.Cpu.{with_hi_lo, with_reg}
use Rattle.mips_exec.specs.Effect.{effect}
use Rattle.mips_exec.specs.Step.{ended, executed, fetched}
use Rattle.handler_rules.specs.declared.outcome.HandlerEnd.{HandlerEnd}
use Rattle.handler_rules.specs.declared.outcome.HandlerEnd.TheVariants.{Done, Fault}
use Rattle.handler_rules.specs.Instructions.{branch_offset, is_barred_from_slots}
use Rattle.handler_rules.specs.Memory.{answer_or, answers_of}
use Rattle.handler_rules.specs.Running.{Progress, HandlerState, after_call, after_step, ends, entry_cpu, entry_state, handler_run, most_replies, handler_step, ended_or, run_of, replied, reply_of, run_on}
use Rattle.handler_rules.specs.Laws.{FirstBadIsFirst, HandlersEnd}
use Rattle.handler_rules.specs.Verification.{follows_branch, insn_at}
use Rattle.safe_handler.proofs.Effects.{branch_is_barred, branches, goes_straight, is_straight}
use Rattle.safe_handler.proofs.Positions.{IsAt, IsBeyond, IsVerified, advances, good_branch, good_word, is_verified, jumps}

-- a handler that goes on is at a word behind word i
abbrev Goes : List ℕ → ℕ → Cpu → Option HandlerEnd → Type 0
Goes words i cpu None = IsBeyond words cpu i
Goes words i cpu (Some end) = Unit {0}

-- so does what an instruction leaves
abbrev GoesOn : List ℕ → ℕ → Progress → Type 0
GoesOn words i progress = Goes words i progress.state.cpu progress.end

-- a register that is written leaves the place
at_with_reg : (words : List ℕ) (cpu : Cpu) (n value i j : ℕ) → IsAt words cpu i j → IsAt words (with_reg cpu n value) i j
at_with_reg words cpu n value i j is = search rules

-- a call goes on to the next word, or is a fault
call_goes : (words : List ℕ) (state : HandlerState) (i j : ℕ) → IsVerified words → IsAt words state.cpu i j → i < length words → GoesOn words i (after_call state)
call_goes words state i j verified is inside = by_room (nat_lt (length state.replies) most_replies) (reply_of state.cpu state.page)
  where
    by_room : (t : Bool) (reply : Option (List ℕ)) → GoesOn words i (if t then replied state reply else ends Fault state)
    by_room false reply = tt
    by_room true None = tt
    by_room true (Some reply) = advances words state.cpu i j verified is inside

-- what doesn't jump goes on to the next word
straight_goes : (words : List ℕ) (state : HandlerState) (i j : ℕ) (change : Change) (write : Option Write) → IsVerified words → IsAt words state.cpu i j → i < length words
    → is_straight change ≡ true → GoesOn words i (after_step state (ended state.cpu change write))
straight_goes words state i j (Puts n value) write verified is inside straight = advances words (with_reg state.cpu n value) i j verified (at_with_reg words state.cpu n value i j is) inside
straight_goes words state i j (PutsHiLo high low) write verified is inside straight =
    advances words (with_hi_lo state.cpu high low) i j verified (record { pc = is.pc; next = is.next; forward = is.forward; order = is.order }) inside
straight_goes words state i j Passes write verified is inside straight = advances words state.cpu i j verified is inside
straight_goes words state i j (Jumps target) write verified is inside straight = absurd cc
straight_goes words state i j (JumpsAndLinks n target) write verified is inside straight = absurd cc
straight_goes words state i j Calls write verified is inside straight = call_goes words state i j verified is inside
straight_goes words state i j (Raises exc) write verified is inside straight = tt

-- a branch stands behind no branch, so the word behind it is next
branch_is_next : (words : List ℕ) (cpu : Cpu) (i j imm : ℕ) → IsAt words cpu i j → (is_barred_from_slots (insn_at words i) && follows_branch words i) ≡ false
    → branch_offset (insn_at words i) ≡ Some imm → j ≡ i + 1
branch_is_next words cpu i j imm is good branch = search (rules, branch_is_barred)

-- what a good word does goes on behind it
effect_goes : (words : List ℕ) (state : HandlerState) (i j x : ℕ) (write : Option Write) → IsVerified words → IsAt words state.cpu i j → i < length words
    → GoesOn words i (after_step state (ended state.cpu (effect (insn_at words i) state.cpu x) write))
effect_goes words state i j x write verified is inside = by_kind (branch_offset (insn_at words i)) refl
  where
    by_kind : (o : Option ℕ) → branch_offset (insn_at words i) ≡ o → GoesOn words i (after_step state (ended state.cpu (effect (insn_at words i) state.cpu x) write))
    by_kind None none =
        straight_goes words state i j (effect (insn_at words i) state.cpu x) write verified is inside
        (goes_straight (insn_at words i) state.cpu x (good_word words i (verified.good i inside)).allowed none)
    by_kind (Some imm) branch =
        let good = good_word words i (verified.good i inside) in
        let next = branch_is_next words state.cpu i j imm is good.slot branch in
        let there = rw next at is in
        let to = branches (insn_at words i) state.cpu x imm branch in
        let forward = good_branch words i imm inside (rw branch at good.branch) in
        rw to.jumps (jumps words state.cpu i imm to.taken verified there inside forward (ap is_some branch))

-- an instruction goes on as what it does, or ends the handler by its load or store
executed_goes : (words : List ℕ) (state : HandlerState) (i : ℕ) (insn : Insn) (a : Option Access) (answer : Result ℕ Exc)
    → ((x : ℕ) (write : Option Write) → GoesOn words i (after_step state (ended state.cpu (effect insn state.cpu x) write)))
    → GoesOn words i (after_step state (executed insn state.cpu a answer))
executed_goes words state i insn a answer goes = search rules

-- word i is fetched
fetched_at : (words packet page : List ℕ) (pc i : ℕ) → pc ≡ 4 * i → fetched (answers_of words packet page) pc ≡ answer_or Ibe (λ (word : ℕ). word) (slice_get words i)
fetched_at words packet page pc i is = search rules

-- behind the last word the handler ends
past_end : (words packet : List ℕ) (state : HandlerState) (i j : ℕ) → IsAt words state.cpu i j → length words ≤ i → handler_step words packet state ≡ ends Done state
past_end words packet state i j is past = search (rules, fetched_at, slice_get_past)

-- one instruction of a verified handler goes on behind it, or ends
step_goes : (words packet : List ℕ) (state : HandlerState) (i j : ℕ) → IsVerified words → IsAt words state.cpu i j → GoesOn words i (handler_step words packet state)
step_goes words packet state i j verified is = by_word (slice_get_cases words i).1
  where
    by_word : ((x : ℕ) × (i < length words) × (slice_get words i ≡ Some x) × (get_or words i x ≡ x)) ⊎ ((length words ≤ i) × (slice_get words i ≡ None)) → GoesOn words i (handler_step words packet state)
    by_word (inr past) = rw (past_end words packet state i j is past.0) tt
    by_word (inl found) =
        let fetch = fetched_at words packet state.page state.cpu.pc i is.pc in
        let word : slice_get words i ≡ Some (slice_index words i) = slice_get-get_or words i 0 found.1 in
        rw (fetch, word) (executed_goes words state i (insn_at words i) (access (insn_at words i) state.cpu) _ (λ x write. effect_goes words state i j x write verified is found.1))

-- two runs are the same after an instruction, if they are from where the handler goes on
from_same : (n more : ℕ) (words packet : List ℕ) (i : ℕ) (state : HandlerState) (end : Option HandlerEnd) → Goes words i state.cpu end
    → ((place next : ℕ) → IsAt words state.cpu place next → i < place → run_on (n + more) words packet state ≡ run_on n words packet state)
    → ended_or end state (run_on (n + more) words packet state) ≡ ended_or end state (run_on n words packet state)
from_same n more words packet i state None goes same = same goes.place goes.next goes.at goes.beyond
from_same n more words packet i state (Some end) goes same = refl

-- where the handler ends as done, so does a run of any number of instructions
run_at_end : (n : ℕ) (words packet : List ℕ) (state : HandlerState) → handler_step words packet state ≡ ends Done state → run_on n words packet state ≡ run_of state Done
run_at_end n words packet state ended = search rules

-- with as many instructions as there are words left, more make no difference
pub runs_same : (n more : ℕ) (words packet : List ℕ) (state : HandlerState) (i j : ℕ) → IsVerified words → IsAt words state.cpu i j → length words ≤ i + n
    → run_on (n + more) words packet state ≡ run_on n words packet state
runs_same zero more words packet state i j verified is left =
    let all : 0 + more ≡ more = omega arith in
    rw all (run_at_end more words packet state (past_end words packet state i j is (omega (arith, left))))
runs_same (suc n) more words packet state i j verified is left =
    let progress = handler_step words packet state in
    let one : suc n + more ≡ suc (n + more) = omega arith in
    rw one (from_same n more words packet i progress.state progress.end (step_goes words packet state i j verified is)
    (λ place next at beyond. runs_same n more words packet progress.state place next verified at (omega (arith, left, beyond))))

-- a handler begins at its first word
at_entry : (words : List ℕ) (size id : ℕ) → IsAt words (entry_cpu size id) 0 1
at_entry words size id = record { pc = refl; next = refl; forward = omega arith; order = inl refl }

-- a verified handler ends in as many instructions as it has words
pub handlers_end : FirstBadIsFirst → HandlersEnd
unfolding handler_run
handlers_end law words packet page id more none =
    runs_same (length words) more words packet (entry_state packet id page) 0 1 (is_verified law words none) (at_entry words (length packet) id) (omega arith)

-- A stretch is as many ticks.
use Rattle.std.proofs.Common.{arith, rules, refl, sym, ap, ◌∙◌, ◌≡◌, ◌+◌, ◌<◌, ◌≤◌, ◌-◌, ◌%◌, ◌/◌, ◌*◌, ℕ, zero, suc, true, false, List, add-zero, add-suc}
use Rattle.std.proofs.Math.Nat.{mul-mod_left}
use Rattle.std.specs.Prelude.{◌&&◌, ◌||◌, Bool, if◌then◌else◌}
use Rattle.mips_exec.specs.declared.exception.Outcome.{Outcome}
use Rattle.mips_exec.specs.Step.{outcome_of}
use Rattle.r3k_cp0.specs.declared.registers.Cp0.{Cp0}
use Rattle.r3k_cp0.specs.Registers.{takes_interrupts}
use Rattle.r3k_machine.specs.declared.machine.Machine.{Machine}
use Rattle.r3k_machine.specs.Machine.{after_attempts, end_of, user_step}
use Rattle.r3k_machine.specs.Memory.{frames_written, row_answers}
use Rattle.r3k_machine.specs.Steps.{Retires, RowStepsRetire, Running, after_row_steps, next_row_step}
use Rattle.r3k_machine.specs.System.{MachineStep, RetiredStepsAreTheMachines, table_step}
use Rattle.bare_board.specs.declared.board.Board.{Board}
use Rattle.bare_board.specs.Run.{Run, after_tick, next_run, run_after}
use Rattle.bare_board.specs.Stretch.{AreCalm, IsPlain, TicksLead, going_on}
use Rattle.bare_board.specs.Tick.{acted, after_end, after_interrupt, after_step, going, is_due, is_interrupted, ticked, with_due, with_step}

-- ---- when the next interrupt is due

pub next_is_multiple : (period t : ℕ) → 0 < period → (t + (period - t % period)) % period ≡ 0
next_is_multiple period t above =
    let sum : t + (period - t % period) ≡ (t / period + 1) * period = omega arith in
    rw sum (mul-mod_left (t / period + 1) period)

-- ---- a plain tick

or_false : (a b : Bool) → b ≡ false → (a || b) ≡ a
or_false a b h = search rules

-- nothing becomes pending
same_board : (period t : ℕ) (b : Board) → is_due period t ≡ false → with_due period t b ≡ b
same_board period t b undue = ap (λ (p : Bool). record b { pending = p }) (or_false b.pending (is_due period t) undue)

steps_unless_interrupted : (b : Board) → is_interrupted b ≡ false → acted b ≡ after_step b
steps_unless_interrupted b untaken = ap (λ (v : Bool). if v then going (after_interrupt b) else after_step b) untaken

-- the board after a step of the table that retires
abbrev pub after_table_step : Board → Board
after_table_step b = with_step (table_step b.machine b.frames (user_step b.machine b.frames)) b

-- a step that retires is the tick, where no interrupt is due or taken
one_tick : RetiredStepsAreTheMachines → (period t : ℕ) (b : Board) → is_due period t ≡ false → is_interrupted b ≡ false
    → Retires (user_step b.machine b.frames) → ticked period t b ≡ going (after_table_step b)
unfolding ticked
one_tick law period t b undue untaken retired =
    ap acted (same_board period t b undue)
    ∙ steps_unless_interrupted b untaken
    ∙ ap (λ (s : MachineStep). after_end (end_of b.machine.cp0 b.machine.tlb s.outcome) (with_step s b))
    (law b.machine b.frames (search (rules, retired)))
    ∙ ap (λ (o : Outcome). after_end (end_of b.machine.cp0 b.machine.tlb o) (after_table_step b)) retired

-- ---- as many ticks

abbrev pub running : Board → Running
running b = record { cpu = b.machine.cpu; frames = b.frames }

-- the board after so many steps of the table
abbrev pub after_steps : Board → ℕ → Board
after_steps b k =
    let s = after_row_steps b.machine.cp0 b.machine.tlb (running b) k
    in record b { machine = record b.machine { cpu = s.cpu; cp0 = after_attempts k b.machine.cp0 }; frames = s.frames }

-- no step asks Random
step_is : (b : Board) (k : ℕ)
    → user_step (after_steps b k).machine (after_steps b k).frames
    ≡ next_row_step b.machine.cp0 b.machine.tlb (after_row_steps b.machine.cp0 b.machine.tlb (running b) k)
unfolding row_answers
step_is b k = refl

one_more : (b : Board) (k : ℕ) → after_table_step (after_steps b k) ≡ after_steps b (suc k)
unfolding row_answers frames_written
one_more b k = refl

goes_on : (period t : ℕ) (first now next : Board) → run_after period first t ≡ going_on now → ticked period t now ≡ going next
    → run_after period first (suc t) ≡ going_on next
goes_on period t first now next so_far tick =
    ap (λ (r : Run). next_run period t r.board r.halt) so_far ∙ ap (after_tick t) tick

module _ (law : RetiredStepsAreTheMachines) (period t : ℕ) (b : Board) (n : ℕ) (calm : AreCalm period t b n)
    (retire : RowStepsRetire b.machine.cp0 b.machine.tlb (running b) n) where
  leads_so_far : (first : Board) → run_after period first t ≡ going_on b → (k : ℕ) → k ≤ n → run_after period first (t + k) ≡ going_on (after_steps b k)
  leads_so_far first at zero within = ap (run_after period first) (add-zero t) ∙ at
  leads_so_far first at (suc k) within =
      ap (run_after period first) (add-suc t k)
      ∙ goes_on period (t + k) first (after_steps b k) (after_steps b (suc k)) (leads_so_far first at k (omega arith))
      (one_tick law period (t + k) (after_steps b k) (calm.undue k (omega arith)) (calm.untaken (omega arith)) (ap outcome_of (step_is b k) ∙ retire.each k (omega arith))
      ∙ ap going (one_more b k))

  -- by the clauses of the machine's run
  pub leads : (m : Machine) (frames : List (List ℕ)) → record { cpu = m.cpu; frames = frames } ≡ after_row_steps b.machine.cp0 b.machine.tlb (running b) n
      → m.tlb ≡ b.machine.tlb → m.cp0 ≡ after_attempts n b.machine.cp0 → TicksLead period t b (record b { machine = m; frames = frames }) n
  leads m frames ran rows cp0 =
      let is : after_steps b n ≡ record b { machine = m; frames = frames } =
      sym (λ i. record b { machine = record { cpu = (ran i).cpu; tlb = rows i; cp0 = cp0 i }; frames = (ran i).frames }) in
      record { each = λ first at. leads_so_far first at n (omega arith) ∙ ap going_on is }

-- ---- the end of a stretch

-- fewer ticks are calm too
pub fewer : (period t n k : ℕ) (b : Board) → AreCalm period t b n → k ≤ n → AreCalm period t b k
fewer period t n k b calm within = record { undue = λ j less. calm.undue j (omega arith); untaken = λ some. calm.untaken (omega arith) }

still_untaken : (b : Board) (m : Machine) (frames : List (List ℕ)) (n : ℕ) → m.cp0 ≡ after_attempts n b.machine.cp0
    → is_interrupted (record b { machine = m; frames = frames }) ≡ is_interrupted b
still_untaken b m frames n cp0 = ap (λ (c : Cp0). b.pending && takes_interrupts c) cp0

not_below : (m n : ℕ) → (m < n → ⊥) → n ≤ m
not_below m n h = grind arith

contrary : (v : Bool) → v ≡ true → v ≡ false → ⊥
contrary v is isnt = search (rules, is, isnt)

-- a stretch ends where a tick isn't plain
pub stops : (period t most n k : ℕ) (b : Board) (m : Machine) (frames : List (List ℕ))
    → (is_interrupted b ≡ false → n < most → is_due period (t + n) ≡ true)
    → (k < n → Retires (user_step m frames) → ⊥) → k ≤ n → m.cp0 ≡ after_attempts k b.machine.cp0
    → IsPlain period (t + k) (record b { machine = m; frames = frames }) → most ≤ k
stops period t most n k b m frames next retired within cp0 plain =
    let all : k ≡ n = let none : n ≤ k = not_below k n (λ less. retired less plain.retires) in omega arith in
    let undue : is_due period (t + n) ≡ false = ap (λ j. is_due period (t + j)) (sym all) ∙ plain.undue in
    let untaken : is_interrupted b ≡ false = sym (still_untaken b m frames k cp0) ∙ plain.untaken in
    let end : most ≤ n = not_below n most (λ less. contrary (is_due period (t + n)) (next untaken less) undue) in
    omega arith

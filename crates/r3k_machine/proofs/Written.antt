-- What a step leaves of memory.
use Rattle.std.proofs.Common.{◌≡◌, ◌%◌, ◌∙◌, refl, ap, sym, List, ℕ, length, Option, Some, None, Ok, false, rules, length-set}
use Rattle.mips_isa.specs.Encoding.{insn_of}
use Rattle.mips_exec.specs.Access.{Write, access}
use Rattle.mips_exec.specs.declared.change.Change.{Change}
use Rattle.mips_exec.specs.Effect.{effect}
use Rattle.mips_exec.specs.declared.registers.Cpu.{Cpu}
use Rattle.mips_exec.specs.Step.{Step, Wrote, access_after, cpu_after, decoded, ended, fetched, write_after}
use Rattle.mips_step.specs.WordStep.{PlainWordsAreSteps, fetched_step, has_retired, plain_step}
use Rattle.r3k_tlb.specs.declared.row.Row.{Row}
use Rattle.r3k_cp0.specs.declared.registers.Cp0.{Cp0}
use Rattle.r3k_machine.specs.declared.bus.RowBus.{RowBus}
use Rattle.r3k_machine.specs.Lent.{IsKept, IsStored}
use Rattle.r3k_machine.specs.Machine.{after_attempts}
use Rattle.r3k_machine.specs.Memory.{frames_written, row_answers, row_step}
use Rattle.r3k_machine.specs.Steps.{Running, entry_behind, wanted_behind}

-- there are as many pages after a write
pub length_written : (cp0 : Cp0) (rows : List Row) (frames : List (List ℕ)) (w : Option Write)
    → length (frames_written cp0 rows frames w) ≡ length frames
unfolding frames_written
length_written cp0 rows frames w = search (rules, length-set)

-- memory took a step's write
pub wrote_frames : (a b : RowBus) (w : Option Write) → Wrote IsKept IsStored a w b
    → b.frames.now ≡ frames_written a.cp0.now a.tlb.now a.frames.now w
unfolding frames_written
wrote_frames a b None kept = kept.frames
wrote_frames a b (Some w) stored = stored.frames

-- a step whose fetch was answered is that of the word
pub fetched_is : (cp0 : Cp0) (rows : List Row) (frames : List (List ℕ)) (cpu : Cpu) (word : ℕ) → cpu.pc % 4 ≡ 0
    → (row_answers cp0 rows frames).fetch cpu.pc ≡ Ok word
    → fetched_step (row_answers cp0 rows frames) cpu word ≡ row_step cp0 rows frames cpu
fetched_is cp0 rows frames cpu word aligned answer =
    let answers = row_answers cp0 rows frames in
    let e : fetched answers cpu.pc ≡ Ok word = search rules in
    sym (ap (λ r. decoded cpu r (access_after answers cpu r)) e)

-- a step of a word that neither loads nor stores leaves memory
no_write : (cpu : Cpu) (change : Change) → write_after (ended cpu change None) ≡ None
no_write cpu change = search rules

pub plain_step_writes_nothing : (cp0 : Cp0) (rows : List Row) (frames : List (List ℕ)) (cpu : Cpu) (word : ℕ) → PlainWordsAreSteps
    → cpu.pc % 4 ≡ 0 → (row_answers cp0 rows frames).fetch cpu.pc ≡ Ok word → access (insn_of word) cpu ≡ None
    → frames ≡ frames_written cp0 rows frames (write_after (row_step cp0 rows frames cpu))
unfolding frames_written
plain_step_writes_nothing cp0 rows frames cpu word law aligned answer plain =
    let step : row_step cp0 rows frames cpu ≡ plain_step cpu word =
    sym (fetched_is cp0 rows frames cpu word aligned answer) ∙ law (row_answers cp0 rows frames) cpu word plain in
    sym (ap (frames_written cp0 rows frames) (ap write_after step ∙ no_write cpu (effect (insn_of word) cpu 0)))

-- a step that doesn't retire leaves the registers and memory
pub cpu_stays : (cpu : Cpu) (step : Step) → has_retired step ≡ false → cpu_after cpu step ≡ cpu
cpu_stays cpu step h = search rules

pub frames_stay : (cp0 : Cp0) (rows : List Row) (frames : List (List ℕ)) (step : Step) → has_retired step ≡ false
    → frames_written cp0 rows frames (write_after step) ≡ frames
unfolding frames_written
frames_stay cp0 rows frames step h = search rules

-- no step asks Random
pub random_is_unasked : (times : ℕ) (cp0 : Cp0) (rows : List Row) (frames : List (List ℕ)) (cpu : Cpu)
    → row_step (after_attempts times cp0) rows frames cpu ≡ row_step cp0 rows frames cpu
unfolding row_answers
random_is_unasked times cp0 rows frames cpu = refl

pub wanted_without_random : (random made most : ℕ) (cp0 : Cp0) (rows : List Row) (s : Running)
    → wanted_behind made most (record cp0 { random = random }) rows s ≡ wanted_behind made most cp0 rows s
unfolding row_answers
wanted_without_random random made most cp0 rows s = refl

pub entry_without_random : (random made most : ℕ) (cp0 : Cp0) (rows : List Row) (s : Running)
    → entry_behind made most (record cp0 { random = random }) rows s ≡ entry_behind made most cp0 rows s
unfolding row_answers
entry_without_random random made most cp0 rows s = refl

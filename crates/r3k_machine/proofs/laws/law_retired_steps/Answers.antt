use Rattle.std.proofs.Common.{◌≡◌, refl, ℕ, true, List, Result, Ok, Err, rules}
use Rattle.mips_exec.specs.declared.exception.Exc.{Exc}
use Rattle.mips_exec.specs.Step.{access_after, decoded, fetched}
use Rattle.mips_step.specs.WordStep.{SystemWordsTrap, has_retired}
use Rattle.r3k_machine.specs.declared.machine.Machine.{Machine}
use Rattle.r3k_machine.specs.Machine.{user_step}
use Rattle.r3k_machine.specs.Memory.{row_answers}
use Rattle.r3k_machine.specs.System.{machine_step, step_by, system_word_in, table_step}
use Rattle.r3k_machine.proofs.laws.law_retired_steps.Goals as goal

by_word : SystemWordsTrap → (m : Machine) (frames : List (List ℕ)) (word : Result ℕ Exc)
    → fetched (row_answers m.cp0 m.tlb frames) m.cpu.pc ≡ word
    → has_retired (decoded m.cpu word (access_after (row_answers m.cp0 m.tlb frames) m.cpu word)) ≡ true
    → step_by m frames (system_word_in word) ≡ table_step m frames (user_step m frames)
by_word traps m frames (Err exc) at retired = refl
by_word traps m frames (Ok word) at retired = search (rules, (traps (row_answers m.cp0 m.tlb frames) m.cpu word))

in_kernel_mode : SystemWordsTrap → (m : Machine) (frames : List (List ℕ)) → has_retired (user_step m frames) ≡ true
    → step_by m frames (system_word_in (fetched (row_answers m.cp0 m.tlb frames) m.cpu.pc)) ≡ table_step m frames (user_step m frames)
in_kernel_mode traps m frames retired = by_word traps m frames (fetched (row_answers m.cp0 m.tlb frames) m.cpu.pc) refl retired

retired_steps : SystemWordsTrap → (m : Machine) (frames : List (List ℕ)) → has_retired (user_step m frames) ≡ true
    → machine_step m frames ≡ table_step m frames (user_step m frames)
retired_steps traps m frames retired = search (rules, (in_kernel_mode traps m frames retired))

pub returns : goal.returns
returns c = retired_steps c.law_system_words_trap.ensures

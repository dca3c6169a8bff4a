-- The address that a step wants is that of its miss.
use Rattle.std.proofs.Common.{◌≡◌, ◌∙◌, ap, sym, ℕ, ◌^◌, ◌%◌, ◌==◌, Bool, true, false, IfSome, List, Option, Some, None, Result, Ok, Err, arith, rules}
use Rattle.std.specs.Prelude.{◌<◌, nat_lt}
use Rattle.mips_isa.specs.Encoding.{coprocessor_of, insn_of, opcode_rows, regimm_of, regimm_rows, special_of, special_rows, system_of, system_operation_of, system_operation_rows, system_rows}
use Rattle.mips_isa.specs.Fields.{function_of, imm_of, opcode_of, rs_of, rt_of}
use Rattle.mips_isa.specs.declared.insn.Insn.{Insn}
use Rattle.mips_isa.specs.declared.insn.Insn.TheVariants.{Reserved}
use Rattle.mips_exec.specs.declared.exception.Exc.{Exc}
use Rattle.mips_exec.specs.declared.reach.Access.{Access}
use Rattle.mips_exec.specs.declared.registers.Cpu.{Cpu}
use Rattle.mips_exec.specs.Access.{Write, access, write_of}
use Rattle.mips_exec.specs.Cpu.{address_of}
use Rattle.mips_exec.specs.Effect.{effect}
use Rattle.mips_exec.specs.Step.{Answers, Called, Retired, Step, Trapped, access_after, decoded, ended, executed, fetched, named_by, outcome_of}
use Rattle.mips_step.specs.WordStep.{named_address}
use Rattle.r3k_tlb.specs.declared.row.Row.{Row}
use Rattle.r3k_cp0.specs.declared.registers.Cp0.{Cp0}
use Rattle.mips_exec.specs.Exception.{is_miss}
use Rattle.r3k_machine.specs.declared.machine.Machine.{Machine}
use Rattle.r3k_machine.specs.declared.machine.MachineEnd.TheVariants as ends
use Rattle.r3k_machine.specs.Machine.{end_of, user_step}
use Rattle.r3k_machine.specs.Memory.{row_answers}
use Rattle.r3k_machine.specs.Steps.{address_after, wanted_behind}
use Rattle.r3k_machine.proofs.Table.{finds}

-- ---- a load or store is at the address that its word names

abbrev IsNamed : Cpu → ℕ → Insn → Type 0
IsNamed cpu word insn = IfSome (access insn cpu) (λ a. named_address cpu word ≡ Some (named_by a))

at_row : (cpu : Cpu) (word op : ℕ) → (opcode_of word == op) ≡ true → nat_lt op 32 ≡ false → named_address cpu word ≡ Some (address_of cpu (rs_of word) (imm_of word))
at_row cpu word op is high = grind arith

of_regimm : (cpu : Cpu) (word : ℕ) → IsNamed cpu word (regimm_of word)
unfolding regimm_of access
of_regimm cpu word = finds (IsNamed cpu word) (rt_of word) (regimm_rows word) (Reserved word) (search rules) tt

of_operation : (cpu : Cpu) (word : ℕ) → IsNamed cpu word (system_operation_of word)
unfolding system_operation_of access
of_operation cpu word = finds (IsNamed cpu word) (word % 2 ^ 21) system_operation_rows (Reserved word) (search rules) tt

of_system : (cpu : Cpu) (word : ℕ) → IsNamed cpu word (system_of word)
unfolding system_of access
of_system cpu word = finds (IsNamed cpu word) (rs_of word) (system_rows word) (Reserved word) (search (rules, of_operation)) tt

of_special : (cpu : Cpu) (word : ℕ) → IsNamed cpu word (special_of word)
unfolding special_of access
of_special cpu word = finds (IsNamed cpu word) (function_of word) (special_rows word) (Reserved word) (search rules) tt

of_coprocessor : (cpu : Cpu) (word : ℕ) → IsNamed cpu word (coprocessor_of word)
unfolding access
of_coprocessor cpu word = search rules

is_named : (cpu : Cpu) (word : ℕ) → IsNamed cpu word (insn_of word)
unfolding insn_of access
is_named cpu word =
    finds (IsNamed cpu word) (opcode_of word) (opcode_rows word) (coprocessor_of word) (search (rules, at_row, of_special, of_regimm, of_system))
    (of_coprocessor cpu word)

-- ---- no instruction raises a miss by itself

abbrev is_missing : Step → Bool
is_missing (Retired cpu write) = false
is_missing Called = false
is_missing (Trapped exc) = is_miss exc.code

never : (insn : Insn) (cpu : Cpu) (x : ℕ) (w : Option Write) → is_missing (ended cpu (effect insn cpu x) w) ≡ false
unfolding effect
never (Reserved w) cpu x v = search rules
never _ cpu x v = search rules

-- ---- so a step that misses does so at the address that it wants

not_missing : (step : Step) (exc : Exc) → step ≡ Trapped exc → is_missing step ≡ false → is_miss exc.code ≡ true → ⊥
not_missing step exc traps other miss = let both : false ≡ true = sym other ∙ ap is_missing traps ∙ miss in cc

-- of an instruction with a load or store that is answered so, or without one
executes : (cpu : Cpu) (word : ℕ) (o : Option Access) (answer : Result ℕ Exc) (exc : Exc) → IfSome o (λ a. named_address cpu word ≡ Some (named_by a))
    → executed (insn_of word) cpu o answer ≡ Trapped exc → is_miss exc.code ≡ true → named_address cpu word ≡ Some exc.bad
executes cpu word None answer exc named traps miss = absurd (not_missing _ exc traps (never (insn_of word) cpu 0 None) miss)
executes cpu word (Some a) (Ok x) exc named traps miss = absurd (not_missing _ exc traps (never (insn_of word) cpu x (write_of a)) miss)
executes cpu word (Some a) (Err other) exc named traps miss = search rules

-- of what was fetched
decodes : (answers : Answers) (cpu : Cpu) (word : Result ℕ Exc) (exc : Exc)
    → decoded cpu word (access_after answers cpu word) ≡ Trapped exc → is_miss exc.code ≡ true → address_after cpu word ≡ Some exc.bad
decodes answers cpu (Err other) exc traps miss = search rules
decodes answers cpu (Ok word) exc traps miss =
    executes cpu word (access (insn_of word) cpu) (access_after answers cpu (Ok word)) exc (is_named cpu word) traps miss

-- a step that ends as a refill is an exception by a miss
refilled : (cp0 : Cp0) (rows : List Row) (step : Step) (exc : Exc) → end_of cp0 rows (outcome_of step) ≡ ends.Refill exc → (step ≡ Trapped exc) × (is_miss exc.code ≡ true)
refilled cp0 rows step exc end = search rules

-- of the machine's step behind so many, of at most so many
pub wants : (made most : ℕ) (m : Machine) (frames : List (List ℕ)) (exc : Exc) → made < most
    → end_of m.cp0 m.tlb (outcome_of (user_step m frames)) ≡ ends.Refill exc
    → wanted_behind made most m.cp0 m.tlb (record { cpu = m.cpu; frames = frames }) ≡ Some exc.bad
wants made most m frames exc more end =
    let answers = row_answers m.cp0 m.tlb frames in
    let trap = refilled m.cp0 m.tlb (user_step m frames) exc end in
    let at = decodes answers m.cpu (fetched answers m.cpu.pc) exc trap.0 trap.1 in
    search (rules, more, at)

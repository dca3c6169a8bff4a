-- The steps by which the kernel is entered.
use Rattle.std.proofs.Common.{◌≡◌, ◌∙◌, ap, refl, ℕ, ◌%◌, ◌^◌, ◌==◌, Bool, true, false, IfSome, List, Option, Some, None, Result, Ok, Err, arith, rules, subst, sym}
use Rattle.std.specs.Prelude.{nat_lt, if◌then◌else◌, IsSome}
use Rattle.std.proofs.lemmas.Bool.{eqb-true}
use Rattle.mips_isa.specs.Encoding.{coprocessor_of, insn_of, opcode_rows, regimm_of, regimm_rows, special_of, special_rows, system_of, system_operation_of, system_operation_rows, system_rows}
use Rattle.mips_isa.specs.Fields.{code_of, function_of, opcode_of, rs_of, rt_of}
use Rattle.mips_isa.specs.declared.insn.Insn.{Insn}
use Rattle.mips_isa.specs.declared.insn.Insn.TheVariants.{Break, Reserved, Syscall}
use Rattle.mips_exec.specs.declared.exception.ExcCode.TheVariants.{Bp}
use Rattle.mips_exec.specs.declared.exception.Exc.{Exc}
use Rattle.mips_exec.specs.declared.reach.Access.{Access}
use Rattle.mips_exec.specs.declared.registers.Cpu.{Cpu}
use Rattle.mips_exec.specs.Access.{Write, access, write_of}
use Rattle.mips_exec.specs.Effect.{effect}
use Rattle.mips_exec.specs.Exception.{plain}
use Rattle.mips_exec.specs.Step.{Answers, Trapped, access_after, accessed, answered, answered_if, decoded, ended, executed, fetched}
use Rattle.mips_step.specs.WordStep.{SyscallsCall, fetched_step}
use Rattle.r3k_tlb.specs.declared.row.Row.{Row}
use Rattle.r3k_cp0.specs.declared.registers.Cp0.{Cp0}
use Rattle.mips_exec.specs.declared.access_kind.AccessKind.{AccessKind}
use Rattle.r3k_machine.specs.declared.machine.Machine.{Machine}
use Rattle.r3k_machine.specs.declared.entry.Entry.{Entry}
use Rattle.r3k_machine.specs.declared.entry.Entry.TheVariants as entries
use Rattle.r3k_machine.specs.Entry.{came_by, entry_at, entry_by, entry_in, entry_of, entry_raised, is_break, next_entry}
use Rattle.r3k_machine.specs.Machine.{user_step}
use Rattle.r3k_machine.specs.Memory.{row_answers}
use Rattle.r3k_machine.specs.Steps.{Running, address_after, entry_behind, wanted_behind}
use Rattle.r3k_machine.specs.Translation.{reached_page}
use Rattle.r3k_machine.proofs.Table.{finds}

named : (word : ℕ) → is_break word ≡ true → insn_of word ≡ Break (code_of word)
unfolding insn_of special_of
named word is = search (rules, is)

-- that of an instruction that is BREAK
broken : (answers : Answers) (cpu : Cpu) (insn : Insn) (code : ℕ) → insn ≡ Break code
    → executed insn cpu (access insn cpu) (answered_if answers (access insn cpu)) ≡ Trapped (plain Bp)
unfolding access effect
broken answers cpu insn code is = search (rules, is)

-- the step of BREAK
breaks : (answers : Answers) (cpu : Cpu) (word : ℕ) → is_break word ≡ true → fetched_step answers cpu word ≡ Trapped (plain Bp)
breaks answers cpu word is = broken answers cpu (insn_of word) (code_of word) (named word is)

-- so is the step of what was fetched, where its word says so
comes : SyscallsCall → (answers : Answers) (cpu : Cpu) (word : Result ℕ Exc)
    → IfSome (entry_of cpu word) (λ entry. decoded cpu word (access_after answers cpu word) ≡ came_by entry)
comes law answers cpu (Err exc) = search rules
comes law answers cpu (Ok word) = search (rules, law, breaks)

-- ---- no other step does so

-- what is raised isn't BREAK's exception
abbrev RaisesOther : {A : Type 0} → Result A Exc → Type 0
RaisesOther (Ok x) = Unit {0}
RaisesOther (Err exc) = entry_raised exc.code ≡ None

-- so it is with what an access of the machine raises
reached : (cp0 : Cp0) (rows : List Row) (pages : ℕ) (kind : AccessKind) (address : ℕ) → RaisesOther (reached_page cp0 rows pages kind address)
reached cp0 rows pages kind address = search rules

answer : (cp0 : Cp0) (rows : List Row) (frames : List (List ℕ)) (a : Access) → RaisesOther (answered (row_answers cp0 rows frames) a)
unfolding row_answers
answer cp0 rows frames a = search (rules, reached)

fetch : (cp0 : Cp0) (rows : List Row) (frames : List (List ℕ)) (pc : ℕ) → RaisesOther (fetched (row_answers cp0 rows frames) pc)
unfolding row_answers
fetch cp0 rows frames pc = search (rules, reached)

-- by what an instruction enters the kernel
abbrev entry_by_insn : Bool → Insn → Option Entry
entry_by_insn slot (Syscall code) = if slot then None else Some entries.Call
entry_by_insn slot (Break code) = Some entries.Break
entry_by_insn slot _ = None

-- it isn't entered by this one
abbrev IsQuiet : Bool → Insn → Type 0
IsQuiet slot insn = entry_by_insn slot insn ≡ None

of_regimm : (slot : Bool) (word : ℕ) → IsQuiet slot (regimm_of word)
unfolding regimm_of
of_regimm slot word = finds (IsQuiet slot) (rt_of word) (regimm_rows word) (Reserved word) (search rules) refl

of_operation : (slot : Bool) (word : ℕ) → IsQuiet slot (system_operation_of word)
unfolding system_operation_of
of_operation slot word = finds (IsQuiet slot) (word % 2 ^ 21) system_operation_rows (Reserved word) (search rules) refl

of_system : (slot : Bool) (word : ℕ) → IsQuiet slot (system_of word)
unfolding system_of
of_system slot word = finds (IsQuiet slot) (rs_of word) (system_rows word) (Reserved word) (search (rules, of_operation)) refl

of_coprocessor : (slot : Bool) (word : ℕ) → IsQuiet slot (coprocessor_of word)
of_coprocessor slot word = search rules

-- of opcode 0, SYSCALL and BREAK alone enter it
of_special : (slot : Bool) (word : ℕ) → (function_of word == 12) ≡ false → (function_of word == 13) ≡ false → IsQuiet slot (special_of word)
unfolding special_of
of_special slot word call break = finds (IsQuiet slot) (function_of word) (special_rows word) (Reserved word) (search (rules, call, break)) refl

special : (word : ℕ) → opcode_of word ≡ 0 → insn_of word ≡ special_of word
unfolding insn_of
special word zero = rw zero

calls : (word : ℕ) → function_of word ≡ 12 → special_of word ≡ Syscall (code_of word)
unfolding special_of
calls word is = rw is

breaks_off : (word : ℕ) → function_of word ≡ 13 → special_of word ≡ Break (code_of word)
unfolding special_of
breaks_off word is = rw is

of_others : (slot : Bool) (word : ℕ) → (opcode_of word == 0) ≡ false → IsQuiet slot (insn_of word)
unfolding insn_of
of_others slot word other =
    finds (IsQuiet slot) (opcode_of word) (opcode_rows word) (coprocessor_of word) (search (rules, other, of_regimm, of_system)) (of_coprocessor slot word)

-- the word tells it
by_function : (slot : Bool) (word : ℕ) → opcode_of word ≡ 0 → (call break : Bool) → (function_of word == 12) ≡ call → (function_of word == 13) ≡ break
    → entry_by_insn slot (special_of word) ≡ entry_by slot word
by_function slot word zero true break is other = ap (entry_by_insn slot) (calls word (eqb-true _ _ is)) ∙ grind (arith, zero, is)
by_function slot word zero false true other is = ap (entry_by_insn slot) (breaks_off word (eqb-true _ _ is)) ∙ grind (arith, zero, is)
by_function slot word zero false false other neither = of_special slot word other neither ∙ grind (arith, zero, other, neither)

by_opcode : (slot : Bool) (word : ℕ) (zero : Bool) → (opcode_of word == 0) ≡ zero → entry_by_insn slot (insn_of word) ≡ entry_by slot word
by_opcode slot word true is =
    ap (entry_by_insn slot) (special word (eqb-true _ _ is))
    ∙ by_function slot word (eqb-true _ _ is) (function_of word == 12) (function_of word == 13) refl refl
by_opcode slot word false other = of_others slot word other ∙ grind (arith, other)

spelled : (slot : Bool) (word : ℕ) → entry_by_insn slot (insn_of word) ≡ entry_by slot word
spelled slot word = by_opcode slot word (opcode_of word == 0) refl

-- an instruction without a load or store
plainly : (insn : Insn) (cpu : Cpu) → access insn cpu ≡ None → entry_in (ended cpu (effect insn cpu 0) None) ≡ entry_by_insn cpu.slot insn
unfolding access effect
plainly (Reserved w) cpu none = search rules
plainly _ cpu none = search rules

-- an instruction with one
accessing : (insn : Insn) (cpu : Cpu) (a : Access) (x : ℕ) (w : Option Write) → access insn cpu ≡ Some a
    → (entry_in (ended cpu (effect insn cpu x) w) ≡ None) × (entry_by_insn cpu.slot insn ≡ None)
unfolding access effect
accessing (Reserved w) cpu a x v some = search rules
accessing _ cpu a x v some = search rules

-- so the step of an instruction, over what memory answers, tells by what it enters the kernel
executes : (cp0 : Cp0) (rows : List Row) (frames : List (List ℕ)) (cpu : Cpu) (insn : Insn) (o : Option Access) → access insn cpu ≡ o
    → entry_in (executed insn cpu o (answered_if (row_answers cp0 rows frames) o)) ≡ entry_by_insn cpu.slot insn
executes cp0 rows frames cpu insn None none = plainly insn cpu none
executes cp0 rows frames cpu insn (Some a) some = by_answer (answered (row_answers cp0 rows frames) a) (answer cp0 rows frames a)
  where
    by_answer : (r : Result ℕ Exc) → RaisesOther r → entry_in (accessed insn cpu a r) ≡ entry_by_insn cpu.slot insn
    by_answer (Ok x) other = (accessing insn cpu a x (write_of a) some).0 ∙ sym (accessing insn cpu a x (write_of a) some).1
    by_answer (Err exc) other = other ∙ sym (accessing insn cpu a 0 None some).1

-- and that of what was fetched
decodes : (cp0 : Cp0) (rows : List Row) (frames : List (List ℕ)) (cpu : Cpu) (word : Result ℕ Exc) → RaisesOther word
    → entry_in (decoded cpu word (access_after (row_answers cp0 rows frames) cpu word)) ≡ entry_of cpu word
decodes cp0 rows frames cpu (Err exc) other = other
decodes cp0 rows frames cpu (Ok word) other =
    executes cp0 rows frames cpu (insn_of word) (access (insn_of word) cpu) refl ∙ spelled cpu.slot word

-- ---- the machine's step

-- in user mode, by what it is said to enter the kernel
pub entered : SyscallsCall → (m : Machine) (frames : List (List ℕ)) → IfSome (entry_at m frames) (λ entry. user_step m frames ≡ came_by entry)
entered law m frames = comes law (row_answers m.cp0 m.tlb frames) m.cpu (fetched (row_answers m.cp0 m.tlb frames) m.cpu.pc)

-- it is said of each step that does
pub entry_is : (m : Machine) (frames : List (List ℕ)) → entry_at m frames ≡ entry_in (user_step m frames)
entry_is m frames =
    let word = fetched (row_answers m.cp0 m.tlb frames) m.cpu.pc in
    sym (decodes m.cp0 m.tlb frames m.cpu word (fetch m.cp0 m.tlb frames m.cpu.pc))

-- the same behind steps, of at most so many
pub entered_behind : SyscallsCall → (made most : ℕ) (m : Machine) (frames : List (List ℕ)) (o : Option Entry)
    → o ≡ entry_behind made most m.cp0 m.tlb (record { cpu = m.cpu; frames = frames }) → IfSome o (λ entry. user_step m frames ≡ came_by entry)
entered_behind law made most m frames o is = by_test (nat_lt made most) is
  where
    by_test : (t : Bool) → o ≡ (if t then entry_at m frames else None) → IfSome o (λ entry. user_step m frames ≡ came_by entry)
    by_test true here = subst (λ (x : Option Entry). IfSome x (λ entry. user_step m frames ≡ came_by entry)) (sym here) (entered law m frames)
    by_test false none = search (rules, none)

pub entry_behind_is : (made most : ℕ) (m : Machine) (frames : List (List ℕ))
    → entry_behind made most m.cp0 m.tlb (record { cpu = m.cpu; frames = frames }) ≡ next_entry made most (user_step m frames)
entry_behind_is made most m frames = ap (λ (o : Option Entry). if nat_lt made most then o else None) (entry_is m frames)

-- a word by which the kernel is entered names no address
unnamed : (cpu : Cpu) (word : Result ℕ Exc) → IsSome (address_after cpu word) → entry_of cpu word ≡ None
unnamed cpu (Ok word) some = grind arith
unnamed cpu (Err exc) some = refl

pub wants_or_enters : (made most : ℕ) (cp0 : Cp0) (rows : List Row) (s : Running) → IsSome (wanted_behind made most cp0 rows s) → entry_behind made most cp0 rows s ≡ None
wants_or_enters made most cp0 rows s some = search (rules, unnamed)

-- A step by which the program enters the kernel is the runner's, and changes neither registers nor memory.
use Rattle.std.proofs.Common.{◌≡◌, ap, sym, ◌∙◌, refl, arith, ℕ, List, Option, Some, subst}
use Rattle.std.specs.Prelude.{IfSome, if◌then◌else◌, is_some}
use Rattle.mips_exec.specs.declared.registers.Cpu.{Cpu}
use Rattle.mips_exec.specs.Step.{cpu_after, outcome_of, write_after}
use Rattle.r3k_tlb.specs.declared.row.Row.{Row}
use Rattle.r3k_cp0.specs.declared.registers.Cp0.{Cp0}
use Rattle.r3k_machine.specs.declared.entry.Entry.{Entry}
use Rattle.r3k_machine.specs.declared.entry.Entry.TheVariants.{Break, Call}
use Rattle.r3k_machine.specs.declared.machine.Machine.{Machine}
use Rattle.r3k_machine.specs.Entry.{came_by}
use Rattle.r3k_machine.specs.Machine.{after_attempts, end_of, user_step}
use Rattle.r3k_machine.specs.Memory.{frames_written}
use Rattle.aegis_calls.proofs.Attempts.{IsMade, attempt_made, attempted_as_shown, entry_end, if_some, made_of}
use Rattle.aegis_calls.proofs.Runner.{runner_live, seen}
use Rattle.aegis_calls.proofs.board.Board.try_entry.Goals as goal

registers_stay : (cpu : Cpu) (entry : Entry) → cpu ≡ cpu_after cpu (came_by entry)
registers_stay cpu Call = refl
registers_stay cpu Break = refl

memory_stays : (cp0 : Cp0) (rows : List Row) (frames : List (List ℕ)) (entry : Entry) → frames ≡ frames_written cp0 rows frames (write_after (came_by entry))
unfolding frames_written
memory_stays cp0 rows frames Call = refl
memory_stays cp0 rows frames Break = refl

module _ (c : goal.After-attempt_entry) (entry : Entry) (is : c.attempt_entry.result ≡ Some entry) where
  came : user_step c.set_user.new.self c.self.inside.frames ≡ came_by entry
  came = subst (λ (o : Option Entry). IfSome o (λ e. user_step c.set_user.new.self c.self.inside.frames ≡ came_by e)) is c.attempt_entry.ensures.came

  -- the machine behind it
  machine_is : c.attempt_entry.new.self ≡ record c.set_user.new.self { cp0 = after_attempts 1 c.set_user.new.self.cp0 }
  machine_is =
      c.attempt_entry.ensures.machine
      ∙ ap (λ (o : Option Entry). if is_some o then record c.set_user.new.self { cp0 = after_attempts 1 c.set_user.new.self.cp0 } else c.set_user.new.self) is

  made_entry : IsMade (seen c.self.view_is) c.args.env c.set_user.new.self c.attempt_entry.new.self c.self.inside.frames
  made_entry =
      made_of (seen c.self.view_is) c.args.env c.self.inside.machine c.set_user.new.self c.attempt_entry.new.self c.self.inside.frames refl refl refl c.self.invariant
      (omega (arith, (runner_live c.self.view_is c.self.invariant c.requires).0, c.self.invariant.few))
      c.set_user.ensures.machine c.set_user.ensures.user c.set_user.ensures.pid
      (ap (λ (x : Machine). x.cpu) machine_is ∙ registers_stay c.set_user.new.self.cpu entry ∙ sym (ap (cpu_after c.set_user.new.self.cpu) came))
      (memory_stays c.set_user.new.self.cp0 c.set_user.new.self.tlb c.self.inside.frames entry
      ∙ sym (ap (λ st. frames_written c.set_user.new.self.cp0 c.set_user.new.self.tlb c.self.inside.frames (write_after st)) came))
      (ap (λ (x : Machine). x.tlb) machine_is)
      (ap (λ (x : Machine). x.cp0) machine_is)

pub returns-clause-entry : goal.returns-clause-entry
returns-clause-entry c = if_some c.attempt_entry.result (λ entry is.
    attempted_as_shown c.self.view_is
    (attempt_made (seen c.self.view_is) c.args.env c.set_user.new.self c.attempt_entry.new.self c.self.inside.frames (made_entry c entry is) (outcome_of (came_by entry))
    (ap (λ st. end_of c.set_user.new.self.cp0 c.set_user.new.self.tlb (outcome_of st)) (came c entry is) ∙ entry_end c.set_user.new.self.cp0 c.set_user.new.self.tlb entry)))

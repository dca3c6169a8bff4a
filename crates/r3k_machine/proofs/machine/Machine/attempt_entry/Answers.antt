-- By what the next step enters the kernel.
use Rattle.std.proofs.Common.{◌≡◌, ◌∙◌, subst, sym, Option, IfSome}
use Rattle.r3k_machine.specs.declared.entry.Entry.{Entry}
use Rattle.r3k_machine.specs.Entry.{came_by}
use Rattle.r3k_machine.specs.Machine.{user_step}
use Rattle.r3k_machine.proofs.Entering.{entered, entry_is}
use Rattle.r3k_machine.proofs.machine.Machine.attempt_entry.Goals as goal

pub returns-then-is_some-clause-at : goal.returns-then-is_some-clause-at
returns-then-is_some-clause-at c = c.entry_at-entry.ensures ∙ entry_is c.args.self.now c.args.frames.now

pub returns-then-is_some-clause-came : goal.returns-then-is_some-clause-came
returns-then-is_some-clause-came c =
    subst (λ (o : Option Entry). IfSome o (λ entry. user_step c.args.self.now c.args.frames.now ≡ came_by entry)) (sym c.entry_at-entry.ensures)
    (entered c.law_syscalls_call.ensures c.args.self.now c.args.frames.now)

pub returns-else-is_some-clause-at : goal.returns-else-is_some-clause-at
returns-else-is_some-clause-at c = c.entry_at-entry.ensures ∙ entry_is c.args.self.now c.args.frames.now

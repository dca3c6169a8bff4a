use Rattle.std.proofs.Common.{◌≡◌, ◌∙◌, refl, rules, subst, sym}
use Rattle.std.specs.Prelude.{IsSome}
use Rattle.r3k_machine.specs.declared.machine.Machine.{Machine}
use Rattle.r3k_machine.specs.Steps.{entry_behind, wanted_behind}
use Rattle.r3k_machine.proofs.Entering.{entered_behind, entry_behind_is, wants_or_enters}
use Rattle.r3k_machine.proofs.Wanting.{wants}
use Rattle.r3k_machine.proofs.Written.{entry_without_random, random_is_unasked, wanted_without_random}
use Rattle.r3k_machine.proofs.machine.Machine.run.Goals as goal

abbrev machine_now : (c : goal.After-fall_times) → Machine
machine_now c = record { cpu = c.run_rows-steps.new.cpu; tlb = c.args.self.now.tlb; cp0 = record c.args.self.now.cp0 { random = c.fall_times.new.self } }

entry_here : (c : goal.After-fall_times) → c.run_rows-steps.result.entry ≡ entry_behind c.run_rows-steps.result.made c.args.most (machine_now c).cp0 (machine_now c).tlb (record { cpu = c.run_rows-steps.new.cpu; frames = c.run_rows-steps.new.frames })
entry_here c =
    c.run_rows-steps.ensures.entry
    ∙ sym (entry_without_random c.fall_times.new.self c.run_rows-steps.result.made c.args.most c.args.self.now.cp0 c.args.self.now.tlb (record { cpu = c.run_rows-steps.new.cpu; frames = c.run_rows-steps.new.frames }))

wanted : (c : goal.After-fall_times) → c.run_rows-steps.result.wanted ≡ wanted_behind c.run_rows-steps.result.made c.args.most (machine_now c).cp0 (machine_now c).tlb (record { cpu = c.run_rows-steps.new.cpu; frames = c.run_rows-steps.new.frames })
wanted c =
    c.run_rows-steps.ensures.wanted
    ∙ sym (wanted_without_random c.fall_times.new.self c.run_rows-steps.result.made c.args.most c.args.self.now.cp0 c.args.self.now.tlb (record { cpu = c.run_rows-steps.new.cpu; frames = c.run_rows-steps.new.frames }))

pub returns : goal.returns
returns c = record {
  machine = c.run_rows-steps.ensures.machine;
  retire = c.run_rows-steps.ensures.retire;
  most = c.run_rows-steps.ensures.most;
  stop = search (rules, random_is_unasked);
  wanted = wanted c;
  missed = λ exc more end. wanted c ∙ wants c.run_rows-steps.result.made c.args.most (machine_now c) c.run_rows-steps.new.frames exc more end;
  entry = entry_here c ∙ entry_behind_is c.run_rows-steps.result.made c.args.most (machine_now c) c.run_rows-steps.new.frames;
  came =
      entered_behind c.law_syscalls_call.ensures c.run_rows-steps.result.made c.args.most (machine_now c)
      c.run_rows-steps.new.frames c.run_rows-steps.result.entry (entry_here c);
  apart = λ some.
      c.run_rows-steps.ensures.entry
      ∙ wants_or_enters c.run_rows-steps.result.made c.args.most c.args.self.now.cp0 c.args.self.now.tlb (record { cpu = c.run_rows-steps.new.cpu; frames = c.run_rows-steps.new.frames })
      (subst IsSome c.run_rows-steps.ensures.wanted some);
  size = c.run_rows-steps.ensures.size;
  rows = refl;
  cp0 = search rules;
}

use Rattle.std.proofs.Common.{arith, rules, ◌∙◌}
use Rattle.mips_step.specs.Live.{joined}
use Rattle.r3k_machine.specs.Steps.{Running}
use Rattle.r3k_machine.proofs.MoreSteps.{after_more, all_more, has_moved}
use Rattle.r3k_machine.proofs.run.run_rows.Goals as goal

pub loop-made-preserved : goal.loop-made-preserved
loop-made-preserved c = search (rules, after_more, all_more)

pub loop-made-smaller : goal.loop-made-smaller
loop-made-smaller c = grind (arith, has_moved)

pub returns-then-is_some-clause-machine : goal.returns-then-is_some-clause-machine
returns-then-is_some-clause-machine c =
    let first : Running = record { cpu = c.args.cpu.now; frames = c.args.frames.now } in
    let before : Running = record { cpu = joined c.loop-made.live; frames = c.loop-made.frames } in
    let ran = c.run_page-steps.ensures.machine ∙ after_more c.args.cp0.now c.args.tlb.now first before c.loop-made.made c.run_page-steps.result.made c.loop-made.invariant.machine in
    search (rules, ran)

pub returns-then-is_some-clause-retire : goal.returns-then-is_some-clause-retire
returns-then-is_some-clause-retire c =
    let first : Running = record { cpu = c.args.cpu.now; frames = c.args.frames.now } in
    let before : Running = record { cpu = joined c.loop-made.live; frames = c.loop-made.frames } in
    all_more c.args.cp0.now c.args.tlb.now first before c.loop-made.made c.run_page-steps.result.made c.loop-made.invariant.machine c.loop-made.invariant.retire c.run_page-steps.ensures.retire

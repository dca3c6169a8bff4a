-- A step has at most two refills.
use Rattle.std.proofs.Common.{arith, refl}
use Rattle.board_model.proofs.Refills.{third_ends}
use Rattle.aegis_calls.proofs.Runner.{runner_there}
use Rattle.aegis_calls.proofs.board.Board.run_machine.Goals as goal

pub unwrap-requires : goal.unwrap-requires
unwrap-requires c =
    third_ends c.args.self.now c.try_step.new.self c.try_step-2.new.self c.try_step-3.new.self c.args.env c.try_step-3.result
    (omega (arith, (runner_there refl c.law_sound.ensures c.requires), c.law_sound.ensures.few)) c.law_tlb.ensures
    c.in_default.ensures c.in_default-try_step.ensures c.try_step-3.ensures

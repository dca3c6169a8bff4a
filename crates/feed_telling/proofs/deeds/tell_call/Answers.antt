-- The answer is told, and then what comes behind it.
use Rattle.std.proofs.Common.{◌≡◌, sym, ◌∙◌, ap}
use Rattle.mips_exec.specs.declared.registers.Cpu.{Cpu}
use Rattle.mips_exec.specs.Cpu.{reg}
use Rattle.world_model.specs.declared.verdict.Verdict.{Verdict}
use Rattle.world_model.specs.Call.{called, call_named}
use Rattle.world_model.specs.Verdict.{reply_by_verdict, verdict}
use Rattle.feed_telling.proofs.Telling.{on_ok, told_as, told_both}
use Rattle.feed_telling.proofs.Acting.{answered}
use Rattle.feed_telling.proofs.deeds.tell_call.Goals as goal

pub returns : goal.returns
returns g c =
    let w = g.V.FeedView.world c.args.view.now in
    let cpu = (w.solos c.args.runner).cpu in
    let is : c.verdict-verdict.result ≡ verdict w c.args.runner (called cpu) = c.verdict-verdict.ensures ∙ ap (verdict w c.args.runner) (c.named-call.ensures ∙ ap call_named (c.reg.ensures ∙ ap (λ (x : Cpu). reg x 2) c.runner_registers.ensures)) in
    on_ok c.tell_behind_answer.result (λ told. told_as _ _ _ _ (sym (answered w c.args.runner c.args.watched c.verdict-verdict.result) ∙ ap (λ (v : Verdict). (reply_by_verdict w c.args.runner v).items c.args.watched) is) (told_both _ _ _ _ _ c.in_ok-tell_own_answer.ensures told)) c.tell_behind_answer.ensures

use Rattle.std.proofs.Common.{ℕ, ◌≡◌, ◌+◌, ◌-◌, ◌∙◌, arith, length, length-drop, length-take, subst}
use Rattle.edge_io.proofs.AppendsLemmas.{Appends-rest}
use Rattle.edge_io.proofs.whole.write_whole.Goals as goal

pub loop-done-preserved : goal.loop-done-preserved
loop-done-preserved g c =
    let bytes = c.args.bytes.now in
    let done = c.loop-done.done in
    let n = c.in_ok-done.field-0 in
    let taken = c.in_ok-done.ensures in
    let before = c.loop-done.invariant in
    let same : length bytes - done - n ≡ length bytes - (done + n) = omega arith in
    record {
      within = omega (arith, length-drop {A = ℕ}, length-take {A = ℕ});
      appended = Appends-rest _ _ _ bytes _ _ before.appended taken.appended;
      no_fault = taken.no_fault ∙ before.no_fault;
      sure = λ takes. subst (g.K.Sink.Takes c.write.new.self) same (taken.sure_of_rest _ (before.sure takes));
    }

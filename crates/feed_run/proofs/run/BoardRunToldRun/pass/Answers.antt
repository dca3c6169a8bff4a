-- A tick in which no slice ended, and then plain ticks.
use Rattle.std.proofs.Common.{Bool, false, subst}
use Rattle.feed_run.specs.declared.run.BoardRun.{BoardRun}
use Rattle.feed_run.specs.Whole.{WentATick, progress_of}
use Rattle.feed_run.proofs.Passing.{both_went}
use Rattle.feed_run.proofs.run.BoardRunToldRun.pass.Goals as goal

pub returns-in_ok-make_plain_ticks-clause-passed : goal.returns-in_ok-make_plain_ticks-clause-passed
returns-in_ok-make_plain_ticks-clause-passed c =
    let p = progress_of c.args.self.now in
    let q = progress_of c.make_tick.new.self in
    let r = progress_of c.make_plain_ticks.new.self in
    let tick = subst (λ (ended : Bool). WentATick (progress_of c.drop_read.new.self) q ended) c.if-not-branch.true c.in_ok-make_tick.ensures.went in
    let first = subst (λ (run : BoardRun). WentATick (progress_of run) q false) c.drop_read.ensures tick in
    both_went p q r first c.in_ok-make_plain_ticks.ensures.went

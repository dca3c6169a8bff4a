use Rattle.std.proofs.Common.{ℕ, ◌≡◌, ◌<◌, ◌∙◌, ap, arith, subst, sym}
use Rattle.std.proofs.Common.{true}
use Rattle.world_model.specs.World.{World}
use Rattle.run_model.specs.Run.{world_after}
use Rattle.twin_run.specs.Answer.{is_there}
use Rattle.feed_log.specs.Progress.{IsOver, Passed, Progress, ended}
use Rattle.twin_run.specs.Course.{FellShort}
use Rattle.twin_run.proofs.Presence.{is_absent, is_present}
use Rattle.twin_run.proofs.Runs.{absent_short, end_reached, over_short, short_same}
use Rattle.twin_run.proofs.course.slices_short.Goals as goal

-- an environment below the count is there at each time
at_each : (p q : Progress) (env count : ℕ) (shown : World) → count ≡ shown.count → shown ≡ world_after p.system p.ticks → p.env ≡ env → env < count → q.system ≡ p.system → q.env ≡ p.env → is_there q.system q.env ≡ true
at_each p q env count shown counts shows is less systems envs =
    let all : count ≡ (world_after p.system p.ticks).count = counts ∙ ap (λ (w : World). w.count) shows in
    ap (λ s. is_there s q.env) systems ∙ ap (is_there p.system) envs ∙ is_present p.system p.env p.ticks (omega (arith, all, is, less))

pub returns-then-env-envs-clause-ended : goal.returns-then-env-envs-clause-ended
returns-then-env-envs-clause-ended g c =
    let p = g.R.ToldRun.progress c.args.run.now in
    let count : c.envs.result ≡ (world_after p.system p.ticks).count = c.envs.ensures ∙ ap (λ (w : World). w.count) c.view.ensures in
    absent_short c.args.slices p (is_absent p.system p.env p.ticks (omega (arith, count, c.if-env-envs.true, c.requires.env)))

pub returns-then-not-branch-clause-ended : goal.returns-then-not-branch-clause-ended
returns-then-not-branch-clause-ended g c =
    let p = g.R.ToldRun.progress c.args.run.now in
    let q = g.R.ToldRun.progress c.loop-run.run in
    let went = c.loop-run.invariant.1 in
    let passed = subst (Passed (g.R.ToldRun.progress c.clear.new.self) (g.R.ToldRun.progress c.pass.new.self)) c.if-not-branch.true c.in_ok-pass.ensures.passed in
    let same : c.slices-then-not-branch.result ≡ ended q = c.slices-then-not-branch.ensures ∙ ap ended passed.0 ∙ ap ended c.clear.ensures.read in
    let over : IsOver q = subst IsOver c.clear.ensures.read passed.1 in
    subst (FellShort c.args.slices p) (sym same)
    (short_same c.args.slices p q (ended q) went.system went.env
    (over_short c.args.slices q went.under_way (at_each p q c.args.env c.envs.result (g.R.View.WorldView.world c.view.result.now) c.envs.ensures c.view.ensures c.requires.env c.if-env-envs.false went.system went.env) (omega (arith, c.slices.ensures, c.loop-run-test.true)) over))

pub returns-clause-ended : goal.returns-clause-ended
returns-clause-ended g c =
    let p = g.R.ToldRun.progress c.args.run.now in
    let q = g.R.ToldRun.progress c.loop-run.run in
    let went = c.loop-run.invariant.1 in
    end_reached c.args.slices p q went
    (at_each p q c.args.env c.envs.result (g.R.View.WorldView.world c.view.result.now) c.envs.ensures c.view.ensures c.requires.env c.if-env-envs.false went.system went.env)
    (omega (arith, c.slices.ensures, c.loop-run-test.false))

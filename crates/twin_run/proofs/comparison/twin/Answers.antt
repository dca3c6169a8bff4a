use Rattle.std.proofs.Common.{◌≡◌, IfOk, Result, Ok, Err, ap, subst, sym}
use Rattle.run_model.specs.Run.{world_after}
use Rattle.run_report.specs.Report.{env_text}
use Rattle.feed_log.specs.Progress.{Progress}
use Rattle.twin_run.specs.Course.{IsDifference, settled}
use Rattle.twin_run.specs.Law.{IsSameWhereEqual}
use Rattle.twin_run.proofs.Fronts.{same_where_equal}
use Rattle.twin_run.proofs.comparison.twin.Goals as goal

-- what holds of a value holds of what is it
of_value : {A E : Type 0} (P : A → Type 0) (x : A) (r : Result A E) → P x → IfOk r (λ a. a ≡ x) → IfOk r P
of_value P x (Ok a) holds is = subst P (sym is) holds
of_value P x (Err e) holds is = tt

pub returns-clause-equal : goal.returns-clause-equal
returns-clause-equal g c =
    let n = c.args.slices in
    let left = g.R.ToldRun.progress c.args.left.now in
    let right = g.R.ToldRun.progress c.args.right.now in
    let p = g.R.ToldRun.progress c.slices_short.new.run in
    let lines = env_text (world_after p.system p.ticks) c.args.env in
    let d = c.in_ok-difference.difference in
    let is = subst (λ e. IsDifference left.system right.system e n d) (ap (λ (r : Progress). r.env) c.requires.left) c.in_ok-difference.ensures.difference in
    of_value (IsSameWhereEqual left.system right.system c.args.env n) (settled lines d) c.settle.result
    (same_where_equal left.system right.system c.args.env n lines d is) c.settle.ensures

use Rattle.std.proofs.Common.{◌≡◌, IfOk, Result, Ok, Err, ap, subst, sym}
use Rattle.feed_log.specs.Progress.{Progress}
use Rattle.twin_run.specs.Course.{IsDifference, difference_at, front}
use Rattle.twin_run.proofs.Fronts.{is_difference}
use Rattle.twin_run.proofs.comparison.first_difference.Goals as goal

-- what holds of a value holds of what is it
of_value : {A E : Type 0} (P : A → Type 0) (x : A) (r : Result A E) → P x → IfOk r (λ a. a ≡ x) → IfOk r P
of_value P x (Ok a) holds is = subst P (sym is) holds
of_value P x (Err e) holds is = tt

pub returns-clause-difference : goal.returns-clause-difference
returns-clause-difference g c =
    let n = c.args.slices in
    let left = g.R.ToldRun.progress c.args.left.now in
    let right = g.R.ToldRun.progress c.args.right.now in
    let p = g.R.ToldRun.progress c.read_same.new.left in
    let q = g.R.ToldRun.progress c.read_same.new.right in
    of_value (IsDifference left.system right.system left.env n) (difference_at c.in_ok-index.index (front p) (front q)) c.next_difference.result
    (is_difference n left right p q c.in_ok-index.index c.in_ok-index.ensures.apart (ap (λ (r : Progress). r.env) c.requires.right))
    c.next_difference.ensures

use Rattle.std.proofs.Common.{◌+◌, subst, sym, take, arith}
use Rattle.run_report.specs.Sums.{AreSums}
use Rattle.run_report.proofs.Counting.{no_sums, run_counted, pay_counted, over_counted, none_counted}
use Rattle.run_report.proofs.sums.Sums.of.Goals.{in-Run, in-Pay, in-Over, in_default}
use Rattle.run_report.proofs.sums.Sums.of.Goals as goal

pub loop-row-init : goal.loop-row-init
loop-row-init c = no_sums

pub loop-row-preserved : goal.loop-row-preserved
loop-row-preserved c =
    let rows = c.args.rows.now in
    let i = c.loop-row.row-index in
    let s = c.loop-row.sums in
    let within = c.loop-row-test.true in
    let has = c.loop-row.invariant in
    elim c.match-row.branch [
      | in-Run w ↦ subst (AreSums (take (i + 1) rows)) (sym w.sums-is) (run_counted rows i _ s within has _ _ _ _ w.from.ensures (omega arith) w.in-Run.is)
      | in-Pay w ↦ subst (AreSums (take (i + 1) rows)) (sym w.sums-is) (pay_counted rows i _ s within has _ _ _ _ w.from-in-Pay.ensures (omega arith) w.in-Pay.is)
      | in-Over w ↦ subst (AreSums (take (i + 1) rows)) (sym w.sums-is) (over_counted rows i _ s within has _ _ _ _ _ w.from-in-Over.ensures (omega arith) w.in-Over.is)
      | in_default w ↦ subst (AreSums (take (i + 1) rows)) (sym w.sums-is) (none_counted rows i _ s within has w.in_default.not-Run w.in_default.not-Pay w.in_default.not-Over)
    ]

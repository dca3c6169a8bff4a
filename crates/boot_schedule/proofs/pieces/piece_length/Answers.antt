use Rattle.std.proofs.Common.{length, arith, le_refl}
use Rattle.std.proofs.lemmas.List.{drop_all, take_all}
use Rattle.boot_schedule.proofs.PieceLemmas.{cut_alone, cut_at, whole}
use Rattle.boot_schedule.proofs.pieces.piece_length.Goals as goal

pub returns-in-Some-clause-cut : goal.returns-in-Some-clause-cut
returns-in-Some-clause-cut c = cut_at c.args.text.now c.in-Some.place c.in-Some.ensures.0.high c.in-Some.ensures.0.before c.in-Some.ensures.1

pub returns-in-Some-clause-one : goal.returns-in-Some-clause-one
returns-in-Some-clause-one c = cut_alone c.args.text.now c.in-Some.place c.in-Some.ensures.0.high c.in-Some.ensures.0.before c.in-Some.ensures.1

pub returns-in-None-clause-cut : goal.returns-in-None-clause-cut
returns-in-None-clause-cut c =
    let text = c.args.text.now in
    rw (take_all (length text) text (le_refl (length text)), drop_all (length text) text (le_refl (length text))) (whole text (omega arith) c.in-None.ensures)

pub returns-in-None-clause-one : goal.returns-in-None-clause-one
returns-in-None-clause-one c =
    let text = c.args.text.now in
    rw (take_all (length text) text (le_refl (length text))) (whole text (omega arith) c.in-None.ensures)

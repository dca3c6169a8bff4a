use Rattle.std.proofs.Common.{subst, sym, ◌∙◌}
use Rattle.bind_book.specs.declared.mark.Mark.{Mark}
use Rattle.bind_book.specs.Marks.{IsMarked}
use Rattle.bind_book.proofs.Marks.{nowhere_stays, one_broken}
use Rattle.bind_book.proofs.sweep.break_marked.Goals as goal

pub returns-in-Nowhere : goal.returns-in-Nowhere
returns-in-Nowhere c =
    let rows = c.args.rows.now in
    sym (nowhere_stays c.args.version c.args.page c.args.but rows (subst (λ (mark : Mark). IsMarked mark c.args.page rows) c.in-Nowhere.is c.requires.marked))

pub returns-in-At : goal.returns-in-At
returns-in-At c =
    let rows = c.args.rows.now in
    c.break_row.ensures
    ∙ sym (one_broken c.args.version c.in-At.place c.args.page c.args.but rows (subst (λ (mark : Mark). IsMarked mark c.args.page rows) c.in-At.is c.requires.marked))

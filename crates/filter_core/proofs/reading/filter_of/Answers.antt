use Rattle.std.proofs.Common.{sym, ◌∙◌}
use Rattle.filter_core.proofs.Atoms.{filter_if_agree, none_if_no_atoms, none_if_not}
use Rattle.filter_core.proofs.reading.filter_of.Goals as goal

pub of-requires : goal.of-requires
of-requires c =
    let agreed = rw c.deref.ensures.0 at (sym c.are_consistent.ensures ∙ c.if-are_consistent.true) in
    (filter_if_agree c.args.bytes.now c.in_ok-atoms.atoms.items c.in_ok-atoms.ensures agreed).0

pub returns-else-are_consistent : goal.returns-else-are_consistent
returns-else-are_consistent c =
    let differed = rw c.deref.ensures.0 at (sym c.are_consistent.ensures ∙ c.if-are_consistent.false) in
    none_if_not c.args.bytes.now c.in_ok-atoms.atoms.items c.in_ok-atoms.ensures differed

pub returns-then-are_consistent : goal.returns-then-are_consistent
returns-then-are_consistent c =
    let agreed = rw c.deref.ensures.0 at (sym c.are_consistent.ensures ∙ c.if-are_consistent.true) in
    rw c.of.ensures (filter_if_agree c.args.bytes.now c.in_ok-atoms.atoms.items c.in_ok-atoms.ensures agreed).1

pub returns-in_err-atoms : goal.returns-in_err-atoms
returns-in_err-atoms c = rw c.from_residual.ensures (none_if_no_atoms c.args.bytes.now c.in_err-atoms.ensures)

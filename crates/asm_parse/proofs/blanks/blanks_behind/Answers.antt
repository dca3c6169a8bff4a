use Rattle.std.proofs.Common.{arith, sym, ◌∙◌}
use Rattle.std.proofs.lemmas.List.Sums.{suffix_len_is}
use Rattle.line_text.specs.Characters.{is_blank}
use Rattle.asm_parse.proofs.blanks.blanks_behind.Goals as goal
use Rattle.asm_parse.proofs.blanks.blanks_behind.Goals.{then-loop-left-test+else-is_blank, else-loop-left-test}

pub returns-clause-count : goal.returns-clause-count
returns-clause-count c =
    sym (suffix_len_is is_blank c.args.bytes.now c.loop-left.left 0 c.loop-left.invariant.within c.loop-left.invariant.blank
    (λ some. elim c.loop-left-test.branch [ then-loop-left-test+else-is_blank w ↦ sym w.is_blank.ensures ∙ w.if-is_blank.false | else-loop-left-test w ↦ absurd (omega arith) ]))

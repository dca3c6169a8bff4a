use Rattle.std.proofs.Common.{◌≡◌, ◌<◌, false, arith, length, subst, sym}
use Rattle.std.specs.List.{prefix_len}
use Rattle.std.specs.Prelude.{◌==◌, slice_index_or}
use Rattle.std.proofs.lemmas.Bool.{ne_eqb}
use Rattle.line_text.specs.Characters.{is_blank}
use Rattle.line_text.proofs.WordLemmas.{not_empty}
use Rattle.line_text.proofs.statements.is_empty_line.Goals as goal

pub returns-then-text-front-ne-COMMENT : goal.returns-then-text-front-ne-COMMENT
returns-then-text-front-ne-COMMENT c =
    let text = c.args.text.now in
    let front = c.blanks_before-front.ensures.count in
    let within : prefix_len is_blank text < length text = omega (arith, front, c.if-front-text.true) in
    let other : (slice_index_or text (prefix_len is_blank text) 0 == 35) ≡ false =
    subst (λ n. (slice_index_or text n 0 == 35) ≡ false) front (ne_eqb (slice_index_or text c.blanks_before-front.result 0) 35 c.if-text-front-ne-COMMENT.true) in
    sym (not_empty text within other)

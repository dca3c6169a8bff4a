use Rattle.std.proofs.Common.{◌≡◌, ◌-◌, arith}
use Rattle.std.proofs.lemmas.Grind.{common_steps}
use Rattle.line_text.specs.Text.{hex_text}
use Rattle.line_text.proofs.print.push_hex.Goals as goal

pub returns-clause-ok : goal.returns-clause-ok
unfolding hex_text
returns-clause-ok c =
    let none : c.args.digits - c.loop.counter ≡ 0 = omega arith in
    let digits = rw none at c.loop.invariant.digits in
    grind (arith, common_steps)

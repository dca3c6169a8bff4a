use Rattle.std.proofs.Common.{◌≤◌, ◌∙◌, ap, length, arith}
use Rattle.asm_parse.specs.Expression.{half_of, halves_opened}
use Rattle.asm_parse.proofs.OpeningLemmas.{half_at, some_at}
use Rattle.asm_parse.proofs.openings.Openings.of.Goals as goal

pub loop-left-preserved-in-Some : goal.loop-left-preserved-in-Some
loop-left-preserved-in-Some c =
    let within : c.loop-left.left ≤ length (halves_opened c.args.self.bytes.now) = omega (arith, c.loop-left.invariant.within, c.args.self.counted) in
    let opened = rw c.split_at.ensures.back at c.in-Some.ensures.some in
    let at = half_at c.args.self.bytes.now c.loop-left.left c.in-Some.half (halves_opened c.in-Some.field-0-1.now) c.loop-left-test.true within opened in
    record {
      within = omega (arith, c.loop-left.invariant.within);
      taken = rw at (c.of-taken.ensures ∙ ap (half_of c.in-Some.half) c.loop-left.invariant.taken);
    }

pub loop-left-preserved : goal.loop-left-preserved
loop-left-preserved c =
    let within : c.loop-left.left ≤ length (halves_opened c.args.self.bytes.now) = omega (arith, c.loop-left.invariant.within, c.args.self.counted) in
    absurd (some_at c.args.self.bytes.now c.loop-left.left c.loop-left-test.true within (rw c.split_at.ensures.back at c.in_default.ensures.none))

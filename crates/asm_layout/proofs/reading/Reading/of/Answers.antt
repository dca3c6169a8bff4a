use Rattle.std.proofs.Common.{◌≡◌, ◌<◌, ◌∙◌, drop, length, sym, arith}
use Rattle.std.proofs.lemmas.Grind.{common_steps}
use Rattle.asm_layout.specs.Seen.{operands_seen, reading_seen}
use Rattle.asm_layout.proofs.OperandLemmas.{surplus}
use Rattle.asm_layout.proofs.reading.Reading.of.Goals as goal

pub returns-then-operands-forms-clause-value : goal.returns-then-operands-forms-clause-value
returns-then-operands-forms-clause-value c =
    let forms = drop c.loop-place.place c.args.text.operands.now in
    let os = operands_seen (drop c.loop-place.place c.args.operands.now) in
    let none : length forms ≡ 0 = grind (arith, common_steps) in
    let some : 0 < length os = grind (arith, common_steps) in
    sym (surplus forms os (reading_seen c.loop-place.reading) none some) ∙ c.loop-place.invariant.0

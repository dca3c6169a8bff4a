use Rattle.std.proofs.Common.{◌≡◌, ◌+◌, ◌*◌, ◌<◌, ◌^◌, Some, drop}
use Rattle.std.specs.Option.{unwrap_or}
use Rattle.asm_layout.specs.Draft.{Whole, read_operands}
use Rattle.asm_layout.specs.Seen.{operands_seen, reading_seen}
use Rattle.asm_layout.proofs.reading.Reading.of.Given as goal
use Rattle.mips_text.specs.Limits.{text_word_limit}

-- what is read so far, with the operands to come, is what is read of all
abbrev pub invariant-loop-place : goal.invariant-loop-place
invariant-loop-place l =
    (read_operands (drop l.place l.forms) (operands_seen (drop l.place l.operands)) (reading_seen l.reading)
    ≡ read_operands l.forms (operands_seen l.operands) (record { word = Some l.word; filling = Whole }))
    × (unwrap_or l.reading.word 0 < text_word_limit + 2 ^ 26 * l.place)

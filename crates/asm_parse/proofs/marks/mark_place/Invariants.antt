use Rattle.std.proofs.Common.{◌≡◌, ◌+◌, length, drop}
use Rattle.asm_parse.specs.Form.{before_mark}
use Rattle.asm_parse.specs.declared.quoting.Quoting.TheVariants.{Outside}
use Rattle.asm_parse.proofs.marks.mark_place.Given as goal

abbrev pub invariant-loop-place : goal.invariant-loop-place
invariant-loop-place l = length (before_mark l.mark Outside l.bytes) ≡ l.place + length (before_mark l.mark l.quoting (drop l.place l.bytes))

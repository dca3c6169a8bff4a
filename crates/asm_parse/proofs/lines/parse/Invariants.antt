use Rattle.std.proofs.Common.{◌≡◌}
use Rattle.std.specs.List.{AllByRecursion}
use Rattle.line_text.specs.Lines.{IsPlaced}
use Rattle.asm_parse.specs.Span.{IsCut}
use Rattle.asm_parse.specs.Form.{parsed_statements, parsed}
use Rattle.asm_parse.proofs.StatementLemmas.{before_rest}
use Rattle.asm_parse.proofs.lines.parse.Given as goal

-- the statements so far and those to come are all of them
abbrev pub invariant-loop-line : goal.invariant-loop-line
invariant-loop-line l = record {
  can : (goal.iterator-loop-line).can_next l.line-iterator;
  finite : (goal.iterator-loop-line).is_finite l.line-iterator;
  placed : AllByRecursion (IsPlaced l.source) l.line-iterator;
  cut : AllByRecursion (IsCut l.source) l.statements.items;
  told : before_rest l.statements.items (parsed_statements l.line-iterator) ≡ parsed l.source;
}

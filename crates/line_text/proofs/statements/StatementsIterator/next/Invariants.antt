use Rattle.std.proofs.Common.{◌≡◌, length}
use Rattle.line_text.specs.Statements.{statements_of}
use Rattle.line_text.proofs.statements.StatementsIterator.next.Given as goal

abbrev pub invariant-loop-line : goal.invariant-loop-line
invariant-loop-line l = statements_of l.self-inside.lines ≡ l.fn.self

abbrev pub decreases-loop-line : goal.decreases-loop-line
decreases-loop-line l = length l.self-inside.lines

use Rattle.std.proofs.Common.{◌≡◌}
use Rattle.line_text.specs.Lines.{lines_of}
use Rattle.line_text.specs.Statements.{end_of}
use Rattle.ledger_text.specs.declared.kind.LineKind.TheVariants as kind
use Rattle.ledger_text.specs.LedgerText.{ledger_seen, no_ledger, read_from}
use Rattle.ledger_text.proofs.ledger.read_ledger.Given as goal

-- what is left is read as the whole is
abbrev pub invariant-loop-line : goal.invariant-loop-line
invariant-loop-line l = record {
  can : (goal.iterator-loop-line).can_next l.line-iterator;
  finite : (goal.iterator-loop-line).is_finite l.line-iterator;
  rest : read_from (end_of l.text) l.last (ledger_seen l.ledger) l.line-iterator ≡ read_from (end_of l.text) kind.Nothing no_ledger (lines_of l.text);
}

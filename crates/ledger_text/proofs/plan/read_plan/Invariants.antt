use Rattle.std.proofs.Common.{◌≡◌}
use Rattle.line_text.specs.Lines.{lines_of}
use Rattle.line_text.specs.Statements.{end_of}
use Rattle.ledger_text.specs.PlanText.{clients_from, plan_from}
use Rattle.ledger_text.proofs.plan.read_plan.Given as goal

-- what is left is read as the whole is
abbrev pub invariant-loop-line : goal.invariant-loop-line
invariant-loop-line l = record {
  can : (goal.iterator-loop-line).can_next l.line-iterator;
  finite : (goal.iterator-loop-line).is_finite l.line-iterator;
  rest : clients_from (end_of l.fn.text) l.from l.least l.clients.items l.line-iterator ≡ plan_from (end_of l.fn.text) (lines_of l.fn.text);
}

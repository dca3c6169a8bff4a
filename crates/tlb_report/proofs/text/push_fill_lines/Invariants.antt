use Rattle.std.proofs.Common.{◌≡◌, ◌++◌}
use Rattle.tlb_report.specs.Text.{fill_lines}
use Rattle.tlb_report.proofs.text.push_fill_lines.Given as goal

abbrev pub invariant-loop-env : goal.invariant-loop-env
invariant-loop-env l = l.out.items ≡ l.fn.out.items ++ fill_lines l.board.tlb.fills l.env

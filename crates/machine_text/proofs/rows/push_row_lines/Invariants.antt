use Rattle.std.proofs.Common.{◌≡◌, ◌++◌}
use Rattle.machine_text.specs.RowLines.{tlb_row_lines}
use Rattle.machine_text.proofs.rows.push_row_lines.Given as goal

abbrev pub invariant-loop-i : goal.invariant-loop-i
invariant-loop-i l = l.out.items ≡ l.fn.out.items ++ tlb_row_lines l.tlb l.i

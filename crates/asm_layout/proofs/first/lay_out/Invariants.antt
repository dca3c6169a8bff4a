use Rattle.std.proofs.Common.{◌≡◌}
use Rattle.std.specs.List.{AllByRecursion}
use Rattle.line_text.specs.Lines.{IsPlaced, lines_of}
use Rattle.asm_layout.specs.Layout.{laid_from, nothing_placed}
use Rattle.asm_layout.specs.Seen.{layout_seen}
use Rattle.asm_layout.proofs.first.lay_out.Given as goal

-- what is placed so far, with the lines to come, is what all lines place
abbrev pub invariant-loop-line : goal.invariant-loop-line
invariant-loop-line l = record {
  can : (goal.iterator-loop-line).can_next l.line-iterator;
  finite : (goal.iterator-loop-line).is_finite l.line-iterator;
  placed : AllByRecursion (IsPlaced l.source) l.line-iterator;
  told : laid_from (layout_seen l.layout) l.line-iterator ≡ laid_from nothing_placed (lines_of l.source);
}

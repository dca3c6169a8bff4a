use Rattle.std.proofs.Common.{◌≡◌, ◌+◌, ◌<◌, ◌^◌, length}
use Rattle.line_text.specs.Statements.{end_of}
use Rattle.line_text.proofs.statements.end_of.Given as goal

-- the lines counted so far and those to come are all of them
abbrev pub invariant-loop : goal.invariant-loop
invariant-loop l = record {
  can : (goal.iterator-loop).can_next l.iterator';
  finite : (goal.iterator-loop).is_finite l.iterator';
  counted : l.end + length l.iterator' ≡ end_of l.text;
  small : end_of l.text < 2 ^ 28;
}

use Rattle.std.proofs.Common.{◌≡◌, ℕ, ◌<◌, ◌≤◌, true, get_or, length}
use Rattle.line_text.specs.Characters.{is_blank}
use Rattle.asm_parse.proofs.blanks.blanks_behind.Given as goal

abbrev pub invariant-loop-left : goal.invariant-loop-left
invariant-loop-left l = record {
  within : l.left ≤ length l.bytes;
  blank : (k : ℕ) → l.left ≤ k → k < length l.bytes → is_blank (get_or l.bytes k 0) ≡ true;
}

abbrev pub decreases-loop-left : goal.decreases-loop-left
decreases-loop-left l = l.left

use Rattle.std.proofs.Common.{◌≡◌, ◌-◌, ◌*◌, ◌++◌, length}
use Rattle.handler_rules.specs.Verification.{words_from, words_in}
use Rattle.handler_rules.proofs.handler.words_in.Given as goal

-- the words so far and those to come are all of them
abbrev pub invariant-loop-i : goal.invariant-loop-i
invariant-loop-i l = record {
  count : length l.words.items ≡ l.i;
  all : l.words.items ++ words_from l.bytes (l.i * 4) (l.count - l.i) ≡ words_in l.bytes;
}

use Rattle.std.proofs.Common.{sym, ◌∙◌, length}
use Rattle.handler_rules.proofs.Bad.{found_first}
use Rattle.handler_rules.proofs.verification.first_bad_word.Goals as goal

pub returns-then-is_bad_word : goal.returns-then-is_bad_word
returns-then-is_bad_word c = sym (found_first c.args.words.now c.loop-at.at (length c.args.words.now) c.loop-at.invariant (sym c.is_bad_word.ensures ∙ c.if-is_bad_word.true) c.loop-at-test.true)

use Rattle.std.proofs.Common.{◌≡◌, ◌++◌, length}
use Rattle.std.specs.Option.{option_map}
use Rattle.asm_parse.specs.Words.{meant}
use Rattle.asm_parse.proofs.quoted.meant.Given as goal

-- what is meant so far and what is to come are all of it
abbrev pub invariant-loop-byte : goal.invariant-loop-byte
invariant-loop-byte l = option_map (λ more. l.text.items ++ more) (meant l.rest) ≡ meant l.quoted

abbrev pub decreases-loop-byte : goal.decreases-loop-byte
decreases-loop-byte l = length l.rest

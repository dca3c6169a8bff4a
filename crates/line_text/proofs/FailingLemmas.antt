-- What is due in a line.
use Rattle.std.proofs.Common.{◌≡◌, ℕ, Result, Ok, Err, ap}
use Rattle.line_text.specs.declared.failure.Failure.{Failure}
use Rattle.line_text.specs.declared.failure.Failure.TheVariants.{Fault, OutOfMemory}
use Rattle.line_text.specs.declared.failure.LineFault.{LineFault}
use Rattle.line_text.specs.Failing.{Gives, at_line, in_line}

-- what is due, whichever line it is in, is due in this line
pub line_gives : {X Y W : Type 0} (view : X → Y) (line : ℕ) (answer : Result X (Failure W)) (given : Result X (Failure (LineFault W))) (due : Result Y W) →
    Gives view answer due → given ≡ at_line line answer → Gives view given (in_line line due)
line_gives view line (Ok x) given due gives is = rw is (ap (in_line line) gives)
line_gives view line (Err (Fault why)) given due gives is = rw is (ap (in_line line) gives)
line_gives view line (Err OutOfMemory) given due gives is = rw is tt

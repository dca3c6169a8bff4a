-- What a line says.
use Rattle.std.proofs.Common.{◌≡◌, Option, Some, Result, Ok, subst, sym}
use Rattle.asm_parse.specs.Form.{due_of}
use Rattle.asm_parse.specs.declared.fault.AsmWhy.{AsmWhy}
use Rattle.asm_parse.specs.declared.syntax.AsmLine.{AsmLine}
use Rattle.line_text.specs.declared.failure.Failure.{Failure}
use Rattle.line_text.specs.declared.failure.LineFault.{LineFault}
use Rattle.line_text.specs.Failing.{Gives, at_line}
use Rattle.line_text.specs.Lines.{LineValue}
use Rattle.line_text.proofs.FailingLemmas.{line_gives}
use Rattle.asm_layout.specs.Layout.{Layout, added, line_added, stated}
use Rattle.line_text.specs.Outcome.{◌>>=◌}

-- what is due of its statement is due of a line
pub statement_gives : {X : Type 0} (view : X → Layout) (line : LineValue) (statement : AsmLine) (before : Layout) (answer : Result X (Failure AsmWhy)) (given : Result X (Failure (LineFault AsmWhy))) →
    due_of line ≡ Ok (Some statement) → Gives view answer (stated statement before) → given ≡ at_line statement.line answer → Gives view given (line_added line before)
statement_gives view line statement before answer given says gives is =
    subst (λ (said : Result (Option AsmLine) (LineFault AsmWhy)). Gives view given (said >>= λ s. added s before)) (sym says) (line_gives view statement.line answer given (stated statement before) gives is)

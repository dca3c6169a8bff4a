use Rattle.std.proofs.Common.{ap, length, sym, ◌∙◌, ◌<◌, arith}
use Rattle.std.proofs.lemmas.Bool.{eqb-false}
use Rattle.line_text.specs.LineView.{line_value}
use Rattle.asm_parse.specs.Form.{Piece, said, statement_of}
use Rattle.asm_parse.proofs.StatementLemmas.{said_cut}
use Rattle.asm_parse.proofs.lines.parse_line.Goals as goal

pub returns-in-Some-clause-spans : goal.returns-in-Some-clause-spans
returns-in-Some-clause-spans c =
    let line = line_value c.args.line.now in
    let none = sym c.is_empty.ensures ∙ c.if-is_empty.false in
    let some : 0 < length (said line).bytes = omega (arith, eqb-false _ 0 none, ap (λ (p : Piece). length p.bytes) c.said-piece.ensures) in
    λ source placed. said_cut source line c.in-Some.statement placed some
    (ap (statement_of line.number) (sym c.said-piece.ensures) ∙ sym c.in_ok-statement.ensures ∙ c.in-Some.is)

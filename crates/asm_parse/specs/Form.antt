-- The form of a line: `[label:] [operation]`, with blanks around it and a comment behind it.
use Rattle.std.specs.Prelude.{ℕ, ◌+◌, ◌-◌, Bool, true, false, not, List, [], ◌∷◌, ◌++◌, Option, Some, None, Result, Ok, Err, ◌==◌, ◌&&◌, if◌then◌else◌, length, take, drop, codes, nat_eq}
use Rattle.std.specs.List.{list_all, starts_with, take_while, prefix_len, suffix_len, onto_first}
use Rattle.std.specs.Option.{option_map, option_and_then, option_to_list, ok_or}
use Rattle.std.specs.Str.{byte}
use Rattle.line_text.specs.Lines.{LineValue, lines_of}
use Rattle.asm_parse.specs.Arg.{ArgValue}
use Rattle.asm_parse.specs.declared.syntax.AsmBody.{AsmBody}
use Rattle.asm_parse.specs.declared.syntax.AsmBody.TheVariants.{Nothing, Op, Directive}
use Rattle.asm_parse.specs.declared.syntax.AsmLine.{AsmLine}
use Rattle.line_text.specs.declared.failure.LineFault.{LineFault}
use Rattle.line_text.specs.Failing.{fault_at}
use Rattle.asm_parse.specs.declared.fault.AsmWhy.{AsmWhy}
use Rattle.asm_parse.specs.declared.fault.AsmWhy.TheVariants.{Syntax}
use Rattle.asm_parse.specs.declared.quoting.Quoting.{Quoting}
use Rattle.asm_parse.specs.declared.quoting.Quoting.TheVariants.{Outside, Inside, Escape}
use Rattle.line_text.specs.Characters.{is_text_byte, is_blank}
use Rattle.asm_parse.specs.Bytes.{is_name_byte}
use Rattle.asm_parse.specs.Operand.{operand_of}
use Rattle.asm_parse.specs.Words.{begins_name}

-- bytes of the source, and the place where they stand
pub record Piece : Type 0 where
  pub start : ℕ
  pub bytes : List ℕ

-- a piece without its first bytes
abbrev pub skip : ℕ → Piece → Piece
skip n p = record { start = p.start + n; bytes = drop n p.bytes }

-- the first bytes of a piece
abbrev pub front : ℕ → Piece → Piece
front n p = record { start = p.start; bytes = take n p.bytes }

-- a piece without the blanks at its front
abbrev pub after_blanks : Piece → Piece
after_blanks p = skip (prefix_len is_blank p.bytes) p

-- and without those at its end
abbrev pub before_blanks : Piece → Piece
before_blanks p = record { start = p.start; bytes = take (length p.bytes - suffix_len is_blank p.bytes) p.bytes }

abbrev pub trimmed : Piece → Piece
trimmed p = before_blanks (after_blanks p)

-- where the byte after this one stands
abbrev pub behind : Quoting → ℕ → Quoting
behind Outside b = if b == byte "\"" then Inside else Outside
behind Inside b = if b == byte "\"" then Outside else if b == byte "\\" then Escape else Inside
behind Escape b = Inside

abbrev pub is_outside : Quoting → Bool
is_outside Outside = true
is_outside Inside = false
is_outside Escape = false

-- the parts of bytes between the marks that stand outside quoted texts
abbrev pub parts_at : ℕ → Quoting → List ℕ → List (List ℕ)
parts_at mark q [] = [] ∷ []
parts_at mark q (b ∷ bs) =
    if is_outside q && b == mark then [] ∷ parts_at mark Outside bs
    else onto_first b (parts_at mark (behind q b) bs)

-- the bytes before the first such mark
abbrev pub before_mark : ℕ → Quoting → List ℕ → List ℕ
before_mark mark q [] = []
before_mark mark q (b ∷ bs) =
    if is_outside q && b == mark then [] else b ∷ before_mark mark (behind q b) bs

-- an operand, which blanks may stand around
unfoldable pub arg_of : Piece → Option ArgValue
arg_of p =
    let inner = trimmed p in
    option_map (λ operand. record {
      operand = operand;
      start = inner.start;
      end = inner.start + length inner.bytes;
    }) (operand_of inner.bytes)

-- an operand from each part, where the first part stands at a place and a comma stands behind each but the last
abbrev pub args_of : ℕ → List (List ℕ) → Option (List ArgValue)
args_of start [] = Some []
args_of start (part ∷ parts) =
    option_and_then
    (λ arg. option_map (λ args. arg ∷ args) (args_of (start + (length part + 1)) parts))
    (arg_of (record { start = start; bytes = part }))

-- the operands that a piece is, with a comma between each two
abbrev pub args_at : Piece → Option (List ArgValue)
args_at p = args_of p.start (parts_at (byte ",") Outside p.bytes)

-- an operation by its name: a directive where the name begins with a point
abbrev pub body_named : List ℕ → List ArgValue → AsmBody
body_named name args = if starts_with nat_eq name (codes ".") then Directive name args else Op name args

-- the operands behind a name: none, or a blank and then operands
unfoldable pub operands_of : Piece → Option (List ArgValue)
operands_of p =
    if length p.bytes == 0 then Some [] else
    if prefix_len is_blank p.bytes == 0 then None else
    args_at p

-- what follows the label: nothing, or a name and operands
unfoldable pub body_of : Piece → Option AsmBody
body_of p =
    let name = take_while is_name_byte p.bytes in
    if length p.bytes == 0 then Some Nothing else
    if begins_name name then option_map (λ args. body_named name args) (operands_of (skip (length name) p)) else
    None

-- a name with a colon directly behind it
unfoldable pub label_of : List ℕ → Option (List ℕ)
label_of bs =
    let name = take_while is_name_byte bs in
    if begins_name name && starts_with nat_eq (drop (length name) bs) (codes ":") then Some name else None

-- what stands behind a label
abbrev pub after_label : Option (List ℕ) → Piece → Piece
after_label None p = p
after_label (Some name) p = after_blanks (skip (length name + 1) p)

-- a statement of a line: its label and its body
unfoldable pub statement_of : ℕ → Piece → Option AsmLine
statement_of number p =
    let label = label_of p.bytes in
    option_map
    (λ body. record { line = number; start = p.start; end = p.start + length p.bytes; label = label; body = body })
    (body_of (after_label label p))

-- what a line has before its comment, without the blanks around it
abbrev pub said : LineValue → Piece
said line = trimmed (record { start = line.start; bytes = before_mark (byte "#") Outside line.text })

-- a line's statement, where it has one; None where the line has another form
unfoldable pub parsed_line : LineValue → Option (Option AsmLine)
parsed_line line =
    if not (list_all is_text_byte line.text) then None else
    if length (said line).bytes == 0 then Some None else
    option_map (λ statement. Some statement) (statement_of line.number (said line))

-- what is due for a line: its statement, or that it has another form
abbrev pub due_of : LineValue → Result (Option AsmLine) (LineFault AsmWhy)
due_of line = ok_or (parsed_line line) (fault_at line.number Syntax)

-- a line's statement before those of the lines behind it
abbrev pub joined : Result (Option AsmLine) (LineFault AsmWhy) → Result (List AsmLine) (LineFault AsmWhy)
    → Result (List AsmLine) (LineFault AsmWhy)
joined (Err fault) rest = Err fault
joined (Ok said) (Err fault) = Err fault
joined (Ok said) (Ok statements) = Ok (option_to_list said ++ statements)

-- the statements of lines in order, or the first line of another form
abbrev pub parsed_statements : List LineValue → Result (List AsmLine) (LineFault AsmWhy)
parsed_statements [] = Ok []
parsed_statements (line ∷ lines) = joined (due_of line) (parsed_statements lines)

-- what a source says: its statements in order, or the first line of another form
unfoldable pub parsed : List ℕ → Result (List AsmLine) (LineFault AsmWhy)
parsed source = parsed_statements (lines_of source)

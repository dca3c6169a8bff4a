-- What the spans of a statement cut out of the source.
use Rattle.std.specs.Prelude.{◌≡◌, ℕ, ◌<◌, ◌≤◌, List, [], Some, length, slice_range}
use Rattle.std.specs.List.{AllByRecursion, prefix_len, suffix_len}
use Rattle.std.specs.Str.{byte}
use Rattle.asm_parse.specs.Arg.{ArgValue}
use Rattle.asm_parse.specs.Operand.{operand_of}
use Rattle.asm_parse.specs.declared.syntax.AsmBody.{AsmBody}
use Rattle.asm_parse.specs.declared.syntax.AsmBody.TheVariants.{Nothing, Op, Directive}
use Rattle.asm_parse.specs.declared.syntax.AsmLine.{AsmLine}
use Rattle.asm_parse.specs.declared.quoting.Quoting.TheVariants.{Outside}
use Rattle.line_text.specs.Characters.{is_blank}
use Rattle.asm_parse.specs.Form.{before_mark, statement_of}

-- an operand's span lies between two places, and cuts out bytes that say the operand
pub record IsCutArg (source : List ℕ) (start end : ℕ) (arg : ArgValue) : Type 0 where
  pub from : start ≤ arg.start
  pub some : arg.start < arg.end
  pub to : arg.end ≤ end
  pub form : operand_of (slice_range source arg.start arg.end) ≡ Some arg.operand

-- the operands of a body
abbrev pub args_in : AsmBody → List ArgValue
args_in Nothing = []
args_in (Op name args) = args
args_in (Directive name args) = args

-- bytes with no blank at either end and no comment
pub record IsBare (bytes : List ℕ) : Type 0 where
  pub front : prefix_len is_blank bytes ≡ 0
  pub back : suffix_len is_blank bytes ≡ 0
  pub no_comment : before_mark (byte "#") Outside bytes ≡ bytes

-- a statement's span cuts out bare bytes that say the statement, and its operands lie inside
pub record IsCut (source : List ℕ) (statement : AsmLine) : Type 0 where
  pub some : statement.start < statement.end
  pub to : statement.end ≤ length source
  pub bare : IsBare (slice_range source statement.start statement.end)
  pub form : statement_of statement.line (record {
    start = statement.start;
    bytes = slice_range source statement.start statement.end;
  }) ≡ Some statement
  pub args : AllByRecursion (IsCutArg source statement.start statement.end) (args_in statement.body)

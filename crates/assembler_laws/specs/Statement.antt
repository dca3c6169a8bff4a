-- A line that is one statement without a label.
use Rattle.std.specs.Prelude.{◌≡◌, ℕ, List, Some, None, Ok}
use Rattle.line_text.specs.Lines.{LineValue}
use Rattle.asm_parse.specs.Form.{parsed_line}
use Rattle.asm_parse.specs.declared.syntax.AsmLine.{AsmLine}
use Rattle.asm_layout.specs.Action.{Put, action_of}
use Rattle.asm_layout.specs.Content.{Content, alignment, content_length}
use Rattle.asm_layout.specs.Layout.{nothing_placed}
use Rattle.asm_layout.specs.Value.{Names}
use Rattle.mips_asm.specs.Emission.{bytes_of}

-- A line is a statement that may stand in the text at a multiple of 4, takes four bytes there, and puts these
-- bytes where it stands at this address, whatever names the program has.
pub record Puts (line : LineValue) (address : ℕ) (bytes : List ℕ) : Type 0 where
  pub statement : AsmLine
  pub content : Content
  pub is : parsed_line line ≡ Some (Some statement)
  pub unlabelled : statement.label ≡ None
  -- a source begins in the text
  pub asks : action_of nothing_placed.section statement.body ≡ Ok (Put content)
  pub aligned : alignment content ≡ 4
  pub size : content_length content ≡ 4
  pub puts : (names : Names) → bytes_of names address content ≡ Ok bytes

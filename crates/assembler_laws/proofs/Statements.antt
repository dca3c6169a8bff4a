-- The text of a word is a statement that puts the word.
use Rattle.std.proofs.Common.{◌≡◌, ℕ, ◌+◌, ◌%◌, ◌^◌, ◌<◌, ◌∙◌, Bool, true, false, List, [], ◌∷◌, ◌++◌, Option, Some, None, Result, Ok, length, refl, sym, ap, subst, append-nil, length-append, rules}
use Rattle.std.specs.Prelude.{nat_eq, codes, if◌then◌else◌}
use Rattle.std.specs.List.{starts_with}
use Rattle.std.specs.Option.{is_none, ok_or}
use Rattle.std.specs.Int.{w32, to_le_bytes}
use Rattle.line_text.specs.Lines.{lines_of}
use Rattle.asm_parse.specs.Arg.{ArgValue}
use Rattle.asm_parse.specs.Form.{body_named}
use Rattle.asm_parse.specs.Operand.{OperandValue, Value}
use Rattle.asm_parse.specs.declared.fault.AsmWhy.{AsmWhy}
use Rattle.asm_parse.specs.declared.fault.AsmWhy.TheVariants.{UnknownName}
use Rattle.asm_parse.specs.declared.syntax.AsmBody.TheVariants as bodies
use Rattle.mips_isa.specs.Encoding.{insn_of}
use Rattle.mips_text.specs.Texts.{TextValue, instruction_text}
use Rattle.mips_text.specs.WordRows.{is_nameless, row_of}
use Rattle.mips_text.proofs.NamedWords.{nameless_rows}
use Rattle.mips_list.specs.WordText.{after_name, data_text, hexadecimal, operand_texts, row_text, text_by, word_text}
use Rattle.asm_layout.specs.Action.{Action, Put, action_of, directed, directive_of, operands_in}
use Rattle.asm_layout.specs.Content.{Content, Given, Instruction, alignment, content_length}
use Rattle.asm_layout.specs.Draft.{Draft, draft_of}
use Rattle.asm_layout.specs.Layout.{nothing_placed}
use Rattle.line_text.specs.Outcome.{◌>>=◌}
use Rattle.asm_layout.specs.Value.{Names, value_of}
use Rattle.mips_asm.specs.Emission.{bytes_of}
use Rattle.assembler_laws.specs.Statement.{Puts}
use Rattle.assembler_laws.proofs.OperandTexts.{number_value}
use Rattle.assembler_laws.proofs.NumberTexts.{number_operand, word_text_read}
use Rattle.assembler_laws.proofs.ArgTexts.{AreOperands}
use Rattle.assembler_laws.proofs.LineTexts.{IsLine, line_read, one_line, operands_read, text_is_line}
use Rattle.assembler_laws.proofs.RowTexts.{IsRowOf, row_found}
use Rattle.assembler_laws.proofs.WordTexts.{Makes, makes_word, operand_values, texts_read}

-- An instruction.

named_op : (name : List ℕ) (args : List ArgValue) → starts_with nat_eq name (codes ".") ≡ false → body_named name args ≡ bodies.Op name args
named_op name args is = rw is refl

asks_instruction : (name : List ℕ) (args : List ArgValue) (text : TextValue) (os : List OperandValue) (word address : ℕ) → instruction_text name ≡ Some text → operands_in args ≡ os
    → (makes : Makes (draft_of text os) word address) → action_of nothing_placed.section (bodies.Op name args) ≡ Ok (Put (Instruction makes.made))
unfolding action_of
asks_instruction name args text os word address named reads makes = rw (named, reads, makes.is) refl

puts_instruction : (names : Names) (draft : Result Draft AsmWhy) (word address : ℕ) (makes : Makes draft word address) → bytes_of names address (Instruction makes.made) ≡ Ok (to_le_bytes w32 word)
unfolding bytes_of
puts_instruction names draft word address makes = rw (makes.words names) (ap (λ bs. Ok bs) (append-nil (to_le_bytes w32 word)))

row_puts : (number start word address : ℕ) (row : List ℕ × TextValue) → IsRowOf word row → address % 4 ≡ 0 → address + 4 < 2 ^ 32
    → Puts (record { number = number; start = start; text = row_text row word address }) address (to_le_bytes w32 word)
row_puts number start word address row is aligned below =
    let forms = row.1.operands in
    let ts = operand_texts forms word address in
    let os = operand_values forms word address in
    let are = texts_read forms word address in
    let args = operands_read (start + length row.0) ts os are in
    let makes = makes_word row.1 word address is.one_word is.whole aligned below in
    record {
      statement = record { line = number; start = start; end = start + length (row.0 ++ after_name ts); label = None; body = body_named row.0 args.found };
      content = Instruction makes.made;
      is = line_read number start row.0 ts args.found is.name (text_is_line row.0 ts os is.name are) args.is;
      unlabelled = refl;
      asks = ap (action_of nothing_placed.section) (named_op row.0 args.found is.no_directive)
          ∙ asks_instruction row.0 args.found row.1 os word address is.text args.operands makes;
      aligned = refl;
      size = makes.size;
      puts = λ names. puts_instruction names _ word address makes;
    }

-- A word as a number.

-- what an action puts
abbrev put_by : Result Action AsmWhy → Content
put_by (Ok (Put content)) = content
put_by _ = Given []

abbrev word_operands : ℕ → List OperandValue
word_operands word = Value (number_value word) ∷ []

abbrev word_action : ℕ → Result Action AsmWhy
word_action word = ok_or (directive_of (codes ".word")) UnknownName >>= (λ directive. directed directive (word_operands word))

word_asks : (word : ℕ) → word_action word ≡ Ok (Put (put_by (word_action word)))
unfolding directive_of directed
word_asks word = refl

word_size : (word : ℕ) → content_length (put_by (word_action word)) ≡ 4
unfolding directive_of directed
word_size word = refl

word_aligned : (word : ℕ) → alignment (put_by (word_action word)) ≡ 4
unfolding directive_of directed
word_aligned word = refl

word_puts : (names : Names) (word address : ℕ) → bytes_of names address (put_by (word_action word)) ≡ Ok (to_le_bytes w32 word)
unfolding directive_of directed bytes_of value_of
word_puts names word address = ap (λ bs. Ok bs) (append-nil (to_le_bytes w32 word))

asks_word : (word : ℕ) (args : List ArgValue) → operands_in args ≡ word_operands word → action_of nothing_placed.section (body_named (codes ".word") args) ≡ word_action word
unfolding action_of
asks_word word args reads = rw reads refl

data_line : (word : ℕ) → codes ".word" ++ after_name (hexadecimal 8 word ∷ []) ≡ data_text word
data_line word = ap (λ text. codes ".word " ++ text) (append-nil (hexadecimal 8 word))

data_puts : (number start word address : ℕ) → word < 2 ^ 32
    → Puts (record { number = number; start = start; text = data_text word }) address (to_le_bytes w32 word)
data_puts number start word address small =
    let name = codes ".word" in
    let ts : List (List ℕ) = hexadecimal 8 word ∷ [] in
    let are : AreOperands ts (word_operands word) = (number_operand (hexadecimal 8 word) word (word_text_read word small), tt) in
    let args = operands_read (start + length name) ts (word_operands word) are in
    subst (λ (text : List ℕ). Puts (record { number = number; start = start; text = text }) address (to_le_bytes w32 word)) (data_line word) (record {
      statement = record { line = number; start = start; end = start + length (name ++ after_name ts); label = None; body = body_named name args.found };
      content = put_by (word_action word);
      is = line_read number start name ts args.found refl (text_is_line name ts (word_operands word) refl are) args.is;
      unlabelled = refl;
      asks = asks_word word args.found args.operands ∙ word_asks word;
      aligned = word_aligned word;
      size = word_size word;
      puts = λ names. word_puts names word address;
    })

-- Any word.

text_puts : (number start word address : ℕ) (row : Option (List ℕ × TextValue)) → row_of word ≡ row → word < 2 ^ 32 → address % 4 ≡ 0 → address + 4 < 2 ^ 32
    → Puts (record { number = number; start = start; text = text_by row word address }) address (to_le_bytes w32 word)
text_puts number start word address row is small aligned below = search (rules, data_puts, row_puts, row_found)

-- a word without a name has no row, so that its text is always the one by its row
text_by_row : (word address : ℕ) → word_text word address ≡ text_by (row_of word) word address
unfolding word_text
text_by_row word address = by_name (is_nameless (insn_of word)) (row_of word) (nameless_rows word)
  where
    by_name : (nameless : Bool) (row : Option (List ℕ × TextValue)) → is_none row ≡ nameless → (if nameless then data_text word else text_by row word address) ≡ text_by row word address
    by_name true None same = refl
    by_name true (Some row) same = cc
    by_name false row same = refl

-- the text of a word is a statement that puts the word
pub word_statement : (number start word address : ℕ) → word < 2 ^ 32 → address % 4 ≡ 0 → address + 4 < 2 ^ 32
    → Puts (record { number = number; start = start; text = word_text word address }) address (to_le_bytes w32 word)
word_statement number start word address small aligned below = search (rules, text_by_row, text_puts)

-- the text of a word is one line
by_is_line : (word address : ℕ) (row : Option (List ℕ × TextValue)) → row_of word ≡ row → word < 2 ^ 32 → IsLine (text_by row word address)
by_is_line word address None is small =
    subst IsLine (data_line word)
    (text_is_line (codes ".word") (hexadecimal 8 word ∷ []) (word_operands word) refl (number_operand (hexadecimal 8 word) word (word_text_read word small), tt))
by_is_line word address (Some row) is small =
    text_is_line row.0 (operand_texts row.1.operands word address) (operand_values row.1.operands word address) (row_found word row is).name (texts_read row.1.operands word address)

pub text_is_line_of : (word address : ℕ) → word < 2 ^ 32 → IsLine (word_text word address)
text_is_line_of word address small = subst IsLine (sym (text_by_row word address)) (by_is_line word address (row_of word) refl small)

pub text_is_one_line : (word address : ℕ) → word < 2 ^ 32 → lines_of (word_text word address) ≡ (record { number = 1; start = 0; text = word_text word address }) ∷ []
text_is_one_line word address small = search (rules, text_is_line_of, one_line, length-append)

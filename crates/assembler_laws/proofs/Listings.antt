-- A source of the texts of words, assembled.
use Rattle.std.proofs.Common.{◌≡◌, ℕ, ◌+◌, ◌*◌, ◌%◌, ◌^◌, ◌<◌, ◌≤◌, ◌∙◌, true, false, List, [], ◌∷◌, ◌++◌, None, Some, Result, Ok, length, refl, ap, arith, append_assoc, length-append, lit<, rules}
use Rattle.std.specs.Prelude.{◌==◌, nat_eq, codes}
use lib.Pointwise.{pointwise}
use Rattle.std.proofs.lemmas.Bool.{and_parts}
use Rattle.std.proofs.lemmas.Bool.Decides.{nat_tests}
use Rattle.std.specs.List.{AllByRecursion, flat_map, list_all, onto_first}
use Rattle.std.proofs.lemmas.List.{take_at, drop_at, drop-append-le}
use Rattle.std.specs.Int.{w32, to_le_bytes}
use Rattle.line_text.specs.Lines.{LineValue, lines_from, pieces_of, without_end}
use Rattle.asm_parse.specs.Form.{due_of}
use Rattle.asm_parse.specs.declared.fault.AsmWhy.{AsmWhy}
use Rattle.line_text.specs.declared.failure.LineFault.{LineFault}
use Rattle.mips_list.specs.WordText.{word_text}
use Rattle.mips_asm.specs.Assembled.{assembled}
use Rattle.mips_asm.specs.Emission.{bytes_of}
use Rattle.asm_layout.specs.Content.{Content}
use Rattle.asm_layout.specs.Layout.{Layout, Placed, acted, laid, laid_from, nothing_placed, stated}
use Rattle.mips_asm.specs.Second.{Sections, emitted, filled, filled_from}
use Rattle.assembler_laws.specs.OneWord.{one_word}
use Rattle.assembler_laws.specs.Statement.{Puts}
use Rattle.assembler_laws.specs.Texts.{program_of_words, texts_from}
use Rattle.assembler_laws.proofs.Numbers.{differs, differs_turned}
use Rattle.assembler_laws.proofs.LineTexts.{IsLine, all_behind, is_said}
use Rattle.assembler_laws.proofs.Statements.{text_is_line_of, text_is_one_line, word_statement}
use Rattle.asm_layout.specs.Limits.{section_limit}

-- Lines.

-- a text and a line feed are one piece
first_piece : (bs rest : List ℕ) → list_all is_said bs ≡ true → pieces_of (bs ++ 10 ∷ rest) ≡ (bs ++ 10 ∷ []) ∷ pieces_of rest
first_piece [] rest all = refl
first_piece (b ∷ bs) rest all =
    let parts = and_parts (is_said b) (list_all is_said bs) all in
    rw (differs is_said b 10 parts.0 refl) (ap (onto_first b) (first_piece bs rest parts.1))

no_return : (bs : List ℕ) → list_all is_said bs ≡ true → pointwise nat_eq (codes "\r\n") (bs ++ 10 ∷ []) ≡ false
no_return [] all = refl
no_return (b ∷ bs) all = rw (differs_turned is_said b 13 (and_parts (is_said b) (list_all is_said bs) all).0 refl) refl

-- the end of a line goes away
line_end : (bs : List ℕ) → list_all is_said bs ≡ true → without_end (bs ++ 10 ∷ []) ≡ bs
line_end bs all = search (rules, length-append, drop-append-le, no_return, all_behind, drop_at, take_at)

-- the first line of a text
first_line : (number start : ℕ) (bs rest : List ℕ) → IsLine bs
    → lines_from number start (pieces_of (bs ++ 10 ∷ rest)) ≡ (record { number = number; start = start; text = bs }) ∷ lines_from (number + 1) (start + length (bs ++ 10 ∷ [])) (pieces_of rest)
first_line number start bs rest line = search (rules, first_piece, line_end)

-- Passes.

-- the bytes of a text without data
abbrev text_alone : List ℕ → Sections
text_alone bytes = record { text = bytes; data_bytes = [] }

-- a text of so many bytes
abbrev text_layout : ℕ → List Placed → Layout
text_layout n placed = record { section = nothing_placed.section; text = n; data_bytes = 0; names = []; start = None; placed = placed }

-- a content behind so many bytes of the text
abbrev placed_at : ℕ → ℕ → Content → Placed
placed_at n line content = record { line = line; section = nothing_placed.section; place = 0x00400000 + n; is_start = false; content = content }

stated_at : (n : ℕ) (placed : List Placed) (line : LineValue) (bytes : List ℕ) (puts : Puts line (0x00400000 + n) bytes) → n % 4 ≡ 0 → n + 4 ≤ section_limit
    → stated puts.statement (text_layout n placed) ≡ Ok (text_layout (n + 4) (placed ++ placed_at n puts.statement.line puts.content ∷ []))
unfolding stated acted
stated_at n placed line bytes puts aligned room = search rules

due_is : (line : LineValue) (address : ℕ) (bytes : List ℕ) (puts : Puts line address bytes) → due_of line ≡ Ok (Some puts.statement)
due_is line address bytes puts = rw (puts.is) refl

laid_first : (n : ℕ) (placed : List Placed) (line : LineValue) (lines : List LineValue) (bytes : List ℕ) (puts : Puts line (0x00400000 + n) bytes) → n % 4 ≡ 0 → n + 4 ≤ section_limit
    → laid_from (text_layout n placed) (line ∷ lines) ≡ laid_from (text_layout (n + 4) (placed ++ placed_at n puts.statement.line puts.content ∷ [])) lines
laid_first n placed line lines bytes puts aligned room = rw (due_is line (0x00400000 + n) bytes puts, stated_at n placed line bytes puts aligned room) refl

filled_first : (size n line_number : ℕ) (front : List ℕ) (content : Content) (rest : List Placed) (bytes : List ℕ) → bytes_of [] (0x00400000 + n) content ≡ Ok bytes
    → filled_from [] size (text_alone front) (placed_at n line_number content ∷ rest) ≡ filled_from [] size (text_alone (front ++ bytes)) rest
unfolding emitted
filled_first size n line_number front content rest bytes is = rw is refl

-- what the first pass leaves of words, and what the second makes of it
record LaidOn (n : ℕ) (words : List ℕ) (placed : List Placed) (result : Result Layout (LineFault AsmWhy)) : Type 0 where
  more : List Placed
  is : result ≡ Ok (text_layout (n + 4 * length words) (placed ++ more))
  fills : (size : ℕ) (front : List ℕ) → filled_from [] size (text_alone front) more ≡ Ok (text_alone (front ++ flat_map (to_le_bytes w32) words))

-- a word before them
laid_step : (n word : ℕ) (words : List ℕ) (placed : List Placed) (line : LineValue) (puts : Puts line (0x00400000 + n) (to_le_bytes w32 word)) (all rest : Result Layout (LineFault AsmWhy)) → all ≡ rest
    → LaidOn (n + 4) words (placed ++ placed_at n puts.statement.line puts.content ∷ []) rest → LaidOn n (word ∷ words) placed all
laid_step n word words placed line puts all rest first behind =
    let one = placed_at n puts.statement.line puts.content in
    let count : n + 4 + 4 * length words ≡ n + 4 * length (word ∷ words) = omega arith in
    let joined : (placed ++ one ∷ []) ++ behind.more ≡ placed ++ one ∷ behind.more = append_assoc placed (one ∷ []) behind.more in
    record {
      more = one ∷ behind.more;
      is = first ∙ behind.is ∙ ap Ok (ap (λ m. text_layout m ((placed ++ one ∷ []) ++ behind.more)) count ∙ ap (text_layout (n + 4 * length (word ∷ words))) joined);
      fills = λ size front.
          filled_first size n puts.statement.line front puts.content behind.more (to_le_bytes w32 word) (puts.puts [])
          ∙ behind.fills size (front ++ to_le_bytes w32 word)
          ∙ ap (λ bytes. Ok (text_alone bytes)) (append_assoc front (to_le_bytes w32 word) (flat_map (to_le_bytes w32) words));
    }

laid_words : (words : List ℕ) (number start n : ℕ) (placed : List Placed) → AllByRecursion (λ word. word < 2 ^ 32) words → n % 4 ≡ 0 → n + 4 * length words ≤ section_limit
    → LaidOn n words placed (laid_from (text_layout n placed) (lines_from number start (pieces_of (texts_from (0x00400000 + n) words))))
laid_words [] number start n placed small aligned room = search rules
laid_words (word ∷ words) number start n placed small aligned room =
    let text = word_text word (0x00400000 + n) in
    let line : LineValue = record { number = number; start = start; text = text } in
    let puts = word_statement number start word (0x00400000 + n) small.0 (omega arith) (omega arith) in
    let behind = start + length (text ++ 10 ∷ []) in
    let next : 0x00400000 + n + 4 ≡ 0x00400000 + (n + 4) = omega arith in
    let lines : lines_from number start (pieces_of (texts_from (0x00400000 + n) (word ∷ words))) ≡ line ∷ lines_from (number + 1) behind (pieces_of (texts_from (0x00400000 + (n + 4)) words)) =
    first_line number start text (texts_from (0x00400000 + n + 4) words) (text_is_line_of word (0x00400000 + n) small.0)
    ∙ ap (λ a. line ∷ lines_from (number + 1) behind (pieces_of (texts_from a words))) next in
    let more = laid_words words (number + 1) behind (n + 4) (placed ++ placed_at n puts.statement.line puts.content ∷ []) small.1 (omega arith) (omega arith) in
    laid_step n word words placed line puts _ _
    (ap (laid_from (text_layout n placed)) lines ∙ laid_first n placed line (lines_from (number + 1) behind (pieces_of (texts_from (0x00400000 + (n + 4)) words))) (to_le_bytes w32 word) puts aligned (omega arith))
    more

assembled_laid : (source : List ℕ) (words : List ℕ) → LaidOn 0 words [] (laid source) → (0 + 4 * length words == 0) ≡ false → assembled source ≡ Ok (program_of_words words)
unfolding assembled filled
assembled_laid source words on some = rw (on.is, some, on.fills (0 + 4 * length words) []) refl

-- the text of a word assembles to the program of the word
pub word_assembled : (word : ℕ) → word < 2 ^ 32 → assembled (word_text word 0x00400000) ≡ Ok (one_word word)
unfolding laid
word_assembled word small =
    let text = word_text word 0x00400000 in
    let line : LineValue = record { number = 1; start = 0; text = text } in
    let puts = word_statement 1 0 word 0x00400000 small refl (lit< tt) in
    let none = laid_words [] 2 0 4 (placed_at 0 puts.statement.line puts.content ∷ []) tt refl (omega arith) in
    let first = ap (laid_from nothing_placed) (text_is_one_line word 0x00400000 small) ∙ laid_first 0 [] line [] (to_le_bytes w32 word) puts refl (omega arith) in
    assembled_laid text (word ∷ []) (laid_step 0 word [] [] line puts _ _ first none) refl

-- the texts of words assemble to the program of the words
pub words_assembled : (words : List ℕ) → AllByRecursion (λ word. word < 2 ^ 32) words → 0 < length words → 4 * length words ≤ section_limit
    → assembled (texts_from 0x00400000 words) ≡ Ok (program_of_words words)
unfolding laid
words_assembled words small some room = search (rules, assembled_laid, laid_words, nat_tests)

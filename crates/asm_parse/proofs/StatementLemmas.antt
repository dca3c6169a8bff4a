-- The statements of a source, one line after another.
use Rattle.std.proofs.Common.{◌≡◌, ℕ, ◌+◌, ◌-◌, ◌<◌, ◌≤◌, List, [], ◌∷◌, ◌++◌, Bool, true, false, cond, Option, Some, None, Result, Ok, Err, length, drop, refl, ap, sym, ◌∙◌, subst, arith, length-take, length-drop, inl, inr}
use Rattle.std.proofs.lemmas.Option.{none-some, same_Some, cond_some}
use Rattle.std.proofs.lemmas.Bool.{cases_Bool}
use Rattle.std.proofs.Math.Bool.{and-false}
use Rattle.std.specs.Prelude.{◌==◌, ◌&&◌, nat_eq, codes}
use Rattle.std.specs.List.{AllByRecursion, prefix_len, starts_with, suffix_len, take_while}
use Rattle.std.specs.Option.{option_map}
use Rattle.line_text.specs.Lines.{LineValue, IsPlaced}
use Rattle.asm_parse.specs.Arg.{ArgValue}
use Rattle.asm_parse.specs.declared.syntax.AsmBody.{AsmBody}
use Rattle.asm_parse.specs.declared.syntax.AsmBody.TheVariants.{Nothing}
use Rattle.asm_parse.specs.declared.syntax.AsmLine.{AsmLine}
use Rattle.line_text.specs.Characters.{is_blank}
use Rattle.asm_parse.specs.Bytes.{is_name_byte}
use Rattle.asm_parse.specs.Words.{begins_name}
use Rattle.asm_parse.specs.Form.{Piece, skip, before_mark, said, after_label, label_of, body_named, body_of, operands_of, statement_of}
use Rattle.asm_parse.specs.Span.{IsBare, IsCut, IsCutArg, args_in}
use Rattle.asm_parse.proofs.PartLemmas.{IsPart, part_span, part_front, part_skip, part_after_blanks, part_trimmed, part_itself, part_line}
use Rattle.asm_parse.proofs.SpanLemmas.{made_of, operands_cut}
use Rattle.line_text.specs.declared.failure.LineFault.{LineFault}
use Rattle.asm_parse.specs.declared.fault.AsmWhy.{AsmWhy}
use Rattle.asm_parse.specs.declared.quoting.Quoting.TheVariants.{Outside}
use Rattle.asm_parse.proofs.BareLemmas.{blanks_back, front_bare, comment_gone}
use Rattle.asm_parse.proofs.MarkLemmas.{before_mark_front}

-- statements before those of the lines to come
abbrev pub before_rest : List AsmLine → Result (List AsmLine) (LineFault AsmWhy) → Result (List AsmLine) (LineFault AsmWhy)
before_rest statements (Ok more) = Ok (statements ++ more)
before_rest statements (Err fault) = Err fault

pub before_rest_none : (rest : Result (List AsmLine) (LineFault AsmWhy)) → before_rest [] rest ≡ rest
before_rest_none (Ok more) = refl
before_rest_none (Err fault) = refl

-- the operands that a body has lie in its part
args_named : (name : List ℕ) (args : List ArgValue) → args_in (body_named name args) ≡ args
args_named name args = elim (cases_Bool (starts_with nat_eq name (codes "."))) [ inl is ↦ rw is refl | inr is ↦ rw is refl ]

body_cut : (source : List ℕ) (low high : ℕ) (p : Piece) (body : AsmBody) → IsPart source low high p → body_of p ≡ Some body →
    AllByRecursion (IsCutArg source low high) (args_in body)
unfolding body_of
body_cut source low high p body part is =
    by_tests (length p.bytes == 0) (begins_name name) (operands_of (skip (length name) p)) refl is
  where
    name : List ℕ
    name = take_while is_name_byte p.bytes

    by_tests : (v w : Bool) (o : Option (List ArgValue)) → operands_of (skip (length name) p) ≡ o →
        cond v (Some Nothing) (cond w (option_map (λ args. body_named name args) o) None) ≡ Some body → AllByRecursion (IsCutArg source low high) (args_in body)
    by_tests true w o at is = subst (λ (b : AsmBody). AllByRecursion (IsCutArg source low high) (args_in b)) (same_Some _ _ is) tt
    by_tests false false o at is = absurd (none-some body is)
    by_tests false true None at is = absurd (none-some body is)
    by_tests false true (Some args) at is =
        subst (λ (b : AsmBody). AllByRecursion (IsCutArg source low high) (args_in b)) (same_Some _ _ is)
        (subst (AllByRecursion (IsCutArg source low high)) (sym (args_named name args))
        (operands_cut source low high (skip (length name) p) args (part_skip source low high (length name) p (omega (arith, length-take (prefix_len is_name_byte p.bytes) p.bytes)) part) at))

-- a label and its colon stand in the bytes
label_short : (bs name : List ℕ) → label_of bs ≡ Some name → length name + 1 ≤ length bs
unfolding label_of
label_short bs name is =
    by_rest (begins_name front) (drop (length front) bs) refl is
  where
    front : List ℕ
    front = take_while is_name_byte bs

    by_rest : (v : Bool) (rest : List ℕ) → drop (length front) bs ≡ rest → cond (v && starts_with nat_eq rest (codes ":")) (Some front) None ≡ Some name →
        length name + 1 ≤ length bs
    by_rest v [] at is = absurd (none-some name (rw (and-false v) at is))
    by_rest v (b ∷ rest) at is =
        let same = (cond_some (v && starts_with nat_eq (b ∷ rest) (codes ":")) front name is).1 in
        omega (arith, ap length at, length-drop (length front) bs, ap length same)

label_part : (source : List ℕ) (low high : ℕ) (p : Piece) (label : Option (List ℕ)) → label_of p.bytes ≡ label → IsPart source low high p →
    IsPart source low high (after_label label p)
label_part source low high p None at part = part
label_part source low high p (Some name) at part =
    part_after_blanks source low high _ (part_skip source low high (length name + 1) p (label_short p.bytes name at) part)

-- the spans of a statement
statement_cut : (source : List ℕ) (low high number : ℕ) (p : Piece) (statement : AsmLine) → IsPart source low high p → 0 < length p.bytes → IsBare p.bytes →
    statement_of number p ≡ Some statement → IsCut source statement
unfolding statement_of
statement_cut source low high number p statement part some bare is =
    let found = made_of _ (body_of (after_label (label_of p.bytes) p)) statement is in
    let here = part_itself source low high p part in
    subst (IsCut source) found.2 (record {
      some = omega arith;
      to = part.within;
      bare = subst IsBare (sym (part_span source low high p part)) bare;
      form = ap (λ (bs : List ℕ). statement_of number (record { start = p.start; bytes = bs })) (part_span source low high p part) ∙ is ∙ ap Some (sym found.2);
      args = body_cut source p.start (p.start + length p.bytes) (after_label (label_of p.bytes) p) found.0
          (label_part source p.start (p.start + length p.bytes) p (label_of p.bytes) refl here) found.1;
    })

-- what a line says stands in the source
said_part : (source : List ℕ) (line : LineValue) → IsPlaced source line → IsPart source 0 (length source) (said line)
said_part source line placed =
    let P : List ℕ → Type 0 = λ bs. IsPart source 0 (length source) (record { start = line.start; bytes = bs }) in
    part_trimmed source 0 (length source) _
    (subst P (before_mark_front 35 Outside line.text) (part_front source 0 (length source) (length (before_mark 35 Outside line.text)) _ (part_line source line placed)))

said_bare : (line : LineValue) → IsBare (said line).bytes
said_bare line =
    let code = before_mark 35 Outside line.text in
    let rest = drop (prefix_len is_blank code) code in
    record {
      front = front_bare (length rest - suffix_len is_blank rest) code;
      back = blanks_back rest;
      no_comment = comment_gone (length rest - suffix_len is_blank rest) line.text;
    }

-- the spans of what a line says
pub said_cut : (source : List ℕ) (line : LineValue) (statement : AsmLine) → IsPlaced source line → 0 < length (said line).bytes →
    statement_of line.number (said line) ≡ Some statement → IsCut source statement
said_cut source line statement placed some is = statement_cut source 0 (length source) line.number (said line) statement (said_part source line placed) some (said_bare line) is

-- one more statement behind others
pub cut_more : (source : List ℕ) (statements : List AsmLine) (statement : AsmLine) → AllByRecursion (IsCut source) statements → IsCut source statement →
    AllByRecursion (IsCut source) (statements ++ statement ∷ [])
cut_more source [] statement cut here = (here, tt)
cut_more source (first ∷ statements) statement cut here = (cut.0, cut_more source statements statement cut.1 here)

-- What holds of the sections that the second pass makes.
use Rattle.std.proofs.Common.{◌≡◌, ℕ, ◌+◌, ◌*◌, inl, inr, List, [], ◌∷◌, Option, Some, None, Result, Ok, Err, IfOk, length, refl, ap, sym, ◌∙◌, arith, length-append, suc, cond, mul-suc}
use Rattle.std.proofs.lemmas.Result.{IfOk-weaker}
use Rattle.std.specs.List.{flat_map}
use Rattle.asm_parse.specs.Expression.{ExpressionValue}
use Rattle.asm_parse.specs.declared.fault.AsmWhy.{AsmWhy}
use Rattle.asm_layout.specs.declared.number.NumberSize.{NumberSize}
use Rattle.asm_layout.specs.declared.number.NumberSize.TheVariants.{Byte, Half, Word}
use Rattle.asm_layout.specs.declared.section.Section.{Section}
use Rattle.asm_layout.specs.declared.section.Section.TheVariants.{Text, Data}
use Rattle.asm_layout.specs.Content.{Content, Instruction, Numbers, Given, content_length, filled_length, number_length}
use Rattle.asm_layout.specs.Draft.{Filling, Whole, Filled, Halves}
use Rattle.asm_layout.specs.Laid.{HasStart, length_in, total}
use Rattle.asm_layout.specs.Layout.{Layout, Placed}
use Rattle.asm_layout.specs.Value.{Names, defined}
use Rattle.asm_layout.proofs.OutcomeLemmas.{any_then, if_chosen, if_in_line, if_then}
use Rattle.mips_asm.specs.Emission.{bytes_of, values_of}
use Rattle.mips_asm.specs.Field.{field_bits_in}
use Rattle.mips_asm.specs.Number.{number_bytes, numbers_bytes}
use Rattle.mips_asm.specs.Second.{Sections, emitted, extended, filled, filled_from, start_fault, start_fault_of, unless_start, widened}
use Rattle.mips_asm.specs.Words.{filled_words, words_bytes}

-- the lengths of what is put

-- an answer that has this length, if it is a list
abbrev IsLong : {A E : Type 0} → ℕ → Result (List A) E → Type 0
IsLong n answer = IfOk answer (λ xs. length xs ≡ n)

words_length : (names : Names) (place w : ℕ) (filling : Filling) → IfOk (filled_words names place w filling) (λ words. length (words_bytes words) ≡ filled_length filling)
unfolding filled_words
words_length names place w Whole = refl
words_length names place w (Filled field e) = any_then (λ words. length (words_bytes words) ≡ 4) (field_bits_in names field place e) _ (λ bits. refl)
words_length names place w (Halves e) = any_then (λ words. length (words_bytes words) ≡ 8) (defined names e) _ (λ v. refl)

values_length : (names : Names) (es : List ExpressionValue) → IsLong (length es) (values_of names es)
values_length names [] = refl
values_length names (e ∷ es) =
    any_then (λ vs. length vs ≡ suc (length es)) (defined names e) _
    (λ v. if_then (λ vs. length vs ≡ length es) _ (values_of names es) _ (values_length names es) (λ vs is. ap suc is))

one_length : (size : NumberSize) (v : ℕ) → length (number_bytes size v) ≡ number_length size
one_length Byte v = refl
one_length Half v = refl
one_length Word v = refl

all_length : (size : NumberSize) (vs : List ℕ) → length (flat_map (number_bytes size) vs) ≡ number_length size * length vs
all_length size [] = omega arith
all_length size (v ∷ vs) = simp length-append (omega (arith, one_length size v, all_length size vs, mul-suc (number_length size) (length vs)))

numbers_length : (size : NumberSize) (vs : List ℕ) → IsLong (number_length size * length vs) (numbers_bytes size vs)
numbers_length size vs = search (if_chosen, all_length)

bytes_length : (names : Names) (place : ℕ) (content : Content) → IsLong (content_length content) (bytes_of names place content)
unfolding bytes_of
bytes_length names place (Instruction draft) =
    if_then (λ words. length (words_bytes words) ≡ filled_length draft.filling) (λ bs. length bs ≡ filled_length draft.filling) _ _
    (words_length names place draft.word draft.filling) (λ words is. is)
bytes_length names place (Numbers size es) =
    if_then (λ vs. length vs ≡ length es) (λ bs. length bs ≡ number_length size * length es) _ _
    (values_length names es) (λ vs is. rw (← is) (numbers_length size vs))
bytes_length names place (Given given) = refl

unless_if : {A : Type 0} (P : A → Type 0) (start : Option AsmWhy) (r : Result A AsmWhy) → (start ≡ None → IfOk r P) → IfOk (unless_start start r) P
unless_if P None r known = known refl
unless_if P (Some why) (Ok x) known = tt
unless_if P (Some why) (Err e) known = tt

-- nothing is wrong with `start`, where it is the label of one of the statements
abbrev pub StartIsGood : ℕ → List Placed → Type 0
StartIsGood size [] = Unit {0}
StartIsGood size (p ∷ ps) = (start_fault_of size p ≡ None) × StartIsGood size ps

-- the bytes of a section
abbrev pub section_bytes : Section → Sections → List ℕ
section_bytes Text sections = sections.text
section_bytes Data sections = sections.data_bytes

pub record IsFilled (size : ℕ) (placed : List Placed) (before after : Sections) : Type 0 where
  pub is : (section : Section) → length (section_bytes section after) ≡ length (section_bytes section before) + total section placed
  pub start_is : StartIsGood size placed

-- bytes more in a section
extended_length : (section other : Section) (bs : List ℕ) (before : Sections) →
    length (section_bytes section (extended other bs before)) ≡ length (section_bytes section before) + length_in section other (length bs)
extended_length Text Text bs before = length-append before.text bs
extended_length Text Data bs before = omega arith
extended_length Data Text bs before = omega arith
extended_length Data Data bs before = length-append before.data_bytes bs

widened_is : (names : Names) (size : ℕ) (before : Sections) (p : Placed) → IfOk (widened names size before p) (IsFilled size (p ∷ []) before)
unfolding emitted
widened_is names size before p =
    let Made : List ℕ → Type 0 = λ bs. (length bs ≡ content_length p.content) × (start_fault_of size p ≡ None) in
    let made : IfOk (emitted names size p) Made =
    unless_if Made _ _ (λ good. IfOk-weaker _ _ Made (λ bs long. (long, good)) (bytes_length names p.place p.content)) in
    if_then Made (IsFilled size (p ∷ []) before) _ _ (if_in_line Made p.line _ made) (λ bs is. record {
      is = λ section. rw (← is.0) (omega (arith, extended_length section p.section bs before));
      start_is = (is.1, tt);
    })

filled_from_is : (names : Names) (size : ℕ) (before : Sections) (placed : List Placed) → IfOk (filled_from names size before placed) (IsFilled size placed before)
filled_from_is names size before [] = record { is = λ section. omega arith; start_is = tt }
filled_from_is names size before (p ∷ ps) =
    let Done = IsFilled size (p ∷ ps) before in
    if_then (IsFilled size (p ∷ []) before) Done _ _ (widened_is names size before p) (λ middle one.
    IfOk-weaker _ (IsFilled size ps middle) Done (λ after rest. record {
      is = λ section. omega (arith, one.is section, rest.is section);
      start_is = (one.start_is.0, rest.start_is);
    }) (filled_from_is names size middle ps))

-- the sections of the second pass
pub filled_is : (layout : Layout) → IfOk (filled layout) (IsFilled layout.text layout.placed (record { text = []; data_bytes = [] }))
unfolding filled
filled_is layout = filled_from_is layout.names layout.text (record { text = []; data_bytes = [] }) layout.placed

-- where `start` stands, nothing is wrong with it
pub start_good : (size place : ℕ) (placed : List Placed) → StartIsGood size placed → HasStart place placed → start_fault size place ≡ None
start_good size place [] good has = absurd has
start_good size place (p ∷ ps) good (inl here) =
    sym (ap (start_fault size) here.1) ∙ sym (ap (λ b. cond b (start_fault size p.place) None) here.0) ∙ good.0
start_good size place (p ∷ ps) good (inr later) = start_good size place ps good.1 later

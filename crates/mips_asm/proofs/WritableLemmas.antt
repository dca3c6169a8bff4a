-- What is assembled can be written as an ELF file.
use Rattle.std.proofs.Common.{◌≡◌, ℕ, ◌+◌, ◌%◌, ◌<◌, ◌≤◌, Bool, true, false, List, [], ◌∷◌, Option, Some, None, Result, Ok, Err, ◌==◌, if◌then◌else◌, length, refl, arith, lit<, lit≤, IfOk}
use Rattle.std.proofs.lemmas.Bool.{eqb-false}
use Rattle.std.proofs.lemmas.Bool.Decides.{nat_tests}
use Rattle.std.proofs.lemmas.Result.{IfOk-at_ok}
use Rattle.std.specs.Option.{unwrap_or}
use Rattle.line_text.specs.declared.failure.Failure.{Failure}
use Rattle.line_text.specs.declared.failure.LineFault.{LineFault}
use Rattle.line_text.specs.Failing.{Gives}
use Rattle.asm_parse.specs.declared.fault.AsmWhy.{AsmWhy}
use Rattle.elf_static.specs.ObjectValue.{ObjectValue, PartValue}
use Rattle.elf_static.specs.Writable.{IsWritable}
use Rattle.asm_layout.specs.declared.section.Section.TheVariants.{Text, Data}
use Rattle.asm_layout.specs.Laid.{IsLaid, StartIn}
use Rattle.asm_layout.specs.Layout.{Placed}
use Rattle.asm_layout.proofs.LaidLemmas.{laid_laid}
use Rattle.asm_layout.proofs.OutcomeLemmas.{if_other, if_then}
use Rattle.mips_asm.specs.Assembled.{assembled}
use Rattle.mips_asm.specs.Second.{filled, start_fault}
use Rattle.mips_asm.proofs.FilledLemmas.{IsFilled, StartIsGood, filled_is, start_good}
use Rattle.asm_layout.specs.Limits.{section_limit}

text_part : List ℕ → PartValue
text_part bs = record { vaddr = 0x00400000; bytes = bs; writable = false }

data_part : List ℕ → PartValue
data_part bs = record { vaddr = 0x10000000; bytes = bs; writable = true }

program : Bool → ℕ → List ℕ → List ℕ → ObjectValue
program bare entry text dat = record { entry = entry; parts = text_part text ∷ (if bare then [] else data_part dat ∷ []) }

-- an address of an instruction in a text of so many bytes
record IsEntry (size entry : ℕ) : Type 0 where
  aligned : entry % 4 ≡ 0
  from : 0x00400000 ≤ entry
  to : entry < 0x00400000 + size

writable : (bare : Bool) (entry : ℕ) (text dat : List ℕ) → length text ≤ section_limit → length dat ≤ section_limit → IsEntry (length text) entry → IsWritable (program bare entry text dat)
unfolding program text_part data_part
writable true entry text dat text_fits data_fits at = record {
  fewest = lit≤ tt;
  most = lit≤ tt;
  ranges = ((λ address covered. (let a = covered.0 in omega arith, let b = covered.1 in omega arith)), tt);
  apart = (tt, tt);
  aligned = at.aligned;
  entered = (0, text_part text, lit< tt, refl, (at.from, at.to));
  room = omega arith;
}
writable false entry text dat text_fits data_fits at = record {
  fewest = lit≤ tt;
  most = lit≤ tt;
  ranges = ((λ address covered. (let a = covered.0 in omega arith, let b = covered.1 in omega arith)), ((λ address covered. (let a = covered.0 in omega arith, let b = covered.1 in omega arith)), tt));
  apart = (((λ address covered other. (let a = covered.1 in let b = other.0 in omega arith)), tt), (tt, tt));
  aligned = at.aligned;
  entered = (0, text_part text, lit< tt, refl, (at.from, at.to));
  room = omega arith;
}

good_entry : (size place : ℕ) → start_fault size place ≡ None → IsEntry size place
good_entry size place h = record { aligned = grind (arith, nat_tests); from = grind (arith, nat_tests); to = grind (arith, nat_tests) }

entry_of : (size : ℕ) (start : Option ℕ) (placed : List Placed) → 0 < size → StartIsGood size placed → StartIn start placed → IsEntry size (unwrap_or start 0x00400000)
entry_of size None placed some good has = record { aligned = refl; from = lit≤ tt; to = omega arith }
entry_of size (Some place) placed some good has = good_entry size place (start_good size place placed good has)

-- what a source assembles to
assembled_if : (source : List ℕ) → IfOk (assembled source) IsWritable
unfolding assembled program text_part data_part
assembled_if source =
    if_then IsLaid IsWritable _ _ (laid_laid source) (λ layout known.
    if_other IsWritable (layout.text == 0) _ _ (λ some.
    if_then (IsFilled layout.text layout.placed (record { text = []; data_bytes = [] })) IsWritable (filled layout) _ (filled_is layout) (λ sections fill.
    let text_is : length sections.text ≡ layout.text = omega (arith, fill.is Text, known.is Text) in
    let data_is : length sections.data_bytes ≡ layout.data_bytes = omega (arith, fill.is Data, known.is Data) in
    let entry = entry_of layout.text layout.start layout.placed (let apart = eqb-false layout.text 0 some in omega arith) fill.start_is known.start_is in
    writable (length sections.data_bytes == 0) (unwrap_or layout.start 0x00400000) sections.text sections.data_bytes
    (omega (arith, known.fits Text)) (omega (arith, known.fits Data)) (rw text_is entry))))

pub assembled_writable : (source : List ℕ) (object : ObjectValue) → assembled source ≡ Ok object → IsWritable object
assembled_writable source object is = IfOk-at_ok IsWritable is (assembled_if source)

-- an answer that is due
pub due_writable : {X : Type 0} (view : X → ObjectValue) (source : List ℕ) (answer : Result X (Failure (LineFault AsmWhy))) → Gives view answer (assembled source) → IfOk answer (λ x. IsWritable (view x))
due_writable view source (Ok x) gives = assembled_writable source (view x) gives
due_writable view source (Err e) gives = tt

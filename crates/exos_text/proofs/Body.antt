-- The program of the load is an ELF file without fault, and fills two pages.
use Rattle.std.proofs.Common.{◌≡◌, ◌≤◌, ◌<◌, ℕ, zero, suc, ◌+◌, ◌-◌, ◌*◌, Bool, true, false, List, [], ◌∷◌, None, length, arith, refl, subst, sym}
use Rattle.std.specs.Prelude.{max, min, ◌||◌}
use Rattle.std.specs.List.{filter, list_any}
use Rattle.aegis_limits.specs.Limits.{vpn_end}
use Rattle.byte_numbers.specs.Numbers.{half_at, word_at}
use Rattle.elf_static.specs.ElfFaults.{elf_fault, kind_fault, place_fault, header_fault, entry_fault}
use Rattle.elf_static.specs.ElfValue.{ElfValue, SegmentValue, elf_of, segment_at}
use Rattle.segment_pages.specs.Pages.{numbers_from, pages_from, touches, vpns}
use Rattle.exos_text.specs.LoadElf.{load_elf}

pub no_fault : elf_fault load_elf ≡ None
unfolding load_elf elf_fault kind_fault place_fault header_fault entry_fault elf_of segment_at word_at half_at
no_fault = refl

-- it has two segments, of code and of data
segments_are : (elf_of load_elf).segments ≡ segment_at load_elf 52 ∷ segment_at load_elf 84 ∷ []
unfolding load_elf elf_of segment_at word_at half_at
segments_are = refl

code_place : (segment_at load_elf 52).vaddr ≡ 4096 * 0x400
unfolding load_elf segment_at word_at
code_place = refl

code_size : (segment_at load_elf 52).memsz ≡ 88
unfolding load_elf segment_at word_at
code_size = refl

data_place : (segment_at load_elf 84).vaddr ≡ 4096 * 0x10000
unfolding load_elf segment_at word_at
data_place = refl

data_size : (segment_at load_elf 84).memsz ≡ 12
unfolding load_elf segment_at word_at
data_size = refl

-- A segment that lies within a page touches no other.
only_page : (segment : SegmentValue) (k vpn : ℕ) → segment.vaddr ≡ 4096 * vpn → segment.memsz ≤ 4096 → touches k segment ≡ true → k ≡ vpn
only_page segment k vpn place size is =
    let meets : max segment.vaddr (4096 * k) < min (segment.vaddr + segment.memsz) (4096 * (k + 1)) = grind (arith, is) in
    omega (arith, meets, place, size)

-- no number passes
passes_none : (test : ℕ → Bool) (first count : ℕ) → ((k : ℕ) → first ≤ k → test k ≡ true → ⊥) → filter test (numbers_from first count) ≡ []
passes_none test first zero none = refl
passes_none test first (suc count) none = by_test (test first) refl (passes_none test (first + 1) count (λ k from. none k (omega (arith, from))))
  where
    by_test : (passes : Bool) → test first ≡ passes → filter test (numbers_from (first + 1) count) ≡ [] → filter test (numbers_from first (suc count)) ≡ []
    by_test true is others = absurd (none first (omega arith) is)
    by_test false is others = rw is others

-- a test that one number alone passes, passes one number at most
passes_one : (test : ℕ → Bool) (only first count : ℕ) → ((k : ℕ) → test k ≡ true → k ≡ only) → length (filter test (numbers_from first count)) ≤ 1
passes_one test only first zero one = omega arith
passes_one test only first (suc count) one = by_test (test first) refl (passes_one test only (first + 1) count one)
  where
    by_test : (passes : Bool) → test first ≡ passes → length (filter test (numbers_from (first + 1) count)) ≤ 1 → length (filter test (numbers_from first (suc count))) ≤ 1
    by_test true is others =
        let none : filter test (numbers_from (first + 1) count) ≡ []
        = passes_none test (first + 1) count (λ k from passes. let a : k ≡ only = one k passes in let b : first ≡ only = one first is in omega (arith, a, b, from)) in
        rw (is, none) (omega arith)
    by_test false is others = rw is others

-- what passes one of two tests, or both
passes_either : (one other : ℕ → Bool) (numbers : List ℕ) → length (filter (λ k. one k || (other k || false)) numbers) ≤ length (filter one numbers) + length (filter other numbers)
passes_either one other [] = omega arith
passes_either one other (k ∷ numbers) = by_tests (one k) (other k) refl refl (passes_either one other numbers)
  where
    by_tests : (a b : Bool) → one k ≡ a → other k ≡ b → length (filter (λ j. one j || (other j || false)) numbers) ≤ length (filter one numbers) + length (filter other numbers)
        → length (filter (λ j. one j || (other j || false)) (k ∷ numbers)) ≤ length (filter one (k ∷ numbers)) + length (filter other (k ∷ numbers))
    by_tests true true is_one is_other rest = rw (is_one, is_other) (omega (arith, rest))
    by_tests true false is_one is_other rest = rw (is_one, is_other) (omega (arith, rest))
    by_tests false true is_one is_other rest = rw (is_one, is_other) (omega (arith, rest))
    by_tests false false is_one is_other rest = rw (is_one, is_other) (omega (arith, rest))

-- Of two segments each touches one page, so that they fill two pages at most.
two_between : (code rest : SegmentValue) (one other first count : ℕ) → ((k : ℕ) → touches k code ≡ true → k ≡ one) → ((k : ℕ) → touches k rest ≡ true → k ≡ other)
    → length (filter (λ k. list_any (touches k) (code ∷ rest ∷ [])) (numbers_from first count)) ≤ 2
two_between code rest one other first count in_code in_rest =
    let a = passes_one (λ k. touches k code) one first count in_code in
    let b = passes_one (λ k. touches k rest) other first count in_rest in
    let both = passes_either (λ k. touches k code) (λ k. touches k rest) (numbers_from first count) in
    omega (arith, a, b, both)

two_pages : (program : ElfValue) (code rest : SegmentValue) (one other first : ℕ) → program.segments ≡ code ∷ rest ∷ []
    → ((k : ℕ) → touches k code ≡ true → k ≡ one) → ((k : ℕ) → touches k rest ≡ true → k ≡ other) → length (pages_from program first) ≤ 2
unfolding pages_from
two_pages program code rest one other first are in_code in_rest =
    let P : List SegmentValue → Type 0 = λ segments. length (filter (λ k. list_any (touches k) segments) (numbers_from first (vpn_end - first))) ≤ 2 in
    subst P (sym are) (two_between code rest one other first (vpn_end - first) in_code in_rest)

pub pages_at_most : length (vpns (elf_of load_elf)) ≤ 2
pages_at_most =
    two_pages (elf_of load_elf) (segment_at load_elf 52) (segment_at load_elf 84) 0x400 0x10000 0 segments_are
    (λ k is. only_page (segment_at load_elf 52) k 0x400 code_place (omega (arith, code_size)) is)
    (λ k is. only_page (segment_at load_elf 84) k 0x10000 data_place (omega (arith, data_size)) is)

-- The first page that segments touch, and the list of the pages.
use Rattle.std.proofs.Common.{◌≡◌, ◌≤◌, ◌<◌, ℕ, zero, suc, ◌+◌, ◌-◌, Bool, true, false, List, [], ◌∷◌, ◌++◌, Option, None, Some, length, take, get_or, min, refl, ap, sym, subst, ◌∙◌, inl, inr, arith}
use Rattle.std.specs.Prelude.{IfSome, IfNone}
use Rattle.std.specs.List.{list_any, filter, AllByRecursion}
use Rattle.std.proofs.lemmas.Bool.{cases_lt, or_from, or_left, or_right}
use Rattle.std.proofs.lemmas.List.{take_more, length-map, get_or-map}
use Rattle.std.proofs.lemmas.List.Folds.{list_any-append}
use Rattle.aegis_limits.specs.Limits.{vpn_end}
use Rattle.elf_static.specs.declared.segment.Segment.{Segment}
use Rattle.elf_static.specs.AcceptedElf.{IsSegment}
use Rattle.elf_static.specs.SegmentSeen.{segment_seen, segments_seen}
use Rattle.elf_static.specs.ElfValue.{SegmentValue, ElfValue}
use Rattle.segment_pages.specs.FirstPage.{TouchesFirst, IsFirstPage, lesser}
use Rattle.segment_pages.specs.Pages.{numbers_from, touches, has_page, pages_from}

neither_touches : (k : ℕ) (xs ys : List SegmentValue) → list_any (touches k) xs ≡ false → list_any (touches k) ys ≡ false → list_any (touches k) (xs ++ ys) ≡ false
neither_touches k xs ys x y = list_any-append (touches k) xs ys ∙ or_from (list_any (touches k) xs) (list_any (touches k) ys) x y

-- the first page of some segments, before which others have none
first_of_left : (first : ℕ) (xs ys : List SegmentValue) (vpn : ℕ) → TouchesFirst first xs vpn → ((k : ℕ) → first ≤ k → k < vpn → list_any (touches k) ys ≡ false) → TouchesFirst first (xs ++ ys) vpn
first_of_left first xs ys vpn t none = record {
  from = t.from;
  above = t.above;
  below = t.below;
  touched = list_any-append (touches vpn) xs ys ∙ or_left (list_any (touches vpn) xs) (list_any (touches vpn) ys) t.touched;
  before = λ k from before. neither_touches k xs ys (t.before k from before) (none k from before);
}

first_of_right : (first : ℕ) (xs ys : List SegmentValue) (vpn : ℕ) → TouchesFirst first ys vpn → ((k : ℕ) → first ≤ k → k < vpn → list_any (touches k) xs ≡ false) → TouchesFirst first (xs ++ ys) vpn
first_of_right first xs ys vpn t none = record {
  from = t.from;
  above = t.above;
  below = t.below;
  touched = list_any-append (touches vpn) xs ys ∙ or_right (list_any (touches vpn) xs) (list_any (touches vpn) ys) t.touched;
  before = λ k from before. neither_touches k xs ys (none k from before) (t.before k from before);
}

-- the first page of segments and others
first_of_both : (first : ℕ) (xs ys : List SegmentValue) (a b : Option ℕ) → IsFirstPage first xs a → IsFirstPage first ys b → IsFirstPage first (xs ++ ys) (lesser a b)
first_of_both first xs ys None None x y = λ k from. neither_touches k xs ys (x k from) (y k from)
first_of_both first xs ys None (Some b) x y = first_of_right first xs ys b y (λ k from before. x k from)
first_of_both first xs ys (Some a) None x y = first_of_left first xs ys a x (λ k from before. y k from)
first_of_both first xs ys (Some a) (Some b) x y = elim (cases_lt a b) [
  | inl less ↦
      let least : min a b ≡ a = omega (arith, less) in
      subst (TouchesFirst first (xs ++ ys)) (sym least) (first_of_left first xs ys a x (λ k from before. y.before k from (omega (arith, before, less))))
  | inr most ↦
      let least : min a b ≡ b = omega (arith, most) in
      subst (TouchesFirst first (xs ++ ys)) (sym least) (first_of_right first xs ys b y (λ k from before. x.before k from (omega (arith, before, most))))
]

-- the segments so far and the next
pub first_of_more : (first : ℕ) (segments : List Segment) (i : ℕ) (d : Segment) (a b : Option ℕ) → i < length segments
    → IsFirstPage first (take i (segments_seen segments)) a → IsFirstPage first (segment_seen (get_or segments i d) ∷ []) b
    → IsFirstPage first (take (i + 1) (segments_seen segments)) (lesser a b)
first_of_more first segments i d a b below so_far next =
    let within : i < length (segments_seen segments) = rw (length-map segments segment_seen) below in
    let more : take (i + 1) (segments_seen segments) ≡ take i (segments_seen segments) ++ segment_seen (get_or segments i d) ∷ [] =
    take_more (segments_seen segments) i (segment_seen d) within
    ∙ ap (λ (s : SegmentValue). take i (segments_seen segments) ++ s ∷ []) (get_or-map segment_seen segments i d (segment_seen d) below) in
    subst (λ (xs : List SegmentValue). IsFirstPage first xs (lesser a b)) (sym more)
    (first_of_both first (take i (segments_seen segments)) (segment_seen (get_or segments i d) ∷ []) a b so_far next)

-- one of the segments is within its limits
pub segment_within : (segments : List Segment) (i : ℕ) (d : Segment) → AllByRecursion IsSegment (segments_seen segments) → i < length segments → IsSegment (segment_seen (get_or segments i d))
segment_within [] i d all below = absurd (omega arith)
segment_within (segment ∷ segments) zero d all below = all.0
segment_within (segment ∷ segments) (suc i) d all below = segment_within segments i d all.1 (omega arith)

-- a number that passes comes first
filter_here : (test : ℕ → Bool) (count first vpn n : ℕ) → vpn ≡ first → n ≡ count → test vpn ≡ true → filter test (numbers_from first (suc count)) ≡ vpn ∷ filter test (numbers_from (vpn + 1) n)
filter_here test count first vpn n here same passes =
    let passes_here : test first ≡ true = ap test (sym here) ∙ passes in
    rw passes_here cc

-- one that fails is passed over
filter_on : (test : ℕ → Bool) (count first : ℕ) → test first ≡ false → filter test (numbers_from first (suc count)) ≡ filter test (numbers_from (first + 1) count)
filter_on test count first fails = rw fails refl

-- the numbers that pass, where none before this one does
filter_first : (test : ℕ → Bool) (count first vpn : ℕ) → first ≤ vpn → vpn < first + count → ((k : ℕ) → first ≤ k → k < vpn → test k ≡ false) → test vpn ≡ true
    → filter test (numbers_from first count) ≡ vpn ∷ filter test (numbers_from (vpn + 1) (first + count - (vpn + 1)))
filter_first test zero first vpn from within before passes = absurd (omega arith)
filter_first test (suc count) first vpn from within before passes = elim (cases_lt first vpn) [
  | inl later ↦
      let next : first + 1 ≤ vpn = omega arith in
      let inside : vpn < first + 1 + count = omega arith in
      let left : first + 1 + count - (vpn + 1) ≡ first + suc count - (vpn + 1) = omega arith in
      filter_on test count first (before first (omega arith) later)
      ∙ filter_first test count (first + 1) vpn next inside (λ k from_next. before k (omega arith)) passes
      ∙ ap (λ (n : ℕ). vpn ∷ filter test (numbers_from (vpn + 1) n)) left
  | inr here ↦ filter_here test count first vpn (first + suc count - (vpn + 1)) (omega arith) (omega arith) passes
]

-- no number passes
filter_none : (test : ℕ → Bool) (count first : ℕ) → ((k : ℕ) → first ≤ k → test k ≡ false) → filter test (numbers_from first count) ≡ []
filter_none test zero first fails = refl
filter_none test (suc count) first fails =
    filter_on test count first (fails first (omega arith)) ∙ filter_none test count (first + 1) (λ k from. fails k (omega (arith, from)))

pub some_page : (program : ElfValue) (first vpn : ℕ) → TouchesFirst first program.segments vpn → pages_from program first ≡ vpn ∷ pages_from program (vpn + 1)
unfolding pages_from
some_page program first vpn t =
    let within : vpn < first + (vpn_end - first) = omega (arith, t.from, t.below) in
    let left : first + (vpn_end - first) - (vpn + 1) ≡ vpn_end - (vpn + 1) = omega (arith, t.from, t.below) in
    filter_first (has_page program) (vpn_end - first) first vpn t.from within t.before t.touched
    ∙ ap (λ (n : ℕ). vpn ∷ filter (has_page program) (numbers_from (vpn + 1) n)) left

pub no_page : (program : ElfValue) (first : ℕ) → IsFirstPage first program.segments None → pages_from program first ≡ []
unfolding pages_from
no_page program first none = filter_none (has_page program) (vpn_end - first) first none

-- the pages from a number on begin with the first
pub pages_begin : (program : ElfValue) (first : ℕ) (result : Option ℕ) → IsFirstPage first program.segments result → IfSome result (λ vpn. pages_from program first ≡ vpn ∷ pages_from program (vpn + 1))
pages_begin program first None none = tt
pages_begin program first (Some vpn) t = some_page program first vpn t

-- there are none
pub pages_end : (program : ElfValue) (first : ℕ) (result : Option ℕ) → IsFirstPage first program.segments result → IfNone result (pages_from program first ≡ [])
pages_end program first None none = no_page program first none
pages_end program first (Some vpn) t = tt

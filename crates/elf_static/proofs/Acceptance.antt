-- A program of a file without a fault is within its limits.
use Rattle.std.proofs.Common.{◌≡◌, ◌≤◌, ◌<◌, ◌%◌, ℕ, zero, suc, ◌+◌, true, false, List, [], ◌∷◌, ◌++◌, Option, None, Some, length, sym, arith, subst, refl}
use Rattle.std.specs.Prelude.{IfSome, option_to_list, ◌&&◌, ◌==◌}
use Rattle.std.specs.List.{AllByRecursion, cons_option, list_any}
use Rattle.std.proofs.lemmas.Bool.{and_parts, cond_both, or_parts}
use Rattle.std.proofs.lemmas.List.{append-nil, length-take}
use Rattle.std.proofs.lemmas.List.Elements.{All-from_recursion, All-push, recursion_from_All}
use Rattle.std.proofs.lemmas.List.Folds.{Any-from_list_any}
use Rattle.elf_static.specs.ElfValue.{SegmentValue, entry_in, first_header, header_count_in, headers_from, headers, is_kept, kept_at, memsz_in, filesz_in, segment_at, segments_of, elf_of}
use Rattle.elf_static.specs.ElfFaults.{meets, is_in_range, is_covered, header_fault, headers_fault, place_fault, entry_fault, elf_fault}
use Rattle.elf_static.specs.Apart.{AreApart, NoTwoMeet}
use Rattle.elf_static.specs.AcceptedElf.{Covers, IsSegment, IsAcceptedElf}
use Rattle.elf_static.proofs.HeaderSteps.{kept_more}

push : {X : Type 0} (P : X → Type 0) (xs : List X) (x : X) → AllByRecursion P xs → P x → AllByRecursion P (xs ++ x ∷ [])
push P xs x all one = recursion_from_All P (xs ++ x ∷ []) (All-push P xs x (All-from_recursion P xs all) one)

-- a segment without a fault lies apart from each earlier one
apart : (segment other : SegmentValue) → meets segment other ≡ false → AreApart Covers other segment
apart segment other none address in_other in_segment = grind (arith, none, in_other, in_segment)

apart_more : (segment : SegmentValue) (earlier : List SegmentValue) → list_any (meets segment) earlier ≡ false → NoTwoMeet Covers earlier → NoTwoMeet Covers (earlier ++ segment ∷ [])
apart_more segment [] none so_far = (tt, tt)
apart_more segment (other ∷ earlier) none so_far =
    let parts = or_parts (meets segment other) (list_any (meets segment) earlier) none in
    (push (AreApart Covers other) earlier segment so_far.0 (apart segment other parts.0), apart_more segment earlier parts.1 so_far.1)

-- segments that lie apart within their limits
record AllPass (segments : List SegmentValue) : Type 0 where
  pub fit : AllByRecursion IsSegment segments
  pub apart : NoTwoMeet Covers segments

-- a segment that may stand behind the earlier ones
record Passes (earlier : List SegmentValue) (segment : SegmentValue) : Type 0 where
  pub fits : IsSegment segment
  pub apart : list_any (meets segment) earlier ≡ false

fits : (file : List ℕ) (header : ℕ) → is_kept file header ≡ true → is_in_range file header ≡ true → IsSegment (segment_at file header)
unfolding segment_at
fits file header kept range =
    let filled : 0 < memsz_in file header = grind (arith, kept) in
    let within : filesz_in file header ≤ memsz_in file header = grind (arith, range) in
    record {
      filled = filled;
      given = simp length-take (omega (arith, within));
      above = grind (arith, range, filled);
      below = grind (arith, range, filled);
    }

passes : (file : List ℕ) (earlier : List SegmentValue) (header : ℕ) → header_fault file earlier header ≡ None → is_kept file header ≡ true → Passes earlier (segment_at file header)
unfolding header_fault
passes file earlier header none kept = record { fits = fits file header kept (grind (arith, kept)); apart = grind (arith, kept) }

one_more : (earlier : List SegmentValue) (kept : Option SegmentValue) → IfSome kept (Passes earlier) → AllPass earlier → AllPass (earlier ++ option_to_list kept)
one_more earlier None passed so_far = subst AllPass (sym (append-nil earlier)) so_far
one_more earlier (Some segment) passed so_far = record {
  fit = push IsSegment earlier segment so_far.fit passed.fits;
  apart = apart_more segment earlier passed.apart so_far.apart;
}

all_pass : (file headers : List ℕ) (earlier : List SegmentValue) → headers_fault file earlier headers ≡ None → AllPass earlier → AllPass (earlier ++ segments_of file headers)
all_pass file [] earlier none so_far = subst AllPass (sym (append-nil earlier)) so_far
all_pass file (header ∷ headers) earlier none so_far =
    let kept = kept_at file header in
    let here : header_fault file earlier header ≡ None = grind (arith, none) in
    let passed = cond_both (is_kept file header) (Some (segment_at file header)) None (λ kept. IfSome kept (Passes earlier)) (passes file earlier header here) (λ _. tt) in
    subst AllPass (kept_more earlier kept (segments_of file headers))
    (all_pass file headers (earlier ++ option_to_list kept) (grind (arith, none)) (one_more earlier kept passed so_far))

-- there are no more segments than headers
kept_count : (kept : Option SegmentValue) (others : List SegmentValue) (count : ℕ) → length others ≤ count → length (cons_option kept others) ≤ suc count
kept_count None others count most = omega arith
kept_count (Some segment) others count most = omega arith

count_of_segments : (count : ℕ) (file : List ℕ) (header : ℕ) → length (segments_of file (headers_from count header)) ≤ count
count_of_segments zero file header = omega arith
count_of_segments (suc count) file header =
    kept_count (kept_at file header) (segments_of file (headers_from count (header + 32))) count (count_of_segments count file (header + 32))

covers : (address : ℕ) (segment : SegmentValue) → is_covered address segment ≡ true → Covers segment address
covers address segment covered = (grind (arith, covered), grind (arith, covered))

-- the segments of at most 64 headers without a fault, and an entry in one of them
pub parts_accepted : (file : List ℕ) (count first entry : ℕ) (segments : List SegmentValue) → count ≤ 64 → headers_fault file [] (headers_from count first) ≡ None
    → segments ≡ segments_of file (headers_from count first) → ((entry % 4 == 0) && list_any (is_covered entry) segments) ≡ true
    → IsAcceptedElf (record { entry = entry; segments = segments })
parts_accepted file count first entry segments few none are passed =
    let all = subst AllPass (sym are) (all_pass file (headers_from count first) [] none (record { fit = tt; apart = tt })) in
    let parts = and_parts (entry % 4 == 0) (list_any (is_covered entry) segments) passed in
    let found = Any-from_list_any (is_covered entry) segments parts.1 in
    record {
      most = rw are (omega (arith, few, count_of_segments count file first));
      segments = all.fit;
      apart = all.apart;
      aligned = grind (arith, parts.0);
      entered = (found.0, found.1, found.2, found.3, covers entry found.1 found.4);
    }

few_headers : (file : List ℕ) → place_fault file ≡ None → header_count_in file ≤ 64
unfolding place_fault
few_headers file none = grind arith

entry_passes : (entry : ℕ) (segments : List SegmentValue) → entry_fault (record { entry = entry; segments = segments }) ≡ None → ((entry % 4 == 0) && list_any (is_covered entry) segments) ≡ true
unfolding entry_fault
entry_passes entry segments none = grind arith

pub accepted : (file : List ℕ) → elf_fault file ≡ None → IsAcceptedElf (elf_of file)
unfolding elf_fault elf_of
accepted file none =
    let place_none : place_fault file ≡ None = grind arith in
    let headers_none : headers_fault file [] (headers file) ≡ None = grind arith in
    let entry_none : entry_fault (elf_of file) ≡ None = grind arith in
    let segments = segments_of file (headers file) in
    parts_accepted file (header_count_in file) (first_header file) (entry_in file) segments (few_headers file place_none) headers_none refl
    (entry_passes (entry_in file) segments entry_none)

-- A written file has no fault, and is read as what was written.
use Rattle.std.proofs.Common.{◌≡◌, ◌≤◌, ◌<◌, ◌^◌, ℕ, ◌+◌, Bool, true, false, List, [], ◌∷◌, ◌++◌, Option, None, Some, map, length, drop, inl, inr, refl, ap, sym, ◌∙◌, append_assoc, arith, subst}
use Rattle.std.specs.Prelude.{max, min, option_to_list, if◌then◌else◌}
use Rattle.std.specs.List.{AllByRecursion, cons_option, list_any, filter}
use Rattle.std.proofs.lemmas.Bool.{cases_lt, cond_both, or_cases, or_left, or_right}
use Rattle.std.proofs.lemmas.List.{append-nil, drop_at, length-append}
use Rattle.std.proofs.lemmas.List.Elements.{All-from_recursion, recursion_from_All}
use Rattle.std.proofs.lemmas.List.Folds.{list_any-append, list_any-from_Any}
use Rattle.std.proofs.lemmas.List.Sums.{sum_by-cons}
use Rattle.elf_static.specs.declared.fault.ElfFault.{ElfFault}
use Rattle.elf_static.specs.Apart.{AreApart, NoTwoMeet}
use Rattle.elf_static.specs.Faulting.{◌or_else◌}
use Rattle.elf_static.specs.ObjectValue.{ObjectValue, PartValue}
use Rattle.elf_static.specs.Writable.{Covers, IsInRange, IsWritable}
use Rattle.elf_static.specs.Layout.{bytes_start, bodies_length, file_header, program_header, program_headers, bodies, elf_text}
use Rattle.elf_static.specs.ElfValue.{SegmentValue, headers, headers_from, kept_at, segments_of, elf_of}
use Rattle.elf_static.specs.ElfFaults.{meets, is_covered, headers_fault, entry_fault, elf_fault}
use Rattle.elf_static.specs.Loaded.{has_bytes, segment_of, loaded}
use Rattle.elf_static.proofs.HeaderReread.{behind, header_reads, segment_in}
use Rattle.elf_static.proofs.FileReread.{FileHeader, file_header_read}
use Rattle.elf_static.proofs.Sizes.{file_header_size, program_header_size, program_headers_size, elf_text_size}

-- parts that lie apart are segments that don't meet
apart_segments : (part other : PartValue) → AreApart Covers part other → meets (segment_of other) (segment_of part) ≡ false
apart_segments part other apart =
    let start = max other.vaddr part.vaddr in
    let end = min (other.vaddr + length other.bytes) (part.vaddr + length part.bytes) in
    elim (cases_lt start end) [
      | inl below ↦ absurd (apart start (omega (arith, below), omega (arith, below)) (omega (arith, below), omega (arith, below)))
      | inr above ↦ grind (arith, above)
    ]

-- the part has no byte in the segments so far
abbrev MeetsNone : List SegmentValue → PartValue → Type 0
MeetsNone earlier part = list_any (meets (segment_of part)) earlier ≡ false

one_more : (has : Bool) (part other : PartValue) (earlier : List SegmentValue) → meets (segment_of other) (segment_of part) ≡ false → MeetsNone earlier other
    → MeetsNone (earlier ++ option_to_list (if has then Some (segment_of part) else None)) other
one_more true part other earlier apart none = list_any-append (meets (segment_of other)) earlier (segment_of part ∷ []) ∙ rw (none, apart) refl
one_more false part other earlier apart none = ap (list_any (meets (segment_of other))) (append-nil earlier) ∙ none

all_more : (part : PartValue) (parts : List PartValue) (earlier : List SegmentValue) → AllByRecursion (AreApart Covers part) parts → AllByRecursion (MeetsNone earlier) parts
    → AllByRecursion (MeetsNone (earlier ++ option_to_list (segment_in part))) parts
all_more part [] earlier apart none = tt
all_more part (other ∷ parts) earlier apart none =
    (one_more (has_bytes part) part other earlier (apart_segments part other apart.0) none.0, all_more part parts earlier apart.1 none.1)

kept_first : (has : Bool) (part : PartValue) (others : List PartValue)
    → cons_option (if has then Some (segment_of part) else None) (map segment_of others) ≡ map segment_of (if has then part ∷ others else others)
kept_first true part others = refl
kept_first false part others = refl

-- headers one behind the other
record AllRead (file : List ℕ) (earlier : List SegmentValue) (header : ℕ) (parts : List PartValue) : Type 0 where
  pub faults : headers_fault file earlier (headers_from (length parts) header) ≡ None
  pub segments : segments_of file (headers_from (length parts) header) ≡ map segment_of (filter has_bytes parts)

parts_read : (parts : List PartValue) (file : List ℕ) (earlier : List SegmentValue) (header offset : ℕ) (rest : List ℕ) → drop header file ≡ program_headers offset parts ++ rest
    → drop offset file ≡ bodies parts → offset + bodies_length parts ≤ length file → length file < 2 ^ 32
    → AllByRecursion IsInRange parts → NoTwoMeet Covers parts → AllByRecursion (MeetsNone earlier) parts → AllRead file earlier header parts
parts_read [] file earlier header offset rest stands bytes within small ranges apart none = record { faults = refl; segments = refl }
parts_read (part ∷ parts) file earlier header offset rest stands bytes within small ranges apart none =
    let next = offset + length part.bytes in
    let others = program_headers next parts ++ rest in
    let total : bodies_length (part ∷ parts) ≡ length part.bytes + bodies_length parts = sum_by-cons (λ (part : PartValue). length part.bytes) part parts in
    let first : drop header file ≡ program_header offset part ++ others = stands ∙ append_assoc (program_header offset part) (program_headers next parts) rest in
    let reads = header_reads file earlier header offset part others (bodies parts) first bytes (omega (arith, total, within)) small ranges.0 none.0 in
    let so_far = earlier ++ option_to_list (kept_at file header) in
    let more : AllByRecursion (MeetsNone so_far) parts
    = subst (λ (one : Option SegmentValue). AllByRecursion (MeetsNone (earlier ++ option_to_list one)) parts) (sym reads.one) (all_more part parts earlier apart.0 none.1) in
    let later = parts_read parts file so_far (header + 32) next rest
    (behind file header (program_header offset part) others (header + 32) first (omega (arith, program_header_size offset part)))
    (behind file offset part.bytes (bodies parts) next bytes refl) (omega (arith, total, within)) small ranges.1 apart.1 more in
    record {
      faults = ap (λ (fault : Option ElfFault). fault or_else headers_fault file so_far (headers_from (length parts) (header + 32))) reads.none ∙ later.faults;
      segments = (λ i. cons_option (reads.one i) (later.segments i)) ∙ kept_first (has_bytes part) part (filter has_bytes parts);
    }

-- the entry lies in the range of programs
small_entry : (object : ObjectValue) → IsWritable object → object.entry < 2 ^ 32
small_entry object writable =
    let found = writable.entered in
    let range = subst IsInRange found.3 (All-from_recursion IsInRange object.parts writable.ranges found.0 found.1 found.2) in
    omega (arith, (range object.entry found.4).1)

-- an address in a part is one in a segment
entered : (parts : List PartValue) (address : ℕ) → list_any (λ part. is_covered address (segment_of part)) parts ≡ true
    → list_any (is_covered address) (map segment_of (filter has_bytes parts)) ≡ true
entered [] address found = absurd cc
entered (part ∷ parts) address found =
    elim (or_cases (is_covered address (segment_of part)) (list_any (λ part. is_covered address (segment_of part)) parts) found) [
      | inl here ↦ let has : has_bytes part ≡ true = grind (arith, here) in rw has (or_left _ _ here)
      | inr later ↦ let others = entered parts address later in
          cond_both (has_bytes part) (part ∷ filter has_bytes parts) (filter has_bytes parts)
          (λ kept. list_any (is_covered address) (map segment_of kept) ≡ true) (λ _. or_right _ _ others) (λ _. others)
    ]

entry_passes : (object : ObjectValue) → IsWritable object → entry_fault (loaded object) ≡ None
unfolding entry_fault
entry_passes object writable =
    let found = writable.entered in
    let covered : is_covered object.entry (segment_of found.1) ≡ true = grind (arith, found.4.0, found.4.1) in
    let any = list_any-from_Any (λ (part : PartValue). is_covered object.entry (segment_of part)) object.parts (found.0, found.1, found.2, found.3, covered) in
    let in_segment = entered object.parts object.entry any in
    grind (arith, in_segment, writable.aligned)

parts_of_file : (object : ObjectValue) → length (elf_text object) < 2 ^ 32 → IsWritable object
    → AllRead (elf_text object) [] 52 object.parts
unfolding elf_text
parts_of_file object small writable =
    let start = bytes_start object.parts in
    let headers = program_headers start object.parts in
    let file = elf_text object in
    let head = file_header object in
    let before : length (head ++ headers) ≡ start
    = length-append head headers ∙ omega (arith, file_header_size object, program_headers_size start object.parts) in
    parts_read object.parts file [] 52 start (bodies object.parts)
    (ap (drop 52) (append_assoc head headers (bodies object.parts)) ∙ drop_at head (headers ++ bodies object.parts) 52 (file_header_size object))
    (drop_at (head ++ headers) (bodies object.parts) start before) (omega (arith, elf_text_size object)) small writable.ranges writable.apart
    (recursion_from_All (MeetsNone []) object.parts (λ k d within. refl))

header_of_file : (object : ObjectValue) → IsWritable object → FileHeader (elf_text object) object
unfolding elf_text
header_of_file object writable =
    let rest = program_headers (bytes_start object.parts) object.parts ++ bodies object.parts in
    let regrouped = append_assoc (file_header object) (program_headers (bytes_start object.parts) object.parts) (bodies object.parts) in
    subst (λ (file : List ℕ). FileHeader file object) (sym regrouped)
    (file_header_read object rest (small_entry object writable) writable.fewest writable.most (omega (arith, elf_text_size object, ap length regrouped)))

pub reread : (object : ObjectValue) → IsWritable object → (elf_fault (elf_text object) ≡ None) × (elf_of (elf_text object) ≡ loaded object)
unfolding elf_fault elf_of
reread object writable =
    let file = elf_text object in
    let header = header_of_file object writable in
    let parts = parts_of_file object (omega (arith, elf_text_size object, writable.room)) writable in
    let faults : headers_fault file [] (headers file) ≡ None = rw (header.count, header.first) parts.faults in
    let segments : segments_of file (headers file) ≡ (loaded object).segments = rw (header.count, header.first) parts.segments in
    let value : elf_of file ≡ loaded object = λ i. record { entry = header.entry i; segments = segments i } in
    let entry : entry_fault (elf_of file) ≡ None = ap entry_fault value ∙ entry_passes object writable in
    (rw (header.kind, header.place, faults, entry) refl, value)

-- The bytes of a page, one at a time.
use Rattle.std.proofs.Common.{◌≡◌, ◌≤◌, ◌<◌, ℕ, zero, suc, ◌+◌, ◌-◌, ◌*◌, min, List, ◌++◌, length, get_or, take, drop, fold, refl, ap, sym, ◌∙◌, inl, inr, arith}
use Rattle.std.proofs.lemmas.Bool.{cases_lt}
use Rattle.std.proofs.lemmas.List.{places, length-map, get_or-map, get_or-take, get_or-drop, length-drop, length-take-le, ext_get_or}
use Rattle.std.proofs.lemmas.List.Sums.{fold_more}
use Rattle.aegis_limits.specs.Limits.{page_size}
use Rattle.elf_static.specs.declared.segment.Segment.{Segment}
use Rattle.elf_static.specs.SegmentSeen.{segment_seen, segments_seen}
use Rattle.elf_static.specs.ElfValue.{SegmentValue, ElfValue}
use Rattle.segment_pages.specs.Pages.{numbers_from, byte_over, byte_at, bytes_from, page_bytes}

-- a byte before the part that was copied stays
before_part : (at n k : ℕ) (page part : List ℕ) → at ≤ length page → k < at → get_or (take at page ++ (part ++ drop n (drop at page))) k 0 ≡ get_or page k 0
before_part at n k page part within before = grind (arith, places)

-- a byte in it is that of the part
in_part : (at n k : ℕ) (page part : List ℕ) → at ≤ length page → at ≤ k → k < at + length part → get_or (take at page ++ (part ++ drop n (drop at page))) k 0 ≡ get_or part (k - at) 0
in_part at n k page part within from before = grind (arith, places)

-- a byte behind it stays
behind_part : (at n k : ℕ) (page part : List ℕ) → at ≤ length page → length part ≡ n → at + n ≤ k → get_or (take at page ++ (part ++ drop n (drop at page))) k 0 ≡ get_or page k 0
behind_part at n k page part within long behind = grind (arith, places)

-- what the file has for an address, or doesn't
over_inside : (address byte : ℕ) (segment : SegmentValue) → segment.vaddr ≤ address → address < segment.vaddr + length segment.bytes
    → byte_over address byte segment ≡ get_or segment.bytes (address - segment.vaddr) 0
over_inside address byte segment from before = grind (arith, from, before)

over_before : (address byte : ℕ) (segment : SegmentValue) → address < segment.vaddr → byte_over address byte segment ≡ byte
over_before address byte segment before = grind (arith, before)

over_behind : (address byte : ℕ) (segment : SegmentValue) → segment.vaddr + length segment.bytes ≤ address → byte_over address byte segment ≡ byte
over_behind address byte segment behind = grind (arith, behind)

-- the numbers from one on, so many
length-numbers_from : (n count : ℕ) → length (numbers_from n count) ≡ count
length-numbers_from n zero = refl
length-numbers_from n (suc count) = ap suc (length-numbers_from (n + 1) count)

get_or-numbers_from : (n count k d : ℕ) → k < count → get_or (numbers_from n count) k d ≡ n + k
get_or-numbers_from n (suc count) zero d below = omega arith
get_or-numbers_from n (suc count) (suc k) d below =
    let left : k < count = omega arith in
    let next : n + 1 + k ≡ n + suc k = omega arith in
    get_or-numbers_from (n + 1) count k d left ∙ next
get_or-numbers_from n zero k d below = absurd (omega arith)

-- the bytes at so many addresses, one at a time
pub length-bytes_from : (program : ElfValue) (address count : ℕ) → length (bytes_from program address count) ≡ count
unfolding bytes_from
length-bytes_from program address count = length-map (numbers_from address count) (byte_at program) ∙ length-numbers_from address count

pub get_or-bytes_from : (program : ElfValue) (address count k : ℕ) → k < count → get_or (bytes_from program address count) k 0 ≡ byte_at program (address + k)
unfolding bytes_from
get_or-bytes_from program address count k below =
    let within : k < length (numbers_from address count) = rw (length-numbers_from address count) below in
    get_or-map (byte_at program) (numbers_from address count) k 0 0 within
    ∙ ap (byte_at program) (get_or-numbers_from address count k 0 below)

pub page_bytes_is : (program : ElfValue) (vpn : ℕ) → page_bytes program vpn ≡ bytes_from program (page_size * vpn) page_size
unfolding page_bytes
page_bytes_is program vpn = refl

-- where a segment's part of a page at an address stands in it, how many of the file's bytes go before that
-- part, and how many it has
pub record IsPart (segment : SegmentValue) (start size at passed count : ℕ) : Type 0 where
  pub place : at ≡ min (segment.vaddr - start) size
  pub first : passed ≡ min (start - segment.vaddr) (length segment.bytes)
  pub many : count ≡ min (length segment.bytes - passed) (size - at)

module _ (segment : SegmentValue) (start size at passed count : ℕ) (p : IsPart segment start size at passed count) where
  part_within : at + count ≤ size
  part_within = omega (arith, p.place, p.many)

  part_before : (k : ℕ) → k < at → start + k < segment.vaddr
  part_before k before = omega (arith, p.place)

  part_in : (k : ℕ) → at ≤ k → k < at + count → (segment.vaddr ≤ start + k) × (start + k < segment.vaddr + length segment.bytes) × (passed + (k - at) ≡ start + k - segment.vaddr)
  part_in k from before = (omega (arith, p.place, p.first, p.many), omega (arith, p.place, p.first, p.many), omega (arith, p.place, p.first, p.many))

  part_behind : (k : ℕ) → at + count ≤ k → k < size → segment.vaddr + length segment.bytes ≤ start + k
  part_behind k behind below = omega (arith, p.place, p.first, p.many)

-- a page after the part was copied to it
pub part_copied : (segment : SegmentValue) (start size at passed count n m : ℕ) (page part : List ℕ) → IsPart segment start size at passed count
    → length page ≡ size → n ≡ count → m ≡ count → part ≡ take m (drop passed segment.bytes)
    → (k : ℕ) → k < size → get_or (take at page ++ (part ++ drop n (drop at page))) k 0 ≡ byte_over (start + k) (get_or page k 0) segment
part_copied segment start size at passed count n m page part p long n_is m_is part_is k below =
    let over = get_or page k 0 in
    let whole : at + count ≤ size = part_within segment start size at passed count p in
    let within : at ≤ length page = omega (arith, whole, long) in
    let left : count ≤ length (drop passed segment.bytes) = rw length-drop (omega (arith, p.many)) in
    let part_long : length part ≡ count = rw (part_is, m_is) (length-take-le count (drop passed segment.bytes) left) in
    elim (cases_lt k at) [
      | inl before ↦ before_part at n k page part within before ∙ sym (over_before (start + k) over segment (part_before segment start size at passed count p k before))
      | inr from ↦ elim (cases_lt k (at + count)) [
        | inl inside ↦
            let there = part_in segment start size at passed count p k from inside in
            let in_part_k : k < at + length part = omega (arith, inside, part_long) in
            let below_m : k - at < m = omega (arith, from, inside, m_is) in
            in_part at n k page part within from in_part_k
            ∙ ap (λ (xs : List ℕ). get_or xs (k - at) 0) part_is
            ∙ get_or-take m (drop passed segment.bytes) (k - at) 0 below_m
            ∙ get_or-drop passed segment.bytes (k - at) 0
            ∙ ap (λ (i : ℕ). get_or segment.bytes i 0) there.2
            ∙ sym (over_inside (start + k) over segment there.0 there.1)
        | inr behind ↦
            behind_part at n k page part within (omega (arith, part_long, n_is)) (omega (arith, behind, n_is))
            ∙ sym (over_behind (start + k) over segment (part_behind segment start size at passed count p k behind below))
      ]
    ]

-- what the segments so far and the next have for an address
pub over_more : (address byte : ℕ) (segments : List Segment) (i : ℕ) (d : Segment) → i < length segments
    → byte ≡ fold (byte_over address) 0 (take i (segments_seen segments))
    → byte_over address byte (segment_seen (get_or segments i d)) ≡ fold (byte_over address) 0 (take (i + 1) (segments_seen segments))
over_more address byte segments i d below so_far =
    let within : i < length (segments_seen segments) = rw (length-map segments segment_seen) below in
    ap (λ (b : ℕ). byte_over address b (segment_seen (get_or segments i d))) so_far
    ∙ ap (byte_over address (fold (byte_over address) 0 (take i (segments_seen segments)))) (sym (get_or-map segment_seen segments i d (segment_seen d) below))
    ∙ sym (fold_more (byte_over address) 0 (segments_seen segments) i (segment_seen d) within)

-- a list of so many bytes, each that of its address
bytes_are : (program : ElfValue) (address size : ℕ) (page : List ℕ) → length page ≡ size
    → ((k : ℕ) → k < size → get_or page k 0 ≡ byte_at program (address + k)) → page ≡ bytes_from program address size
bytes_are program address size page long each =
    ext_get_or 0 page (bytes_from program address size) (long ∙ sym (length-bytes_from program address size))
    (λ k below. let within : k < size = omega (arith, below, long) in each k within ∙ sym (get_or-bytes_from program address size k within))

-- a page each of whose bytes is that of its address
pub page_is : (program : ElfValue) (vpn : ℕ) (page : List ℕ) → length page ≡ page_size
    → ((k : ℕ) → k < page_size → get_or page k 0 ≡ byte_at program (page_size * vpn + k)) → page ≡ page_bytes program vpn
page_is program vpn page long each = bytes_are program (page_size * vpn) page_size page long each ∙ sym (page_bytes_is program vpn)

-- Program headers one after another, as the loop takes them.
use Rattle.std.proofs.Common.{◌≡◌, ℕ, suc, ◌+◌, ◌-◌, ◌<◌, Bool, List, [], ◌∷◌, ◌++◌, Option, None, Some, refl, ap, sym, ◌∙◌, append_assoc, arith}
use Rattle.std.specs.Prelude.{option_to_list, ◌||◌}
use Rattle.std.specs.List.{list_any, cons_option}
use Rattle.std.proofs.lemmas.List.{map_push, append-nil}
use Rattle.elf_static.specs.declared.segment.Segment.{Segment}
use Rattle.elf_static.specs.ElfValue.{SegmentValue, headers_from}
use Rattle.elf_static.specs.SegmentSeen.{kept_seen, segment_seen, segments_seen}

-- a test of what is seen of some segment
pub list_any_seen : (test : SegmentValue → Bool) (segments : List Segment)
    → list_any (λ segment. test (segment_seen segment)) segments ≡ list_any test (segments_seen segments)
list_any_seen test [] = refl
list_any_seen test (segment ∷ segments) = ap (λ (found : Bool). test (segment_seen segment) || found) (list_any_seen test segments)

-- so many headers are the first and the others
pub headers_from_step : (count i header : ℕ) → i < count → headers_from (count - i) header ≡ header ∷ headers_from (count - (i + 1)) (header + 32)
headers_from_step count i header within =
    let left : count - i ≡ suc (count - (i + 1)) = omega arith in
    rw left refl

-- a segment moves from those that are left to those that were read
pub kept_more : (earlier : List SegmentValue) (kept : Option SegmentValue) (others : List SegmentValue)
    → (earlier ++ option_to_list kept) ++ others ≡ earlier ++ cons_option kept others
kept_more earlier None others = ap (λ (segments : List SegmentValue). segments ++ others) (append-nil earlier)
kept_more earlier (Some segment) others = append_assoc earlier (segment ∷ []) others

-- the segments after one header more
pub seen_more : (earlier : List Segment) (kept : Option Segment) → segments_seen (earlier ++ option_to_list kept) ≡ segments_seen earlier ++ option_to_list (kept_seen kept)
seen_more earlier None = ap segments_seen (append-nil earlier) ∙ sym (append-nil (segments_seen earlier))
seen_more earlier (Some segment) = map_push segment_seen earlier segment

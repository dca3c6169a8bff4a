-- Bytes that are put into a page in two parts.
use Rattle.std.proofs.Common.{◌≡◌, ℕ, ◌+◌, ◌<◌, ◌≤◌, List, [], ◌++◌, length, take, drop, sym, ◌∙◌, ap, arith, append_assoc, append-nil, length-append, length-drop}
use Rattle.std.specs.Prelude.{true, nat_le}
use Rattle.std.proofs.lemmas.Bool.{and_parts, leb-true}
use Rattle.std.proofs.lemmas.List.{drop-drop, drop_all, length-take-le, set-set, take_at}
use Rattle.std.proofs.Math.Seq.{drop-append-add, get_or-set_same}
use Rattle.aegis_limits.specs.Limits.{page_size}
use Rattle.external_event.specs.Limits.{most_packet_size}
use Rattle.external_event.specs.Packet.{is_packet}
use Rattle.frame_store.specs.Pages.{after_put, page_at, with_bytes, with_page, word_bytes}
use Rattle.packet_ring.specs.declared.buffer.Buffer.{Buffer}
use Rattle.packet_ring.specs.declared.buffer.Buffer.TheVariants.{First, Second}
use Rattle.packet_ring.specs.Ring.{buffer_offset, with_packet}

size_with : (page bytes : List ℕ) (o : ℕ) → o + length bytes ≤ length page → length (with_bytes page o bytes) ≡ length page
size_with page bytes o within =
    let head = length-append (take o page) bytes in
    let all = length-append (take o page ++ bytes) (drop (o + length bytes) page) in
    omega (arith, head, all, length-take-le o page (omega arith), length-drop (o + length bytes) page)

-- one part behind the other is both at once
pub joined : (page first second : List ℕ) (o : ℕ) → o + length first ≤ length page
    → with_bytes (with_bytes page o first) (o + length first) second ≡ with_bytes page o (first ++ second)
joined page first second o within =
    let head = take o page ++ first in
    let tail = drop (o + length first) page in
    let size : length head ≡ o + length first = omega (arith, length-append (take o page) first, length-take-le o page (omega arith)) in
    let before = take_at head tail (o + length first) size in
    let behind : drop (o + length first + length second) (head ++ tail) ≡ drop (o + length first + length second) page =
    ap (λ (k : ℕ). drop (k + length second) (head ++ tail)) (sym size) ∙ drop-append-add head tail (length second) ∙ drop-drop (length second) (o + length first) page in
    let end : o + length first + length second ≡ o + length (first ++ second) = omega (arith, length-append first second) in
    ap (λ (x : List ℕ). x ++ second ++ drop (o + length first + length second) (head ++ tail)) before
    ∙ ap (λ (x : List ℕ). head ++ second ++ x) behind
    ∙ ap (λ (x : List ℕ). x ++ drop (o + length first + length second) page) (append_assoc (take o page) first second)
    ∙ ap (λ (k : ℕ). take o page ++ (first ++ second) ++ drop k page) end

-- as many bytes as a page has are the page
whole : (page new : List ℕ) → length new ≡ length page → with_bytes page 0 new ≡ new
whole page new same = ap (λ (x : List ℕ). new ++ x) (drop_all (0 + length new) page (omega arith)) ∙ append-nil new

-- in physical memory
pub put_joined : (frames : List (List ℕ)) (page : ℕ) (buffer : Buffer) (first packet : List ℕ) → page < length frames → length first ≡ 4
    → buffer_offset buffer + 4 + length packet ≤ length (page_at frames page) → first ≡ word_bytes (length packet)
    → after_put (after_put frames page (buffer_offset buffer) first) page (buffer_offset buffer + 4) packet ≡ after_put frames page 0 (with_packet (page_at frames page) buffer packet)
put_joined frames page buffer first packet there size within word =
    let o = buffer_offset buffer in
    let p = page_at frames page in
    let once = with_bytes p o first in
    let again : page_at (after_put frames page o first) page ≡ once = get_or-set_same frames page once [] there in
    let both : with_bytes once (o + 4) packet ≡ with_bytes p o (first ++ packet) =
    ap (λ (k : ℕ). with_bytes once (o + k) packet) (sym size) ∙ joined p first packet o (omega arith) in
    let full : with_bytes p 0 (with_bytes p o (first ++ packet)) ≡ with_bytes p o (first ++ packet) =
    whole p (with_bytes p o (first ++ packet)) (size_with p (first ++ packet) o (omega (arith, length-append first packet))) in
    set-set frames page once (with_bytes (page_at (after_put frames page o first) page) (o + 4) packet)
    ∙ ap (λ (x : List ℕ). with_page frames page (with_bytes x (o + 4) packet)) again
    ∙ ap (λ (x : List ℕ). with_page frames page x) (both ∙ sym full)
    ∙ ap (λ (x : List ℕ). with_page frames page (with_bytes p 0 (with_bytes p o (x ++ packet)))) word

-- a packet's length is a word's
pub short : (packet : List ℕ) → is_packet packet ≡ true → length packet ≤ most_packet_size
short packet is = omega (arith, leb-true (length packet) most_packet_size (and_parts (nat_le 1 (length packet)) (nat_le (length packet) most_packet_size) is).1)

-- each buffer has room for it
pub has_room : (buffer : Buffer) (packet : List ℕ) → is_packet packet ≡ true → buffer_offset buffer + 4 + length packet ≤ page_size
has_room First packet is = omega (arith, short packet is)
has_room Second packet is = omega (arith, short packet is)

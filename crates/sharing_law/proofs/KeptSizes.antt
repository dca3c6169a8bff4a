-- Guaranteed pages have all their bytes.
use Rattle.std.proofs.Common.{◌≡◌, ◌≤◌, ◌<◌, ◌+◌, ◌*◌, ℕ, zero, suc, List, [], ◌∷◌, ◌++◌, length, map, take, drop, Option, Some, None, refl, sym, ◌∙◌, ap, subst, arith, length-append}
use Rattle.std.specs.Prelude.{◌==◌, ◌^◌, nat_lt, bit_or, flat_map, slice_get}
use Rattle.std.proofs.lemmas.Bool.{cond_both, ltb-true}
use Rattle.std.proofs.lemmas.List.{length-map}
use Rattle.aegis_limits.specs.Limits.{page_size}
use Rattle.boot_image.specs.ImageValue.{ImageValue, ProgramValue}
use Rattle.elf_static.specs.ElfValue.{ElfValue}
use Rattle.segment_pages.specs.Pages.{byte_at, bytes_from, numbers_from, page_bytes, vpns}
use Rattle.env_frames.specs.Context.{context_number, end_area, end_bytes, exception_area, exception_bytes, resumed_cpu, start_area, start_bytes}
use Rattle.env_frames.specs.Post.{most_records, post_offset, record_bytes, record_offset}
use Rattle.env_frames.specs.Transfer.{entry_area, entry_bytes, transfer_number}
use Rattle.env_frames.specs.declared.post.PostWord.{PostWord}
use Rattle.env_frames.specs.declared.post.PostWord.TheVariants as post
use Rattle.env_frames.specs.declared.transfer.TransferKind.{TransferKind}
use Rattle.frame_store.specs.Pages.{word_bytes}
use Rattle.mips_exec.specs.Cpu.{rested, restart_of}
use Rattle.mips_exec.specs.Step.{cpu_after}
use Rattle.mips_exec.specs.Word.{low_word}
use Rattle.mips_exec.specs.declared.exception.Exc.{Exc}
use Rattle.mips_exec.specs.declared.registers.Cpu.{Cpu}
use Rattle.world_model.specs.Item.{Item, Boot, Step, Start, End, Transfer, Killed, Packet, Line, Asked, Taken, absorb_all, absorbed}
use Rattle.world_model.specs.Page.{KeptPage}
use Rattle.world_model.specs.Post.{counted, post_word, with_post}
use Rattle.world_model.specs.Repossession.{copied, recorded}
use Rattle.world_model.specs.Rings.{Reception, Loses, Queues, Handles, reception, after_reception, after_packet_in, ring_of}
use Rattle.world_model.specs.Solo.{Solo, Store, Ring, Kept, Physical, absent, bytes_of, is_key_of, kept_after, stored_page}
use Rattle.world_model.specs.Step.{Act, Nothing, Stores, Calls, Raises, Dies, act_of, acted, step_alone}
use Rattle.world_model.specs.Table.{listed}
use Rattle.world_model.specs.Upcalls.{with_context}
use Rattle.world_model.proofs.Stores.{kept_as_was}
use Rattle.run_model.specs.Boot.{body_page, boot_items, record_items, stack_page}
use Rattle.run_model.specs.Licensed.{GivenIsLicensed}
use Rattle.run_model.specs.Run.{moment}
use Rattle.sharing_law.specs.Whole.{GuaranteedAreWhole}
use Rattle.sharing_law.proofs.Given.{absorbed_leaves}
use Rattle.sharing_law.proofs.Later.{IsLater, each_solo}
use Rattle.sharing_law.proofs.Sizes.{with_length, zero_length}
use Rattle.page_laws.proofs.Stores.{stored_within}

abbrev AreFull : List KeptPage → Type 0
AreFull [] = Unit {0}
AreFull (p ∷ kept) = (length p.bytes ≡ page_size) × AreFull kept

abbrev IsFull : Solo → Type 0
IsFull s = AreFull s.kept

-- a store within a page
full_after : (kept : List KeptPage) (x : Store) → x.offset + length x.bytes ≤ page_size → AreFull kept → AreFull (kept_after kept x)
full_after [] x within full = tt
full_after (p ∷ kept) x within (its, full) = (
  cond_both (is_key_of p x.key) (stored_page x p) p (λ (q : KeptPage). length q.bytes ≡ page_size) (λ here. with_length p.bytes x.offset x.bytes (omega (arith, within, its)) ∙ its) (λ other. its),
  full_after kept x within full,
)

-- words in the context page
words_length : (words : List ℕ) → length (flat_map word_bytes words) ≡ 4 * length words
words_length [] = refl
words_length (word ∷ words) = omega (arith, length-append (word_bytes word) (flat_map word_bytes words), words_length words)

few : (n : ℕ) (xs : List ℕ) → length (take n xs) ≤ n
few zero xs = omega arith
few (suc n) [] = omega arith
few (suc n) (x ∷ xs) = omega (arith, few n xs)

exception_within : (exc : Exc) (cpu : Cpu) → exception_area + length (exception_bytes exc cpu) ≤ page_size
unfolding exception_bytes
exception_within exc cpu = omega arith

start_within : (cpu : Cpu) → start_area + length (start_bytes cpu) ≤ page_size
unfolding start_bytes
start_within cpu = omega arith

end_within : (cpu : Cpu) → end_area + length (end_bytes cpu) ≤ page_size
unfolding end_bytes
end_within cpu = omega arith

entry_words : (n from number : ℕ) (regs : List ℕ) (hi lo resume : ℕ) → length (flat_map word_bytes (take n regs ++ hi ∷ lo ∷ resume ∷ from ∷ number ∷ [])) ≤ 4 * (n + 5)
entry_words n from number regs hi lo resume =
    let words : List ℕ = hi ∷ lo ∷ resume ∷ from ∷ number ∷ [] in
    omega (arith, words_length (take n regs ++ words), length-append (take n regs) words, few n regs)

within : (area most : ℕ) (bytes : List ℕ) → length bytes ≤ most → area + most ≤ page_size → area + length bytes ≤ page_size
within area most bytes fits room = omega (arith, fits, room)

entry_within : (from : ℕ) (kind : TransferKind) (cpu : Cpu) → entry_area + length (entry_bytes from kind cpu) ≤ page_size
unfolding entry_bytes
entry_within from kind cpu = within entry_area (4 * (31 + 5)) _ (entry_words 31 from (transfer_number kind) (drop 1 cpu.regs) cpu.hi cpu.lo (restart_of cpu)) (omega arith)

post_within : (word : PostWord) (value : ℕ) → post_offset word + length (word_bytes value) ≤ page_size
post_within post.Packets value = omega arith
post_within post.Lost value = omega arith
post_within post.Lines value = omega arith
post_within post.Outstanding value = omega arith
post_within post.Deadline value = omega arith
post_within post.Takings value = omega arith

record_within : (n page : ℕ) (backup : Option ℕ) → n < most_records → record_offset n + length (record_bytes page backup) ≤ page_size
record_within n page backup below = omega (arith, below)

context_full : (area : ℕ) (words : List ℕ) (s : Solo) → area + length words ≤ page_size → IsFull s → IsFull (with_context area words s)
context_full area words s within full = full_after s.kept (record { key = Kept context_number; offset = area; bytes = words }) within full

counted_full : (word : PostWord) (s : Solo) → IsFull s → IsFull (counted word s)
counted_full word s full = context_full (post_offset word) (word_bytes (low_word (post_word word s + 1))) s (post_within word (low_word (post_word word s + 1))) full

-- a store to another page
other_full : (kept : List KeptPage) (page offset : ℕ) (bytes : List ℕ) → AreFull kept → AreFull (kept_after kept (record { key = Physical page; offset = offset; bytes = bytes }))
other_full kept page offset bytes full = subst AreFull (sym (kept_as_was kept page offset bytes)) full

-- the environment's own step
act_full : (s : Solo) (act : Act) → act_of s (step_alone s) ≡ act → IsFull s → (cpu : Cpu) → IsFull (acted act (record s { cpu = cpu }))
act_full s Nothing is full cpu = full
act_full s (Stores x) is full cpu = full_after s.kept x (stored_within s x is) full
act_full s (Calls call) is full cpu = full
act_full s (Raises exc) is full cpu = context_full exception_area (exception_bytes exc cpu) s (exception_within exc cpu) full
act_full s (Dies cause) is full cpu = tt

-- a packet, and a page that is taken
reception_full : (r : Ring) (what : Reception) (s : Solo) → IsFull s → IsFull (after_reception r what s)
reception_full r Loses s full = counted_full post.Lost s full
reception_full r (Queues page) s full = other_full s.kept r.page 0 page full
reception_full r (Handles page replies) s full = other_full s.kept r.page 0 page full

packet_full : (r : Option Ring) (packet : List ℕ) (s : Solo) → IsFull s → IsFull (after_packet_in r packet s)
packet_full None packet s full = full
packet_full (Some r) packet s full = reception_full r (reception s r packet) s full

copied_full : (page : ℕ) (backup : Option ℕ) (s : Solo) → IsFull s → IsFull (copied page backup s)
copied_full page None s full = full
copied_full page (Some backup) s full = other_full s.kept backup 0 (bytes_of s (Physical page)) full

recorded_full : (n page : ℕ) (backup : Option ℕ) (s : Solo) → IsFull s → IsFull (recorded n page backup s)
recorded_full n page backup s full =
    cond_both (nat_lt n most_records) (with_context (record_offset n) (record_bytes page backup) s) s IsFull
    (λ room. context_full (record_offset n) (record_bytes page backup) s (record_within n page backup (ltb-true n most_records room)) full) (λ none. full)

-- item by item
item_full : (s : Solo) (item : Item) → IsLater item → IsFull s → IsFull (absorbed s item)
item_full s Step later full = act_full s (act_of s (step_alone s)) refl full (cpu_after s.cpu (step_alone s))
item_full s Start later full =
    cond_both (s.handlers.start == 0) (record s { cpu = rested s.cpu }) (record (with_context start_area (start_bytes s.cpu) s) { cpu = resumed_cpu s.handlers.start s.cpu }) IsFull
    (λ none. full) (λ handled. context_full start_area (start_bytes s.cpu) s (start_within s.cpu) full)
item_full s End later full = context_full end_area (end_bytes s.cpu) s (end_within s.cpu) full
item_full s (Transfer from kind registers) later full = context_full entry_area (entry_bytes from kind s.cpu) s (entry_within from kind s.cpu) full
item_full s Killed later full = tt
item_full s (Packet claim packet) later full = packet_full (ring_of s.rings claim) packet (counted post.Packets s) (counted_full post.Packets s full)
item_full s (Line line) later full = let value = bit_or (post_word post.Lines s) (2 ^ line) in context_full (post_offset post.Lines) (word_bytes value) s (post_within post.Lines value) full
item_full s (Asked outstanding deadline) later full =
    let once = context_full (post_offset post.Outstanding) (word_bytes outstanding) s (post_within post.Outstanding outstanding) full in
    context_full (post_offset post.Deadline) (word_bytes deadline) (with_post post.Outstanding outstanding s) (post_within post.Deadline deadline) once
item_full s (Taken page backup) later full =
    let v = copied page backup s in
    let n = post_word post.Takings v in
    counted_full post.Takings (recorded n page backup v) (recorded_full n page backup v (copied_full page backup s full))
item_full s (Boot version number name entry accept kept) later full = absurd later
item_full s item later full = subst AreFull (sym (absorbed_leaves s item tt).kept) full

-- at boot
numbers_length : (n count : ℕ) → length (numbers_from n count) ≡ count
numbers_length n zero = refl
numbers_length n (suc count) = ap suc (numbers_length (n + 1) count)

from_length : (body : ElfValue) (address count : ℕ) → length (bytes_from body address count) ≡ count
unfolding bytes_from
from_length body address count = length-map (numbers_from address count) (byte_at body) ∙ numbers_length address count

body_length : (body : ElfValue) (vpn : ℕ) → length (page_bytes body vpn) ≡ page_size
unfolding page_bytes
body_length body vpn = from_length body (page_size * vpn) page_size

body_full : (body : ElfValue) (numbers : List ℕ) (rest : List KeptPage) → AreFull rest → AreFull (map (body_page body) numbers ++ rest)
body_full body [] rest full = full
body_full body (vpn ∷ numbers) rest full = (body_length body vpn, body_full body numbers rest full)

full_both : (xs ys : List KeptPage) → AreFull xs → AreFull ys → AreFull (xs ++ ys)
full_both [] ys first next = next
full_both (x ∷ xs) ys (its, rest) next = (its, full_both xs ys rest next)

stack_full : (p : ProgramValue) (count : ℕ) → AreFull (listed (stack_page p) count)
stack_full p zero = tt
stack_full p (suc count) = full_both (listed (stack_page p) count) (stack_page p count ∷ []) (stack_full p count) (zero_length, tt)

boot_full : (image : ImageValue) (e : ℕ) → IsFull (absorb_all (absent e) (boot_items image e))
boot_full image e = by_program (slice_get image.programs e)
  where
    by_program : (o : Option ProgramValue) → IsFull (absorb_all (absent e) (record_items image.version e o))
    by_program None = tt
    by_program (Some p) = (zero_length, body_full p.body (vpns p.body) (listed (stack_page p) p.stack) (stack_full p p.stack))

full_at : (kept : List KeptPage) → AreFull kept → (n : ℕ) (p : KeptPage) → slice_get kept n ≡ Some p → length p.bytes ≡ page_size
full_at [] full n p is = cc
full_at (x ∷ kept) (its, full) zero p is = let same : x ≡ p = cc in subst (λ (q : KeptPage). length q.bytes ≡ page_size) same its
full_at (x ∷ kept) (its, full) (suc n) p is = full_at kept full n p is

pub guaranteed_are_whole : GivenIsLicensed → GuaranteedAreWhole
guaranteed_are_whole licensed system t k e n p is = full_at ((moment system t k).solos e).kept (each_solo IsFull boot_full item_full licensed system t k e) n p is

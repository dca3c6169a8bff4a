-- What becomes of where guaranteed pages stand, and of life: every item but a record leaves both, or is a death.
use Rattle.std.proofs.Common.{◌≡◌, ◌+◌, ℕ, List, [], ◌∷◌, map, Option, Some, None, refl, ◌∙◌, ap}
use Rattle.std.specs.Prelude.{◌==◌, ◌^◌, nat_lt, bit_or, if◌then◌else◌}
use Rattle.std.proofs.lemmas.Bool.{cond_both}
use Rattle.env_frames.specs.Context.{context_number, end_area, end_bytes, exception_area, exception_bytes, resumed_cpu, start_area, start_bytes}
use Rattle.env_frames.specs.Post.{most_records, post_offset, record_bytes, record_offset}
use Rattle.env_frames.specs.Transfer.{entry_area, entry_bytes}
use Rattle.env_frames.specs.declared.post.PostWord.{PostWord}
use Rattle.frame_store.specs.Pages.{word_bytes}
use Rattle.mips_exec.specs.Word.{low_word}
use Rattle.env_frames.specs.declared.post.PostWord.TheVariants as post
use Rattle.mips_exec.specs.Cpu.{rested}
use Rattle.mips_exec.specs.Step.{cpu_after}
use Rattle.mips_exec.specs.declared.registers.Cpu.{Cpu}
use Rattle.world_model.specs.declared.life.Cause.{Cause}
use Rattle.world_model.specs.declared.life.Cause.TheVariants as cause
use Rattle.world_model.specs.declared.life.Life.TheVariants.{Dead}
use Rattle.world_model.specs.Item.{Item, Boot, Step, Start, End, Transfer, Killed, Packet, Line, Asked, Taken, absorb, absorb_all, absorbed}
use Rattle.world_model.specs.Page.{KeptPage}
use Rattle.world_model.specs.Post.{counted, post_word, with_post}
use Rattle.world_model.specs.Repossession.{copied, recorded}
use Rattle.world_model.specs.Rings.{Reception, Loses, Queues, Handles, page_store, reception, after_reception, after_packet_in, ring_of}
use Rattle.world_model.specs.Solo.{Solo, Store, Ring, Kept, Physical, bytes_of, is_key_of, kept_after, stored_page}
use Rattle.world_model.specs.Step.{Act, Nothing, Stores, Calls, Raises, Dies, act_of, acted, step_alone}
use Rattle.world_model.specs.Upcalls.{with_context}
use Rattle.sharing_law.specs.Kept.{KeptAt, page_place}
use Rattle.sharing_law.proofs.Given.{absorb_or, absorbed_leaves}
use Rattle.sharing_law.proofs.Later.{AreLater, IsLater}

-- where guaranteed pages stand
abbrev pub places : Solo → List KeptAt
places s = map page_place s.kept

-- an environment with the guaranteed pages where they were, and the life that it had
pub record Same (s t : Solo) : Type 0 where
  pub places : places t ≡ places s
  pub life : t.life ≡ s.life

same_then : (s t u : Solo) → Same s t → Same t u → Same s u
same_then s t u first next = record { places = next.places ∙ first.places; life = next.life ∙ first.life }

pub data Turns (s t : Solo) : Type 0 where
  Stays : Same s t → Turns s t
  Ends : (cause : Cause) → t.life ≡ Dead cause → t.kept ≡ [] → Turns s t

pub no_pages : (kept : List KeptPage) → map page_place kept ≡ [] → kept ≡ []
no_pages [] is = refl
no_pages (p ∷ kept) is = cc

turns_then : (s t u : Solo) → Turns s t → Turns t u → Turns s u
turns_then s t u (Stays first) (Stays next) = Stays (same_then s t u first next)
turns_then s t u (Ends cause died none) (Stays next) = Ends cause (next.life ∙ died) (no_pages u.kept (next.places ∙ ap (map page_place) none))
turns_then s t u first (Ends cause died none) = Ends cause died none

-- a store
place_after : (x : Store) (p : KeptPage) → page_place (if is_key_of p x.key then stored_page x p else p) ≡ page_place p
place_after x p = cond_both (is_key_of p x.key) (stored_page x p) p (λ (q : KeptPage). page_place q ≡ page_place p) (λ here. refl) (λ other. refl)

places_after : (kept : List KeptPage) (x : Store) → map page_place (kept_after kept x) ≡ map page_place kept
places_after [] x = refl
places_after (p ∷ kept) x = λ k. place_after x p k ∷ places_after kept x k

context_same : (area : ℕ) (words : List ℕ) (s : Solo) → Same s (with_context area words s)
context_same area words s = record { places = places_after s.kept (record { key = Kept context_number; offset = area; bytes = words }); life = refl }

counted_same : (word : PostWord) (s : Solo) → Same s (counted word s)
counted_same word s = context_same (post_offset word) (word_bytes (low_word (post_word word s + 1))) s

act_turns : (act : Act) (s : Solo) (cpu : Cpu) → Turns s (acted act (record s { cpu = cpu }))
act_turns Nothing s cpu = Stays (record { places = refl; life = refl })
act_turns (Stores x) s cpu = Stays (record { places = places_after s.kept x; life = refl })
act_turns (Calls call) s cpu = Stays (record { places = refl; life = refl })
act_turns (Raises exc) s cpu = Stays (record { places = (context_same exception_area (exception_bytes exc cpu) s).places; life = refl })
act_turns (Dies cause) s cpu = Ends cause refl refl

reception_same : (r : Ring) (what : Reception) (s : Solo) → Same s (after_reception r what s)
reception_same r Loses s = counted_same post.Lost s
reception_same r (Queues page) s = record { places = places_after s.kept (page_store r.page page); life = refl }
reception_same r (Handles page replies) s = record { places = places_after s.kept (page_store r.page page); life = refl }

packet_same : (r : Option Ring) (packet : List ℕ) (s : Solo) → Same s (after_packet_in r packet s)
packet_same None packet s = record { places = refl; life = refl }
packet_same (Some r) packet s = reception_same r (reception s r packet) s

copied_same : (page : ℕ) (backup : Option ℕ) (s : Solo) → Same s (copied page backup s)
copied_same page None s = record { places = refl; life = refl }
copied_same page (Some backup) s = record { places = places_after s.kept (page_store backup (bytes_of s (Physical page))); life = refl }

recorded_same : (n page : ℕ) (backup : Option ℕ) (s : Solo) → Same s (recorded n page backup s)
recorded_same n page backup s =
    cond_both (nat_lt n most_records) (with_context (record_offset n) (record_bytes page backup) s) s (Same s)
    (λ room. context_same (record_offset n) (record_bytes page backup) s) (λ none. record { places = refl; life = refl })

taken_same : (page : ℕ) (backup : Option ℕ) (s : Solo) → Same s (absorbed s (Taken page backup))
taken_same page backup s =
    let v = copied page backup s in
    let u = recorded (post_word post.Takings v) page backup v in
    let last : Same u (absorbed s (Taken page backup)) = record { places = (counted_same post.Takings u).places; life = refl } in
    same_then s v (absorbed s (Taken page backup)) (copied_same page backup s)
    (same_then v u (absorbed s (Taken page backup)) (recorded_same (post_word post.Takings v) page backup v) last)

asked_same : (outstanding deadline : ℕ) (s : Solo) → Same s (absorbed s (Asked outstanding deadline))
asked_same outstanding deadline s =
    let v = with_post post.Outstanding outstanding s in
    same_then s v (absorbed s (Asked outstanding deadline)) (context_same (post_offset post.Outstanding) (word_bytes outstanding) s)
    (context_same (post_offset post.Deadline) (word_bytes deadline) v)

started_same : (s : Solo) → Same s (absorbed s Start)
started_same s =
    cond_both (s.handlers.start == 0) (record s { cpu = rested s.cpu }) (record (with_context start_area (start_bytes s.cpu) s) { cpu = resumed_cpu s.handlers.start s.cpu }) (Same s)
    (λ none. record { places = refl; life = refl }) (λ handled. record { places = (context_same start_area (start_bytes s.cpu) s).places; life = refl })

received_same : (claim : ℕ) (packet : List ℕ) (s : Solo) → Same s (absorbed s (Packet claim packet))
received_same claim packet s =
    let v = counted post.Packets s in
    same_then s v (absorbed s (Packet claim packet)) (counted_same post.Packets s) (packet_same (ring_of s.rings claim) packet v)

item_turns : (s : Solo) (item : Item) → IsLater item → Turns s (absorbed s item)
item_turns s (Boot version number name entry accept kept) later = absurd later
item_turns s Step later = act_turns (act_of s (step_alone s)) s (cpu_after s.cpu (step_alone s))
item_turns s Start later = Stays (started_same s)
item_turns s End later = Stays (record { places = (context_same end_area (end_bytes s.cpu) s).places; life = refl })
item_turns s (Transfer from kind registers) later = Stays (record { places = (context_same entry_area (entry_bytes from kind s.cpu) s).places; life = refl })
item_turns s Killed later = Ends cause.Excess refl refl
item_turns s (Packet claim packet) later = Stays (received_same claim packet s)
item_turns s (Line line) later = Stays (context_same (post_offset post.Lines) (word_bytes (bit_or (post_word post.Lines s) (2 ^ line))) s)
item_turns s (Asked outstanding deadline) later = Stays (asked_same outstanding deadline s)
item_turns s (Taken page backup) later = Stays (taken_same page backup s)
item_turns s item later = let leaves = absorbed_leaves s item tt in Stays (record { places = ap (map page_place) leaves.kept; life = leaves.life })

pub all_turns : (items : List Item) → AreLater items → (s : Solo) → Turns s (absorb_all s items)
all_turns [] later s = Stays (record { places = refl; life = refl })
all_turns (item ∷ items) (its, later) s =
    turns_then s (absorb s item) (absorb_all (absorb s item) items)
    (absorb_or (Turns s) s item (Stays (record { places = refl; life = refl })) (item_turns s item its)) (all_turns items later (absorb s item))

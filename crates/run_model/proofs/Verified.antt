-- Handlers are verified: an answer alone gives one to a claim, and it gives only what has no bad word.
use Rattle.std.proofs.lemmas.Grind.{common_steps}
use Rattle.std.proofs.Common.{◌≡◌, ℕ, List, [], ◌∷◌, ◌++◌, map, take, Bool, true, Option, Some, None, refl, sym, ◌∙◌, subst, arith}
use Rattle.std.specs.Prelude.{filter, nat_lt}
use Rattle.std.proofs.lemmas.Bool.{and_parts, cond_both}
use Rattle.handler_rules.specs.Verification.{first_bad, unless_bad, words_in}
use Rattle.env_frames.specs.Post.{most_records, record_bytes, record_offset}
use Rattle.env_frames.specs.declared.post.PostWord.TheVariants as post
use Rattle.mips_exec.specs.Step.{cpu_after}
use Rattle.world_model.specs.declared.call.Deed.{Deed}
use Rattle.world_model.specs.declared.call.Deed.TheVariants.{Unbinds, Claims, Unclaims, Downloads}
use Rattle.world_model.specs.declared.verdict.Verdict.TheVariants.{Refuse, Again, Grant}
use Rattle.world_model.specs.Downloads.{handler_at, handler_in, handler_or_none, words_or_no}
use Rattle.world_model.specs.Item.{Item, Boot, Step, Start, Killed, Answer, Lost, Packet, Taken, absorb, absorb_all, absorbed, deed_at, own_part}
use Rattle.world_model.specs.Page.{Mapped}
use Rattle.world_model.specs.Post.{counted, post_word}
use Rattle.world_model.specs.Repossession.{copied, recorded}
use Rattle.world_model.specs.Rings.{Reception, Loses, Queues, Handles, is_ring, after_reception, after_packet_in, reception, ring_after_packet_if, ring_of, ring_with_handler, ring_with_handler_if}
use Rattle.world_model.specs.Solo.{Solo, Ring, absent, is_dead, sight}
use Rattle.world_model.specs.Step.{Act, Dies, act_of, acted, step_alone}
use Rattle.world_model.specs.Upcalls.{with_context}
use Rattle.run_model.specs.Handlers.{HandlersAreVerified, are_verified, is_verified}
use Rattle.run_model.specs.Run.{feed, next_phases, world_after}
use Rattle.world_model.specs.World.{in_turn}
use Rattle.run_model.proofs.Fold.{fold_of_feed, fold_of_phases}

abbrev AreVerified : List Ring → Type 0
AreVerified rings = are_verified rings ≡ true

abbrev Verified : Solo → Type 0
Verified s = AreVerified s.rings

-- what a filter leaves, and what a map makes of them that leaves handlers verified
fewer : (p : Ring → Bool) (rings : List Ring) → AreVerified rings → AreVerified (filter p rings)
fewer p [] are = refl
fewer p (r ∷ rings) are = grind (arith, common_steps, and_parts, (fewer p rings))

each_made : (f : Ring → Ring) → ((r : Ring) → is_verified r.handler ≡ true → is_verified (f r).handler ≡ true) → (rings : List Ring) → AreVerified rings → AreVerified (map f rings)
each_made f keeps [] are = refl
each_made f keeps (r ∷ rings) are = grind (arith, common_steps, and_parts, keeps, (each_made f keeps rings))

one_more : (r : Ring) → is_verified r.handler ≡ true → (rings : List Ring) → AreVerified rings → AreVerified (rings ++ r ∷ [])
one_more r its [] are = grind (arith, common_steps)
one_more r its (x ∷ rings) are = grind (arith, common_steps, and_parts, (one_more r its rings))

-- what a download gives
words_verified : (words : List ℕ) (bad : Option ℕ) → first_bad words ≡ bad → is_verified (handler_or_none (words_or_no (unless_bad words bad))) ≡ true
words_verified [] None is = refl
words_verified (word ∷ words) None is = grind (arith, common_steps)
words_verified words (Some at) is = refl

bytes_verified : (bytes : Option (List ℕ)) → is_verified (handler_or_none (handler_in bytes)) ≡ true
bytes_verified None = refl
bytes_verified (Some bytes) = words_verified (words_in bytes) (first_bad (words_in bytes)) refl

handler_verified : (look : ℕ → Option Mapped) (address words : ℕ) → is_verified (handler_or_none (handler_at look address words)) ≡ true
handler_verified look address words = grind (arith, common_steps, bytes_verified)

-- an item's part, deed by deed
own_verified : (d : Deed) (s : Solo) → Verified s → Verified (own_part d s)
own_verified (Unbinds vpn) s are = grind (arith, common_steps)
own_verified (Claims claim address atoms page) s are = one_more _ refl s.rings are
own_verified (Unclaims claim) s are = fewer _ s.rings are
own_verified (Downloads claim address words) s are =
    let handler = handler_or_none (handler_at (sight s) address words) in
    each_made (ring_with_handler_if claim handler) (λ r its. cond_both (is_ring claim r) (ring_with_handler handler r) r (λ (q : Ring). is_verified q.handler ≡ true) (λ mine. handler_verified (sight s) address words) (λ other. its)) s.rings are
own_verified d s are = are

act_verified : (act : Act) (s : Solo) → Verified s → Verified (acted act s)
act_verified (Dies cause) s are = refl
act_verified act s are = are

reception_verified : (r : Ring) (what : Reception) (s : Solo) → Verified s → Verified (after_reception r what s)
reception_verified r Loses s are = are
reception_verified r (Queues page) s are = each_made (ring_after_packet_if r.claim) (λ x its. grind (arith, common_steps)) s.rings are
reception_verified r (Handles page replies) s are = are

packet_verified : (r : Option Ring) (packet : List ℕ) (s : Solo) → Verified s → Verified (after_packet_in r packet s)
packet_verified None packet s are = are
packet_verified (Some r) packet s are = reception_verified r (reception s r packet) s are

copied_same : (page : ℕ) (backup : Option ℕ) (s : Solo) → (copied page backup s).rings ≡ s.rings
copied_same page None s = refl
copied_same page (Some backup) s = refl

recorded_same : (n page : ℕ) (backup : Option ℕ) (s : Solo) → (recorded n page backup s).rings ≡ s.rings
recorded_same n page backup s = cond_both (nat_lt n most_records) (with_context (record_offset n) (record_bytes page backup) s) s (λ t. t.rings ≡ s.rings) (λ is. refl) (λ is. refl)

item_verified : (s : Solo) (item : Item) → Verified s → Verified (absorbed s item)
item_verified s (Boot version number name entry accept kept) are = refl
item_verified s Step are = act_verified (act_of s (step_alone s)) (record s { cpu = cpu_after s.cpu (step_alone s) }) are
item_verified s Start are = grind (arith, common_steps)
item_verified s Killed are = refl
item_verified s (Answer (Refuse code value)) are = are
item_verified s (Answer (Again who)) are = are
item_verified s (Answer (Grant value)) are = own_verified (deed_at s value) s are
item_verified s (Lost page) are = fewer _ s.rings are
item_verified s (Packet claim packet) are = packet_verified (ring_of s.rings claim) packet (counted post.Packets s) are
item_verified s (Taken page backup) are =
    let v = copied page backup s in
    fewer _ (recorded (post_word post.Takings v) page backup v).rings (subst AreVerified (sym (recorded_same (post_word post.Takings v) page backup v ∙ copied_same page backup s)) are)
item_verified s item are = are

pub all_verified : (items : List Item) (s : Solo) → Verified s → Verified (absorb_all s items)
all_verified [] s are = are
all_verified (item ∷ items) s are = all_verified items (absorb s item) (cond_both (is_dead s.life) s (absorbed s item) Verified (λ dead. are) (λ lives. item_verified s item are))

pub handlers_are_verified : HandlersAreVerified
handlers_are_verified system t k e =
    let w = world_after system t in
    let phases = take k (next_phases system.schedule w) in
    subst Verified (sym (fold_of_phases phases w e))
    (all_verified ((in_turn phases w).items e) (w.solos e) (subst Verified (sym (fold_of_feed system t e)) (all_verified (feed system e t) (absent e) refl)))

-- What leaves an environment's life as it is.
use Rattle.std.proofs.Common.{arith, ◌≡◌, ℕ, zero, suc, List, [], ◌∷◌, ◌++◌, Bool, refl, ◌∙◌, ap, Option, rules}
use Rattle.std.specs.Prelude.{◌==◌, nat_lt, if◌then◌else◌}
use Rattle.std.proofs.lemmas.Grind.{common_steps}
use Rattle.std.proofs.lemmas.List.Sums.{fold-append}
use Rattle.env_frames.specs.declared.transfer.TransferKind.{TransferKind}
use Rattle.env_frames.specs.Transfer.{Registers}
use Rattle.bind_book.specs.Stripe.{is_bound}
use Rattle.world_model.specs.declared.call.Deed.{Deed}
use Rattle.world_model.specs.declared.verdict.Verdict.{Verdict}
use Rattle.world_model.specs.Book.{Book}
use Rattle.env_frames.specs.declared.post.PostWord.TheVariants as post
use Rattle.world_model.specs.Death.{lost_with}
use Rattle.revocation_book.specs.declared.revocation.Taking.{Taking}
use Rattle.env_frames.specs.Post.{most_records, record_bytes, record_offset}
use Rattle.world_model.specs.Deadlines.{copy_left}
use Rattle.world_model.specs.Post.{counted, post_word}
use Rattle.world_model.specs.Repossession.{copied, recorded}
use Rattle.world_model.specs.Event.{ring_left}
use Rattle.world_model.specs.Upcalls.{start_by, with_context}
use Rattle.world_model.specs.Item.{Item, Start, End, Transfer, Answer, Gained, Lost, Packet, Line, Asked, Taken, absorb, absorb_all, absorbed, with_answer, own_part}
use Rattle.world_model.specs.PageCalls.{lost_bindings, left_at, left_by, left_if, lost_if}
use Rattle.world_model.specs.Rings.{Reception, after_reception, after_packet_in, ring_of}
use Rattle.world_model.specs.Solo.{Solo, Store, Key, Ring, is_dead}
use Rattle.world_model.specs.Table.{set_at}
use Rattle.world_model.specs.World.{World, only}

-- whoever absorbs these items lives as before
abbrev pub Keeps : List Item → Type 0
Keeps items = (s : Solo) → (absorb_all s items).life ≡ s.life

pub keep_none : Keeps []
keep_none s = refl

pub if_living : (b : Bool) (s t : Solo) → t.life ≡ s.life → (if b then s else t).life ≡ s.life
if_living b s t same = search rules

pub keep_one : (i : Item) → ((s : Solo) → (absorbed s i).life ≡ s.life) → Keeps (i ∷ [])
keep_one i same s = if_living (is_dead s.life) s (absorbed s i) (same s)

pub keep_both : (xs ys : List Item) → Keeps xs → Keeps ys → Keeps (xs ++ ys)
keep_both xs ys first second s = ap (λ (t : Solo). t.life) (fold-append absorb s xs ys) ∙ second (absorb_all s xs) ∙ first s

pub keep_if : (t : Bool) (xs ys : List Item) → Keeps xs → Keeps ys → Keeps (if t then xs else ys)
keep_if t xs ys first second = search rules

pub keep_set : (e : ℕ) (xs : List Item) (f : ℕ → List Item) → Keeps xs → ((i : ℕ) → Keeps (f i)) → (i : ℕ) → Keeps (set_at e xs f i)
keep_set e xs f first others i = keep_if (i == e) xs (f i) first (others i)

pub keep_only : (e : ℕ) (xs : List Item) → Keeps xs → (i : ℕ) → Keeps (only e xs i)
keep_only e xs first i = keep_if (i == e) xs [] first keep_none

-- item by item
if_bound : (b : Bool) (s t : Solo) → t.life ≡ s.life → (if b then t else s).life ≡ s.life
if_bound b s t same = search rules

own_part_same : (d : Deed) (s : Solo) → (own_part d s).life ≡ s.life
own_part_same d s = search (rules, if_bound)

answered_same : (verdict : Verdict) (s : Solo) → (with_answer verdict s).life ≡ s.life
answered_same verdict s = search (rules, own_part_same)

start_same : (handler : ℕ) (s : Solo) → (start_by handler s).life ≡ s.life
start_same handler s = grind (arith, common_steps)

pub keep_start : Keeps (Start ∷ [])
keep_start = keep_one Start (λ s. start_same s.handlers.start s)

pub keep_end : Keeps (End ∷ [])
keep_end = keep_one End (λ s. refl)

pub keep_transfer : (from : ℕ) (kind : TransferKind) (registers : Registers) → Keeps (Transfer from kind registers ∷ [])
keep_transfer from kind registers = keep_one (Transfer from kind registers) (λ s. refl)

pub keep_answer : (verdict : Verdict) → Keeps (Answer verdict ∷ [])
keep_answer verdict = keep_one (Answer verdict) (answered_same verdict)

pub keep_gained : (page : ℕ) (writable : Bool) (bytes : List ℕ) → Keeps (Gained page writable bytes ∷ [])
keep_gained page writable bytes = keep_one (Gained page writable bytes) (λ s. refl)

pub keep_lost : (page : ℕ) → Keeps (Lost page ∷ [])
keep_lost page = keep_one (Lost page) (λ s. refl)

pub keep_line : (line : ℕ) → Keeps (Line line ∷ [])
keep_line line = keep_one (Line line) (λ s. refl)

pub keep_asked : (outstanding deadline : ℕ) → Keeps (Asked outstanding deadline ∷ [])
keep_asked outstanding deadline = keep_one (Asked outstanding deadline) (λ s. refl)

pub copied_life : (page : ℕ) (backup : Option ℕ) (s : Solo) → (copied page backup s).life ≡ s.life
copied_life page backup s = search rules

recorded_same : (n page : ℕ) (backup : Option ℕ) (s : Solo) → (recorded n page backup s).life ≡ s.life
recorded_same n page backup s = if_bound (nat_lt n most_records) s (with_context (record_offset n) (record_bytes page backup) s) refl

pub keep_taken : (page : ℕ) (backup : Option ℕ) → Keeps (Taken page backup ∷ [])
keep_taken page backup = keep_one (Taken page backup) (λ s. let t = copied page backup s in recorded_same (post_word post.Takings t) page backup t ∙ copied_life page backup s)

received_as_same : (r : Ring) (becomes : Reception) (s : Solo) → (after_reception r becomes s).life ≡ s.life
received_as_same r becomes s = search rules

received_same : (ring : Option Ring) (packet : List ℕ) (s : Solo) → (after_packet_in ring packet s).life ≡ s.life
received_same ring packet s = search (rules, received_as_same)

pub keep_packet : (claim : ℕ) (packet : List ℕ) → Keeps (Packet claim packet ∷ [])
keep_packet claim packet = keep_one (Packet claim packet) (λ s. received_same (ring_of s.rings claim) packet (counted post.Packets s))

-- what a break, a store or a death of another brings
lost_keeps : (bound : Bool) (page : ℕ) → Keeps (lost_if bound page)
lost_keeps bound page = search (rules, keep_lost, keep_none)

pub breaks_keep : (b : Book) (page e : ℕ) → Keeps (lost_bindings b page e)
breaks_keep b page e = lost_keeps (is_bound page (b.binds e)) page

left_keeps : (seen : Bool) (page : ℕ) (x : Store) → Keeps (left_if seen page x)
left_keeps seen page x = search (rules, keep_one, keep_none)

left_at_keeps : (b : Book) (writer : ℕ) (x : Store) (key : Key) (e : ℕ) → Keeps (left_at b writer x key e)
left_at_keeps b writer x key e = search (rules, keep_none, keep_if, left_keeps)

pub left_by_keeps : (b : Book) (writer : ℕ) (x : Store) (e : ℕ) → Keeps (left_by b writer x e)
left_by_keeps b writer x e = left_at_keeps b writer x x.key e

-- or a packet that is another's
pub ring_left_keeps : (b : Book) (owner page : ℕ) (bytes : Option (List ℕ)) (e : ℕ) → Keeps (ring_left b owner page bytes e)
ring_left_keeps b owner page bytes e = search (rules, keep_none, left_by_keeps)

-- or a copy of a page that is taken from another
pub copy_left_keeps : (w : World) (x : Taking) (backup : Option ℕ) (e : ℕ) → Keeps (copy_left w x backup e)
copy_left_keeps w x backup e = search (rules, keep_none, left_by_keeps)

pub lost_with_keeps : (b : Book) (gone e page : ℕ) → Keeps (lost_with b gone e page)
lost_with_keeps b gone e zero = keep_none
lost_with_keeps b gone e (suc page) = grind (arith, common_steps, keep_both, keep_if, breaks_keep, keep_none, (lost_with_keeps b gone e page))

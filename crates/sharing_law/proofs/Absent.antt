-- An environment that the image lacks has no guaranteed page, no binding and no handler of exceptions: so its first step is its death, and it never calls.
use Rattle.std.proofs.Common.{◌≡◌, ◌≤◌, ◌+◌, ℕ, zero, suc, List, [], ◌∷◌, length, Option, Some, None, Result, Err, refl, sym, ◌∙◌, ap, subst, arith}
use Rattle.std.specs.Prelude.{◌==◌, ◌%◌, ◌/◌, ◌^◌, nat_lt, nat_le, bit_or}
use Rattle.std.specs.List.{All}
use Rattle.std.specs.Option.{option_map, option_or}
use Rattle.std.proofs.lemmas.Option.{slice_get_past}
use Rattle.aegis_limits.specs.Limits.{page_size}
use Rattle.boot_image.specs.ImageValue.{ProgramValue}
use Rattle.bind_book.specs.declared.binding.Binding.{Binding}
use Rattle.bind_book.specs.Stripe.{of_number, row_of, without}
use Rattle.env_frames.specs.Context.{context_number, end_area, end_bytes, resumed_cpu, start_area, start_bytes}
use Rattle.env_frames.specs.Post.{most_records, post_offset, record_bytes, record_offset}
use Rattle.env_frames.specs.Transfer.{entry_area, entry_bytes}
use Rattle.env_frames.specs.declared.post.PostWord.{PostWord}
use Rattle.env_frames.specs.declared.post.PostWord.TheVariants as post
use Rattle.mips_exec.specs.Word.{low_word}
use Rattle.external_event.specs.declared.event.Occurrence.{Occurrence}
use Rattle.external_event.specs.declared.event.Occurrence.TheVariants as outside
use Rattle.frame_store.specs.Pages.{word_bytes}
use Rattle.mips_exec.specs.Cpu.{rested}
use Rattle.mips_exec.specs.declared.exception.Exc.{Exc}
use Rattle.mips_exec.specs.declared.exception.ExcCode.TheVariants.{Adel}
use Rattle.mips_exec.specs.Exception.{at_address, plain}
use Rattle.mips_exec.specs.Step.{Trapped, access_after, cpu_after, decoded, fetched}
use Rattle.revocation_book.specs.declared.revocation.Taking.{Taking}
use Rattle.mips_exec.specs.declared.access_kind.AccessKind.TheVariants as kind
use Rattle.world_model.specs.declared.call.Call.{Call}
use Rattle.world_model.specs.declared.life.Cause.{Cause}
use Rattle.world_model.specs.declared.life.Cause.TheVariants as cause
use Rattle.world_model.specs.declared.verdict.Verdict.{Verdict}
use Rattle.world_model.specs.Item.{Item, Boot, Step, Start, End, Transfer, Killed, Answer, Lost, Left, Packet, Line, Asked, Taken, absorb, absorb_all, absorbed}
use Rattle.mips_exec.specs.AccessKind.{address_error, miss, raised, user_end}
use Rattle.world_model.specs.Page.{KeptPage, Mapped, answers_by, if_served, reach, read_answer, served}
use Rattle.world_model.specs.Post.{counted, post_word, with_post}
use Rattle.world_model.specs.Repossession.{copied, recorded}
use Rattle.world_model.specs.Rings.{Reception, Loses, Queues, Handles, page_store, reception, after_reception, after_packet_in, ring_of}
use Rattle.world_model.specs.Solo.{Solo, Store, Ring, Kept, Physical, absent, bound_place, bytes_of, kept_after, kept_at, mapped, place_at, sight, with_store}
use Rattle.world_model.specs.Step.{Act, Calls, Dies, act_of, acted, step_alone, trap_act}
use Rattle.world_model.specs.Upcalls.{with_context}
use Rattle.world_model.specs.World.{World}
use Rattle.run_model.specs.Acting.{Acts}
use Rattle.run_model.specs.Boot.{record_items}
use Rattle.run_model.specs.Licensed.{AtEvent, GivenIsLicensed, IsAnswered, LicensedAt, LicensedBehind, LicensedIn}
use Rattle.run_model.specs.Run.{System, given_at, happens_in, moment, takings_in, world_after}
use Rattle.sharing_law.proofs.Choices.{either}
use Rattle.sharing_law.proofs.Given.{absorb_or}
use Rattle.sharing_law.proofs.Later.{licensed_later, next_solo}
use Rattle.sharing_law.proofs.Moments.{each_moment}

-- no guaranteed page, no binding, and no handler of exceptions
abbrev pub IsBare : Solo → Type 0
IsBare s = (s.kept ≡ []) × ((row : ℕ) → s.binds row ≡ None) × (s.handlers.exception ≡ 0)

-- Its VPNs lead nowhere, so its fetch traps, and that is its death.
module _ (s : Solo) (bare : IsBare s) where
  sees_nothing : (vpn : ℕ) → sight s vpn ≡ None
  sees_nothing vpn =
      ap (option_map (mapped s)) (λ k. option_or (option_map (place_at vpn) (kept_at (bare.0 k) vpn)) (option_map bound_place (of_number vpn (bare.1 (row_of s.version vpn) k))))

  missed : {A : Type 0} (f : Mapped → A) (address : ℕ) → (exc : Exc) × (if_served f (reach (sight s) kind.Fetch address) ≡ Err exc)
  missed f address =
      either (λ (r : Result Mapped Exc). (exc : Exc) × (if_served f r ≡ Err exc)) (nat_le user_end address) (raised (address_error kind.Fetch) address) (served kind.Fetch address (sight s (address / page_size)))
      (at_address (plain (address_error kind.Fetch)) address, refl)
      (at_address (plain (miss kind.Fetch)) address, ap (λ (o : Option Mapped). if_served f (served kind.Fetch address o)) (sees_nothing (address / page_size)))

  refused : (exc : Exc) × (fetched (answers_by (sight s)) s.cpu.pc ≡ Err exc)
  refused =
      let pc = s.cpu.pc in
      either (λ (r : Result ℕ Exc). (exc : Exc) × (r ≡ Err exc)) (pc % 4 == 0) (read_answer kind.Fetch (sight s) pc 4) (Err (plain Adel)) (missed _ pc) (plain Adel, refl)

  traps : (exc : Exc) × (step_alone s ≡ Trapped exc)
  traps =
      let answers = answers_by (sight s) in
      (at_address refused.0 s.cpu.pc, ap (λ (r : Result ℕ Exc). decoded s.cpu r (access_after answers s.cpu r)) refused.1)

  dies : (cause : Cause) × (act_of s (step_alone s) ≡ Dies cause)
  dies = let is = traps in (cause.Trapped is.0.code, ap (act_of s) is.1 ∙ ap (λ (handler : ℕ). trap_act handler is.0) bare.2)

  never_calls : (call : Option Call) → act_of s (step_alone s) ≡ Calls call → ⊥
  never_calls call calls = let is = dies in let clash : Dies is.0 ≡ Calls call = sym is.1 ∙ calls in cc

-- an item that is neither a record nor an answer
abbrev IsOthers : Item → Type 0
IsOthers (Boot version number name entry accept kept) = ⊥
IsOthers (Answer verdict) = ⊥
IsOthers item = Unit {0}

abbrev AreOthers : List Item → Type 0
AreOthers [] = Unit {0}
AreOthers (item ∷ items) = IsOthers item × AreOthers items

-- a store leaves it bare, in a post word too
store_bare : (s : Solo) (x : Store) → IsBare s → IsBare (with_store x s)
store_bare s x bare = (ap (λ (kept : List KeptPage). kept_after kept x) bare.0, bare.1, bare.2)

context_bare : (area : ℕ) (words : List ℕ) (s : Solo) → IsBare s → IsBare (with_context area words s)
context_bare area words s bare = store_bare s (record { key = Kept context_number; offset = area; bytes = words }) bare

post_bare : (word : PostWord) (value : ℕ) (s : Solo) → IsBare s → IsBare (with_post word value s)
post_bare word value s bare = context_bare (post_offset word) (word_bytes value) s bare

counted_bare : (word : PostWord) (s : Solo) → IsBare s → IsBare (counted word s)
counted_bare word s bare = post_bare word (low_word (post_word word s + 1)) s bare

step_bare : (s : Solo) → IsBare s → IsBare (absorbed s Step)
step_bare s bare =
    subst (λ (act : Act). IsBare (acted act (record s { cpu = cpu_after s.cpu (step_alone s) }))) (sym (dies s bare).1) (refl, (λ row. refl), refl)

reception_bare : (r : Ring) (what : Reception) (s : Solo) → IsBare s → IsBare (after_reception r what s)
reception_bare r Loses s bare = counted_bare post.Lost s bare
reception_bare r (Queues page) s bare = store_bare s (page_store r.page page) bare
reception_bare r (Handles page replies) s bare = store_bare s (page_store r.page page) bare

packet_bare : (r : Option Ring) (packet : List ℕ) (s : Solo) → IsBare s → IsBare (after_packet_in r packet s)
packet_bare None packet s bare = bare
packet_bare (Some r) packet s bare = reception_bare r (reception s r packet) s bare

copied_bare : (page : ℕ) (backup : Option ℕ) (s : Solo) → IsBare s → IsBare (copied page backup s)
copied_bare page None s bare = bare
copied_bare page (Some backup) s bare = store_bare s (page_store backup (bytes_of s (Physical page))) bare

recorded_bare : (n page : ℕ) (backup : Option ℕ) (s : Solo) → IsBare s → IsBare (recorded n page backup s)
recorded_bare n page backup s bare =
    either IsBare (nat_lt n most_records) (with_context (record_offset n) (record_bytes page backup) s) s (context_bare (record_offset n) (record_bytes page backup) s bare) bare

lost_bare : (page : ℕ) (s : Solo) → IsBare s → IsBare (absorbed s (Lost page))
lost_bare page s bare = (bare.0, (λ row. ap (without (λ (b : Binding). b.page == page)) (bare.1 row)), bare.2)

item_bare : (s : Solo) (item : Item) → IsOthers item → IsBare s → IsBare (absorbed s item)
item_bare s (Boot version number name entry accept kept) others bare = absurd others
item_bare s (Answer verdict) others bare = absurd others
item_bare s Step others bare = step_bare s bare
item_bare s Start others bare =
    either IsBare (s.handlers.start == 0) (record s { cpu = rested s.cpu }) (record (with_context start_area (start_bytes s.cpu) s) { cpu = resumed_cpu s.handlers.start s.cpu }) bare
    (context_bare start_area (start_bytes s.cpu) s bare)
item_bare s End others bare = context_bare end_area (end_bytes s.cpu) s bare
item_bare s (Transfer from kind registers) others bare = context_bare entry_area (entry_bytes from kind s.cpu) s bare
item_bare s Killed others bare = (refl, (λ row. refl), refl)
item_bare s (Lost page) others bare = lost_bare page s bare
item_bare s (Left page offset bytes) others bare = store_bare s (record { key = Physical page; offset = offset; bytes = bytes }) bare
item_bare s (Packet claim packet) others bare = packet_bare (ring_of s.rings claim) packet (counted post.Packets s) (counted_bare post.Packets s bare)
item_bare s (Line line) others bare = post_bare post.Lines (bit_or (post_word post.Lines s) (2 ^ line)) s bare
item_bare s (Asked outstanding deadline) others bare =
    post_bare post.Deadline deadline (with_post post.Outstanding outstanding s) (post_bare post.Outstanding outstanding s bare)
item_bare s (Taken page backup) others bare =
    let v = copied page backup s in
    let n = post_word post.Takings v in
    let u = recorded n page backup v in
    lost_bare page (counted post.Takings u) (counted_bare post.Takings u (recorded_bare n page backup v (copied_bare page backup s bare)))
item_bare s item others bare = bare

all_bare : (items : List Item) → AreOthers items → (s : Solo) → IsBare s → IsBare (absorb_all s items)
all_bare [] others s bare = bare
all_bare (item ∷ items) (its, others) s bare = all_bare items others (absorb s item) (absorb_or IsBare s item bare (item_bare s item its bare))

-- Who is answered calls.
answered_behind : (system : System) (t : ℕ) (xs : List Taking) (k : ℕ) (w : World) (e : ℕ) (v : Verdict) → LicensedBehind system t xs k w e (Answer v) → IsAnswered w e v
answered_behind system t [] (suc (suc zero)) w e v its = its
answered_behind system t [] (suc (suc (suc (suc k)))) w e v its = absurd its
answered_behind system t [] k w e v its = absurd its
answered_behind system t (x ∷ xs) zero w e v its = absurd its
answered_behind system t (x ∷ xs) (suc k) w e v its = answered_behind system t xs k w e v its

none_at_event : (what : Occurrence) (w : World) (e : ℕ) (v : Verdict) → AtEvent what w e (Answer v) → ⊥
none_at_event (outside.Packet packet) w e v its = its
none_at_event (outside.Line line) w e v its = its
none_at_event (outside.Revoke env count grace) w e v its = its

answered_in : (system : System) (t : ℕ) (happens : List Occurrence) (xs : List Taking) (k : ℕ) (w : World) (e : ℕ) (v : Verdict) → LicensedIn system t happens xs k w e (Answer v) → IsAnswered w e v
answered_in system t [] xs k w e v its = answered_behind system t xs k w e v its
answered_in system t (what ∷ happens) xs zero w e v its = absurd (none_at_event what w e v its)
answered_in system t (what ∷ happens) xs (suc k) w e v its = answered_in system t happens xs k w e v its

module _ (licensed : GivenIsLicensed) (system : System) (e : ℕ) (lacks : length system.image.programs ≤ e) where
  abbrev BareAt : World → Type 0
  BareAt w = IsBare (w.solos e)

  module _ (t k : ℕ) (bare : BareAt (moment system t k)) where
    others : (item : Item) → LicensedAt system t k e item → IsOthers item
    others (Answer v) its =
        let m = moment system t k in
        let answered = answered_in system t (happens_in system.schedule (world_after system t)) (takings_in system t) k m e v its in
        never_calls (m.solos e) bare answered.call answered.acts.comes
    others (Boot version number name entry accept kept) its = licensed_later system t k e (Boot version number name entry accept kept) its
    others item its = tt

    all_others : (items : List Item) → All (LicensedAt system t k e) items → AreOthers items
    all_others [] all = tt
    all_others (item ∷ items) all = (others item (all 0 item (omega arith)), all_others items (λ k d below. all (suc k) d (omega (arith, below))))

    next_bare : BareAt (moment system t (suc k))
    next_bare = subst IsBare (sym (next_solo system t k e)) (all_bare (given_at system t k e) (all_others (given_at system t k e) (licensed system t k e)) ((moment system t k).solos e) bare)

  boot_bare : BareAt (world_after system zero)
  boot_bare =
      subst (λ (o : Option ProgramValue). IsBare (absorb_all (absent e) (record_items system.image.version e o))) (sym (slice_get_past system.image.programs e lacks))
      (refl, (λ row. refl), refl)

  -- who isn't of the image is bare at each moment
  pub absent_bare : (t k : ℕ) → BareAt (moment system t k)
  absent_bare = each_moment BareAt system next_bare boot_bare

  -- so it never calls
  pub absent_calls : (t k : ℕ) (call : Option Call) → Acts (moment system t k) e (Calls call) → ⊥
  absent_calls t k call acts = never_calls ((moment system t k).solos e) (absent_bare t k) call acts.comes

-- The image's version is that of the book and of the environments, at each moment.
use Rattle.std.proofs.Common.{◌≡◌, ◌<◌, ◌+◌, ℕ, zero, suc, List, [], ◌∷◌, length, Option, Some, None, is_some, inl, inr, refl, sym, ◌∙◌, ap, subst, arith}
use Rattle.std.proofs.lemmas.Grind.{common_steps}
use Rattle.std.specs.Prelude.{◌==◌, nat_lt, slice_get}
use Rattle.std.proofs.lemmas.Option.{slice_get_cases}
use Rattle.boot_image.specs.ImageValue.{ProgramValue}
use Rattle.bind_book.specs.Stripe.{binding_at, row_of}
use Rattle.env_frames.specs.Context.{resumed_cpu, start_area, start_bytes}
use Rattle.env_frames.specs.Post.{most_records, record_bytes, record_offset}
use Rattle.env_frames.specs.declared.post.PostWord.TheVariants as post
use Rattle.external_event.specs.declared.event.Occurrence.{Occurrence}
use Rattle.mips_exec.specs.Cpu.{rested}
use Rattle.mips_exec.specs.Step.{cpu_after}
use Rattle.revocation_book.specs.declared.revocation.Taking.{Taking}
use Rattle.world_model.specs.declared.call.Deed.{Deed}
use Rattle.world_model.specs.declared.call.Deed.TheVariants.{Unbinds}
use Rattle.world_model.specs.declared.slot.Runner.{Runner}
use Rattle.world_model.specs.declared.verdict.Verdict.{Verdict}
use Rattle.world_model.specs.declared.verdict.Verdict.TheVariants.{Refuse, Again, Grant}
use Rattle.world_model.specs.Book.{Book}
use Rattle.world_model.specs.Deadlines.{settles, takes}
use Rattle.world_model.specs.Event.{happen}
use Rattle.world_model.specs.Holding.{with_binds}
use Rattle.world_model.specs.Item.{Item, Boot, Step, Start, Answer, Packet, Taken, absorb, absorb_all, absorbed, deed_at, own_part}
use Rattle.world_model.specs.Post.{counted, post_word}
use Rattle.world_model.specs.Repossession.{copied}
use Rattle.world_model.specs.Rings.{Reception, Loses, Queues, Handles, reception, after_reception, after_packet_in, ring_of}
use Rattle.world_model.specs.Solo.{Solo, Ring, absent}
use Rattle.world_model.specs.Step.{Act, Nothing, Stores, Calls, Raises, Dies, act_of, acted, step_alone}
use Rattle.world_model.specs.Table.{set_at}
use Rattle.world_model.specs.Tick.{act_now, act_reply, phases_after, step, step_when, tick_phases, timer, turn}
use Rattle.world_model.specs.Upcalls.{with_context}
use Rattle.world_model.specs.Verdict.{done, reply_by_verdict, verdict}
use Rattle.world_model.specs.World.{World, Reply, after, tells}
use Rattle.run_model.specs.Boot.{record_items, with_all_kept, with_kept}
use Rattle.run_model.specs.Licensed.{GivenIsLicensed}
use Rattle.run_model.specs.Run.{System, given_at, happens_in, moment, next_phases, takings_in, world_after}
use Rattle.run_model.proofs.Phases.{next_moment, once_more}
use Rattle.sharing_law.specs.Versions.{VersionsAgree}
use Rattle.sharing_law.proofs.Asking.{asking_or}
use Rattle.sharing_law.proofs.Choices.{either}
use Rattle.sharing_law.proofs.Given.{absorb_or}
use Rattle.sharing_law.proofs.Happening.{happen_lists}
use Rattle.sharing_law.proofs.Later.{AreLater, IsLater, given_later, next_solo}
use Rattle.sharing_law.proofs.Listing.{settled_alike}
use Rattle.sharing_law.proofs.Moments.{each_moment}
use Rattle.sharing_law.proofs.Timing.{Comes, Died, Passed, timer_comes}
use Rattle.sharing_law.proofs.Turning.{turn_alike}

-- ---- the book: no phase changes its version

abbrev KeepsVersion : (World → Reply) → Type 0
KeepsVersion phase = (w : World) → (phase w).book.version ≡ w.book.version

done_version : (w : World) (e : ℕ) (d : Deed) → (done w e d).book.version ≡ w.book.version
done_version w e d = grind (arith, common_steps)

reply_version : (w : World) (e : ℕ) (v : Verdict) → (reply_by_verdict w e v).book.version ≡ w.book.version
reply_version w e (Refuse code value) = refl
reply_version w e (Again who) = asking_or (λ (r : Reply). r.book.version ≡ w.book.version) w who refl (λ p. refl)
reply_version w e (Grant value) = done_version w e (deed_at (w.solos e) value)

act_version : (e : ℕ) (act : Act) → KeepsVersion (act_reply e act)
act_version e (Calls call) w = reply_version w e (verdict w e call)
act_version e act w = refl

step_version : KeepsVersion step
step_version w = by_runner w.book.runner
  where
    by_runner : (o : Option Runner) → (step_when w o).book.version ≡ w.book.version
    by_runner None = refl
    by_runner (Some r) = act_version r.env (act_now w r.env) (after w (tells r.env Step w))

timed_version : (w : World) (r : Reply) → Comes w r → r.book.version ≡ w.book.version
timed_version w r (Passed alike) = alike.lists.version
timed_version w r (Died x runs killed) = ap (λ (b : Book). b.version) killed.book

its_version : (p phase : World → Reply) → KeepsVersion p → Some p ≡ Some phase → KeepsVersion phase
its_version p phase keeps same = let is : p ≡ phase = cc in subst KeepsVersion is keeps

behind_version : (xs : List Taking) (k : ℕ) (phase : World → Reply) → slice_get (tick_phases xs) k ≡ Some phase → KeepsVersion phase
behind_version [] zero phase is = its_version settles phase (λ w. (settled_alike w).lists.version) is
behind_version [] (suc zero) phase is = its_version turn phase (λ w. (turn_alike w).lists.version) is
behind_version [] (suc (suc zero)) phase is = its_version step phase step_version is
behind_version [] (suc (suc (suc zero))) phase is = its_version timer phase (λ w. timed_version w (timer w) (timer_comes w)) is
behind_version [] (suc (suc (suc (suc k)))) phase is = cc
behind_version (x ∷ xs) zero phase is = its_version (takes x) phase (λ w. refl) is
behind_version (x ∷ xs) (suc k) phase is = behind_version xs k phase is

phase_version : (happens : List Occurrence) (xs : List Taking) (k : ℕ) (phase : World → Reply) → slice_get (phases_after happens xs) k ≡ Some phase → KeepsVersion phase
phase_version [] xs k phase is = behind_version xs k phase is
phase_version (what ∷ happens) xs zero phase is = its_version (happen what) phase (λ w. (happen_lists what w).version) is
phase_version (what ∷ happens) xs (suc k) phase is = phase_version happens xs k phase is

booted_version : (e : ℕ) (programs : List ProgramValue) (b : Book) → (with_all_kept e programs b).version ≡ b.version
booted_version e [] b = refl
booted_version e (p ∷ programs) b = booted_version (e + 1) programs (with_kept e p b)

book_version : (system : System) (t k : ℕ) → (moment system t k).book.version ≡ system.image.version
book_version system = each_moment (λ w. w.book.version ≡ system.image.version) system next (booted_version 0 system.image.programs _)
  where
    next : (t k : ℕ) → (moment system t k).book.version ≡ system.image.version → (moment system t (suc k)).book.version ≡ system.image.version
    next t k was = by_phase (slice_get (next_phases system.schedule (world_after system t)) k) refl
      where
        by_phase : (o : Option (World → Reply)) → slice_get (next_phases system.schedule (world_after system t)) k ≡ o → (moment system t (suc k)).book.version ≡ system.image.version
        by_phase None is = ap (λ (v : World). v.book.version) (next_moment system t k ∙ ap (once_more (moment system t k)) is) ∙ was
        by_phase (Some phase) is =
            ap (λ (v : World). v.book.version) (next_moment system t k ∙ ap (once_more (moment system t k)) is)
            ∙ phase_version (happens_in system.schedule (world_after system t)) (takings_in system t) k phase is (moment system t k)
            ∙ was

-- ---- an environment: no item but a record changes its version

own_version : (d : Deed) (s : Solo) → (own_part d s).version ≡ s.version
own_version (Unbinds vpn) s = either (λ (t : Solo). t.version ≡ s.version) (is_some (binding_at s.version s.binds vpn)) (with_binds (set_at (row_of s.version vpn) None s.binds) s) s refl refl
own_version d s = refl

acted_version : (act : Act) (s : Solo) → (acted act s).version ≡ s.version
acted_version Nothing s = refl
acted_version (Stores x) s = refl
acted_version (Calls call) s = refl
acted_version (Raises exc) s = refl
acted_version (Dies cause) s = refl

reception_version : (r : Ring) (what : Reception) (s : Solo) → (after_reception r what s).version ≡ s.version
reception_version r Loses s = refl
reception_version r (Queues page) s = refl
reception_version r (Handles page replies) s = refl

packet_version : (r : Option Ring) (packet : List ℕ) (s : Solo) → (after_packet_in r packet s).version ≡ s.version
packet_version None packet s = refl
packet_version (Some r) packet s = reception_version r (reception s r packet) s

copied_version : (page : ℕ) (backup : Option ℕ) (s : Solo) → (copied page backup s).version ≡ s.version
copied_version page None s = refl
copied_version page (Some backup) s = refl

item_version : (s : Solo) (item : Item) → IsLater item → (absorbed s item).version ≡ s.version
item_version s (Boot version number name entry accept kept) later = absurd later
item_version s Step later = acted_version (act_of s (step_alone s)) (record s { cpu = cpu_after s.cpu (step_alone s) })
item_version s Start later =
    either (λ (t : Solo). t.version ≡ s.version) (s.handlers.start == 0) (record s { cpu = rested s.cpu }) (record (with_context start_area (start_bytes s.cpu) s) { cpu = resumed_cpu s.handlers.start s.cpu }) refl refl
item_version s (Answer (Refuse code value)) later = refl
item_version s (Answer (Again who)) later = refl
item_version s (Answer (Grant value)) later = own_version (deed_at s value) s
item_version s (Packet claim packet) later = packet_version (ring_of s.rings claim) packet (counted post.Packets s)
item_version s (Taken page backup) later =
    let v = copied page backup s in
    let n = post_word post.Takings v in
    either (λ (t : Solo). t.version ≡ s.version) (nat_lt n most_records) (with_context (record_offset n) (record_bytes page backup) v) v (copied_version page backup s) (copied_version page backup s)
item_version s item later = refl

all_version : (items : List Item) → AreLater items → (s : Solo) → (absorb_all s items).version ≡ s.version
all_version [] later s = refl
all_version (item ∷ items) (its, later) s =
    all_version items later (absorb s item) ∙ absorb_or (λ (t : Solo). t.version ≡ s.version) s item refl (item_version s item its)

module _ (licensed : GivenIsLicensed) (system : System) (e : ℕ) (has : e < length system.image.programs) where
  booted : (o : Option ProgramValue) → slice_get system.image.programs e ≡ o → (absorb_all (absent e) (record_items system.image.version e o)).version ≡ system.image.version
  booted None is = elim (slice_get_cases system.image.programs e).1 [
    | inl its ↦ let clash : None ≡ Some its.0 = sym is ∙ its.2 in cc
    | inr past ↦ absurd (omega (arith, has, past.0))
  ]
  booted (Some p) is = refl

  solo_version : (t k : ℕ) → ((moment system t k).solos e).version ≡ system.image.version
  solo_version =
      each_moment (λ w. (w.solos e).version ≡ system.image.version) system
      (λ t k was. ap (λ (s : Solo). s.version) (next_solo system t k e) ∙ all_version (given_at system t k e) (given_later licensed system t k e) ((moment system t k).solos e) ∙ was)
      (booted (slice_get system.image.programs e) refl)

pub versions_agree : GivenIsLicensed → VersionsAgree
versions_agree licensed system t k = record { book = book_version system t k; solos = λ e has. solo_version licensed system e has t k }

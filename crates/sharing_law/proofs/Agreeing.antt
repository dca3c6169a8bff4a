-- The book and the environments agree, at each moment.
use Rattle.std.proofs.lemmas.Grind.{common_steps}
use Rattle.std.proofs.Common.{◌≡◌, ◌≤◌, ℕ, zero, suc, ◌+◌, List, [], ◌∷◌, map, take, true, false, Option, Some, None, inl, inr, refl, sym, ◌∙◌, ap, subst, arith}
use Rattle.std.proofs.lemmas.Bool.{both_ways}
use Rattle.std.proofs.Math.Seq.{take-nil}
use Rattle.std.specs.Prelude.{◌↔◌}
use Rattle.aegis_limits.specs.declared.version.Version.{Version}
use Rattle.boot_image.specs.ImageValue.{ImageValue, ProgramValue, guaranteed_mappings}
use Rattle.page_book.specs.declared.row.PageRow.{PageRow}
use Rattle.page_book.specs.declared.row.PageRow.TheVariants.{Free}
use Rattle.page_book.specs.Row.{is_owned_by}
use Rattle.page_book.specs.Rows.{lowest_free}
use Rattle.page_book.proofs.Free.{is_lowest}
use Rattle.bind_book.specs.declared.binding.Binding.{Binding}
use Rattle.world_model.specs.declared.slot.Runner.{Runner}
use Rattle.world_model.specs.Book.{Book, running}
use Rattle.filter_core.specs.declared.atom.Atom.{Atom}
use Rattle.filter_core.specs.Asking.{agree}
use Rattle.filter_core.specs.Filters.{is_filter}
use Rattle.filter_core.specs.Matching.{Overlap}
use Rattle.external_event.specs.declared.event.Occurrence.{Occurrence}
use Rattle.external_event.specs.declared.event.Occurrence.TheVariants as outside
use Rattle.world_model.specs.Event.{happen}
use Rattle.world_model.specs.Solo.{Solo, absent}
use Rattle.world_model.specs.Item.{absorb_all}
use Rattle.world_model.specs.World.{World, Reply, after, run_phases}
use Rattle.revocation_book.specs.declared.revocation.Taking.{Taking}
use Rattle.revocation_book.specs.Takings.{AreTakable, TakingsAreTakable}
use Rattle.world_model.specs.ClaimCalls.{claim_of}
use Rattle.world_model.specs.Deadlines.{settles, takes}
use Rattle.world_model.specs.PageCalls.{revocations}
use Rattle.world_model.specs.Tick.{phases_after, step, step_when, tick_phases, timer, turn}
use Rattle.call_verdicts.specs.Granted.{AgainAsks, GrantedMay}
use Rattle.run_model.specs.Boot.{book_of_image, boot_world, keep_lowest, keep_pages, record_items, with_all_kept, with_kept}
use Rattle.run_model.specs.Run.{System, happens_in, moment, takings_in, world_after}
use Rattle.run_model.specs.Excess.{IsAccounted}
use Rattle.run_model.specs.Licensed.{MayTaking}
use Rattle.run_model.proofs.Balance.{KeepsAccounts, boots_accounted, happen_accounts, settling_accounts, step_keeps, taking_accounts, timer_accounts, turn_keeps}
use Rattle.page_laws.proofs.Tables.{set_else}
use Rattle.page_laws.proofs.Sights.{HasNone}
use Rattle.sharing_law.specs.Agreement.{AreBoundAllocated, BooksAgree, BackupsAreOwned, BoundIsAllocated, ClaimsAgree, ClaimsAreApart, ClaimsAreSound, PagesEnd}
use Rattle.sharing_law.proofs.Sound.{Sound, sees_nothing}
use Rattle.sharing_law.proofs.Backups.{AreBacked, arrival_backed, backed_owned, backups_owned, step_backed, taking_backed, timer_backed}
use Rattle.sharing_law.proofs.Books.{step_allocated}
use Rattle.sharing_law.proofs.Claimed.{Claimed, claimed_alike}
use Rattle.sharing_law.proofs.Delivering.{arrived}
use Rattle.sharing_law.proofs.Happening.{happen_lists, revoked_alike, signalled_alike}
use Rattle.sharing_law.proofs.Listing.{allocated_less, settled_alike, taking_lists}
use Rattle.sharing_law.proofs.Turning.{IsAlike, allocated_same, sound_alike, turn_alike, unchanged}
use Rattle.sharing_law.proofs.Moments.{after_tick, taken_may}
use Rattle.sharing_law.proofs.Repossessing.{taking_claimed, taking_sound}
use Rattle.sharing_law.proofs.Stepping.{claimed_following, sound_following, step_follows}
use Rattle.sharing_law.proofs.Timing.{allocated_timed, claimed_timed, sound_timed}

-- At boot no page is allocated, and none behind the last one is anybody's.
record AreFresh (count : ℕ) (pages : ℕ → PageRow) : Type 0 where
  owns : (i page : ℕ) → is_owned_by i (pages page) ≡ false
  behind : (page : ℕ) → count ≤ page → pages page ≡ Free

fresh_lowest : (e count : ℕ) (pages : ℕ → PageRow) (o : Option ℕ) → lowest_free pages count ≡ o → AreFresh count pages → AreFresh count (keep_lowest e o pages)
fresh_lowest e count pages None is fresh = fresh
fresh_lowest e count pages (Some page) is fresh = grind (arith, common_steps, set_else, is_lowest)

fresh_pages : (e count n : ℕ) (pages : ℕ → PageRow) → AreFresh count pages → AreFresh count (keep_pages e count n pages)
fresh_pages e count zero pages fresh = fresh
fresh_pages e count (suc n) pages fresh = fresh_lowest e count (keep_pages e count n pages) (lowest_free (keep_pages e count n pages) count) refl (fresh_pages e count n pages fresh)

-- nobody has bound or claimed anything
record IsFresh (b : Book) : Type 0 where
  pages : AreFresh b.page_count b.pages
  binds : (e row : ℕ) → b.binds e row ≡ None
  claims : b.claims ≡ []
  backups : (e : ℕ) → b.backups e ≡ []

fresh_kept : (e : ℕ) (programs : List ProgramValue) (b : Book) → IsFresh b → IsFresh (with_all_kept e programs b)
fresh_kept e [] b fresh = fresh
fresh_kept e (p ∷ programs) b fresh = fresh_kept (e + 1) programs (with_kept e p b) (record {
  pages = fresh_pages e b.page_count (guaranteed_mappings p) b.pages fresh.pages;
  binds = fresh.binds;
  claims = fresh.claims;
  backups = fresh.backups;
})

-- and environments see nothing
record IsBlank (s : Solo) : Type 0 where
  binds : (row : ℕ) → s.binds row ≡ None
  seen : (page : ℕ) → s.seen page ≡ None
  rings : s.rings ≡ []

blank : (v : Version) (e : ℕ) (o : Option ProgramValue) → IsBlank (absorb_all (absent e) (record_items v e o))
blank v e None = record { binds = λ row. refl; seen = λ page. refl; rings = refl }
blank v e (Some p) = record { binds = λ row. refl; seen = λ page. refl; rings = refl }

module _ (image : ImageValue) where
  book_fresh : IsFresh (boot_world image).book
  book_fresh = fresh_kept 0 image.programs (book_of_image image) (record {
    pages = record { owns = λ i page. refl; behind = λ page more. refl };
    binds = λ e row. refl;
    claims = refl;
    backups = λ e. refl;
  })

  none_yet : (i : ℕ) → HasNone i (boot_world image).book.pages ((boot_world image).book.binds i)
  none_yet i = record { binds = book_fresh.binds i; owns = book_fresh.pages.owns i }

  pub none_owned : (i page : ℕ) → is_owned_by i ((boot_world image).book.pages page) ≡ false
  none_owned = book_fresh.pages.owns

  pub none_bound : (e row : ℕ) (b : Binding) → (boot_world image).book.binds e row ≡ Some b → ⊥
  none_bound e row b is = let never : None ≡ Some b = sym (book_fresh.binds e row) ∙ is in cc

  sound_boot : Sound (boot_world image)
  sound_boot = grind (arith, common_steps, sees_nothing, none_yet, book_fresh)

  claimed_boot : Claimed (boot_world image)
  claimed_boot = grind (arith, common_steps, book_fresh)

  backed_boot : AreBacked (boot_world image).book
  backed_boot = grind (arith, common_steps, book_fresh)

-- A world that is sound and accounted, where no page is bound that isn't allocated, and backups are their owners': each phase of a tick leaves such a one.
pub record Fine (w : World) : Type 0 where
  pub sound : Sound w
  pub allocated : AreBoundAllocated w
  pub accounted : IsAccounted w
  pub claimed : Claimed w
  pub backed : AreBacked w.book

abbrev KeepsFine : (World → Reply) → Type 0
KeepsFine phase = (w : World) → Fine w → Fine (after w (phase w))

-- backups are as they were
backed_alike : (w v : World) → IsAlike w v → AreBacked w.book → AreBacked v.book
backed_alike w v alike = backed_owned w.book v.book alike.lists.backups (λ i p owned. (λ k. is_owned_by i (alike.lists.pages k p)) ∙ owned)

fine_alike : (phase : World → Reply) → ((w : World) → IsAlike w (after w (phase w))) → KeepsAccounts phase → KeepsFine phase
fine_alike phase alike accounts w fine =
    let v = after w (phase w) in
    record { sound = sound_alike w v (alike w) fine.sound; allocated = allocated_same w v (alike w).lists fine.allocated; accounted = accounts w fine.accounted; claimed = claimed_alike w v (alike w) fine.claimed; backed = backed_alike w v (alike w) fine.backed }

-- what happens from outside, kind by kind
fine_event : (what : Occurrence) → KeepsFine (happen what)
fine_event (outside.Packet packet) w fine =
    let v = after w (happen (outside.Packet packet) w) in
    let its = arrived w packet fine.sound fine.claimed in
    record { sound = its.sound fine.allocated; allocated = allocated_same w v (happen_lists (outside.Packet packet) w) fine.allocated; accounted = happen_accounts (outside.Packet packet) w fine.accounted; claimed = its.claimed; backed = arrival_backed packet (claim_of w.book packet) w fine.backed }
fine_event (outside.Line line) w fine = fine_alike (happen (outside.Line line)) (signalled_alike line) (happen_accounts (outside.Line line)) w fine
fine_event (outside.Revoke env count grace) w fine =
    let what = outside.Revoke env count grace in fine_alike (happen what) (revoked_alike env count grace) (happen_accounts what) w fine

-- a page that is taken, where it may be
fine_taking : (x : Taking) (w : World) → MayTaking w x → Fine w → Fine (after w (takes x w))
fine_taking x w may fine =
    let v = after w (takes x w) in
    let allocated = allocated_less w v (taking_lists x w) fine.allocated in
    record {
      sound = taking_sound w x fine.sound fine.claimed fine.backed may allocated;
      allocated = allocated;
      accounted = taking_accounts x w fine.accounted;
      claimed = taking_claimed w x fine.sound fine.claimed fine.backed may;
      backed = taking_backed x w may fine.backed;
    }

fine_settling : KeepsFine settles
fine_settling = fine_alike settles settled_alike settling_accounts

fine_turn : KeepsFine turn
fine_turn = fine_alike turn turn_alike turn_keeps

fine_timer : KeepsFine timer
fine_timer w fine =
    let lives = fine.accounted.runner_lives in
    record { sound = sound_timed w fine.sound fine.claimed lives fine.allocated; allocated = allocated_timed w fine.allocated; accounted = timer_accounts w fine.accounted; claimed = claimed_timed w fine.sound fine.claimed lives; backed = timer_backed w fine.backed }

module _ (granted : GrantedMay) (again : AgainAsks) where
  -- the step, whoever runs
  sound_step : (w : World) (o : Option Runner) → w.book.runner ≡ o → Fine w → (let v = after w (step_when w o) in AreBoundAllocated v → Sound v × Claimed v)
  sound_step w None is fine next = let v = after w (step_when w None) in (sound_alike w v (unchanged w) fine.sound, claimed_alike w v (unchanged w) fine.claimed)
  sound_step w (Some r) is fine next =
      let v = after w (step_when w (Some r)) in
      let stepped = step_follows granted again w r.env fine.sound fine.allocated fine.claimed (fine.accounted.runner_lives r is) (ap running is) in
      (sound_following w r.env stepped.came_to v stepped.items fine.sound stepped.follows next, claimed_following w r.env stepped.came_to v stepped.items fine.sound stepped.follows)

  fine_step : KeepsFine step
  fine_step w fine =
      let next = step_allocated granted w fine.allocated in
      let stepped = sound_step w w.book.runner refl fine next in
      record { sound = stepped.0; allocated = next; accounted = step_keeps granted w fine.accounted; claimed = stepped.1; backed = step_backed granted w fine.backed }

  -- a tick once so many of its phases behind its takings are over, and where what is taken may be, once so many of all
  fine_served : (w : World) → Fine w → (k : ℕ) → Fine (run_phases w (take k (tick_phases [])))
  fine_served w fine zero = fine
  fine_served w fine (suc zero) = fine_settling w fine
  fine_served w fine (suc (suc zero)) = let v = after w (settles w) in fine_turn v (fine_settling w fine)
  fine_served w fine (suc (suc (suc zero))) = let v = after w (settles w) in let u = after v (turn v) in fine_step u (fine_turn v (fine_settling w fine))
  fine_served w fine (suc (suc (suc (suc k)))) =
      let v = after w (settles w) in
      let u = after v (turn v) in
      let m = after u (step u) in
      subst (λ (phases : List (World → Reply)). Fine (run_phases (after m (timer m)) phases)) (sym (take-nil k)) (fine_timer m (fine_step u (fine_turn v (fine_settling w fine))))

  fine_taken : (xs : List Taking) (w : World) → AreTakable (revocations w.book) w.book.time xs → Fine w → (k : ℕ) → Fine (run_phases w (take k (tick_phases xs)))
  fine_taken [] w may fine k = fine_served w fine k
  fine_taken (x ∷ xs) w may fine zero = fine
  fine_taken (x ∷ xs) w (may, rest) fine (suc k) = fine_taken xs (after w (takes x w)) rest (fine_taking x w may fine) k

  fine_happened : (happens : List Occurrence) (xs : List Taking) (w : World) → (let v = run_phases w (map happen happens) in AreTakable (revocations v.book) v.book.time xs) → Fine w → (k : ℕ) → Fine (run_phases w (take k (phases_after happens xs)))
  fine_happened [] xs w may fine k = fine_taken xs w may fine k
  fine_happened (what ∷ happens) xs w may fine zero = fine
  fine_happened (what ∷ happens) xs w may fine (suc k) = fine_happened happens xs (after w (happen what w)) may (fine_event what w fine) k

  module _ (takable : TakingsAreTakable) where
    -- at each moment of a tick
    pub moment_fine : (system : System) (t : ℕ) → Fine (world_after system t) → (k : ℕ) → Fine (moment system t k)
    moment_fine system t fine k = let w = world_after system t in fine_happened (happens_in system.schedule w) (takings_in system t) w (taken_may takable system t) fine k

    -- and after every number of ticks
    pub all_fine : (system : System) (t : ℕ) → Fine (world_after system t)
    all_fine system zero = record {
      sound = sound_boot system.image;
      allocated = λ e row b is. absurd (none_bound system.image e row b is);
      accounted = boots_accounted system.image;
      claimed = claimed_boot system.image;
      backed = backed_boot system.image;
    }
    all_fine system (suc t) = after_tick system t Fine (moment_fine system t (all_fine system t))

pub books_agree : GrantedMay → AgainAsks → TakingsAreTakable → BooksAgree
books_agree granted again takable system t = (all_fine granted again takable system t).sound.agreed

pub bound_is_allocated : GrantedMay → AgainAsks → TakingsAreTakable → BoundIsAllocated
bound_is_allocated granted again takable system t = (all_fine granted again takable system t).allocated

pub pages_end : GrantedMay → AgainAsks → TakingsAreTakable → PagesEnd
pages_end granted again takable system t k page past = (moment_fine granted again takable system t (all_fine granted again takable system t) k).sound.behind page past

pub claims_agree : GrantedMay → AgainAsks → TakingsAreTakable → ClaimsAgree
claims_agree granted again takable system t = (all_fine granted again takable system t).claimed.rings

pub claims_are_sound : GrantedMay → AgainAsks → TakingsAreTakable → ClaimsAreSound
claims_are_sound granted again takable system t k c listed = let good = (all_fine granted again takable system t).claimed.good.each c (k, listed) in record { filter = good.rule; owned = good.owned; below = good.below; only = good.only }

pub backups_are_owned : GrantedMay → AgainAsks → TakingsAreTakable → BackupsAreOwned
backups_are_owned granted again takable system t = backups_owned (world_after system t).book (all_fine granted again takable system t).backed

-- a packet that two filters match
swap : (f g : List Atom) → Overlap f g → Overlap g f
swap f g (packet, common) = (packet, record { is = common.is; left = common.right; right = common.left })

-- filters agree just if they overlap
abbrev pub AgreeIsOverlap : Type 0
AgreeIsOverlap = (f g : List Atom) → is_filter f ≡ true → is_filter g ≡ true → (agree f g ≡ true) ↔ Overlap f g

pub claims_are_apart : GrantedMay → AgainAsks → TakingsAreTakable → AgreeIsOverlap → ClaimsAreApart
claims_are_apart granted again takable overlap system t j k c d its others other common =
    let good = (all_fine granted again takable system t).claimed.good in
    let of_c = good.each c (j, its) in
    let of_d = good.each d (k, others) in
    elim (good.apart c d (j, its) (k, others) other) [
      | inl apart ↦ both_ways (agree c.filter d.filter) apart ((overlap c.filter d.filter of_c.rule of_d.rule).1 common)
      | inr apart ↦ both_ways (agree d.filter c.filter) apart ((overlap d.filter c.filter of_d.rule of_c.rule).1 (swap c.filter d.filter common))
    ]

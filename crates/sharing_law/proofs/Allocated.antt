-- Why the bytes of an allocated page change.
use Rattle.std.proofs.Common.{◌≡◌, ℕ, zero, suc, List, [], ◌∷◌, map, true, false, Option, Some, None, ◌⊎◌, inl, inr, refl, sym, ◌∙◌, ap, subst, take, arith}
use Rattle.std.proofs.lemmas.Grind.{common_steps}
use Rattle.std.specs.Prelude.{slice_get}
use Rattle.page_book.specs.declared.row.PageRow.{PageRow}
use Rattle.page_book.specs.declared.row.PageRow.TheVariants.{Free}
use Rattle.page_book.specs.Row.{is_owned_by}
use Rattle.world_model.specs.declared.slot.Runner.{Runner}
use Rattle.world_model.specs.Book.{running}
use Rattle.external_event.specs.declared.event.Occurrence.{Occurrence}
use Rattle.external_event.specs.declared.event.Occurrence.TheVariants as outside
use Rattle.world_model.specs.Event.{happen}
use Rattle.world_model.specs.PageCalls.{page_bytes, revocations}
use Rattle.revocation_book.specs.declared.revocation.Taking.{Taking}
use Rattle.revocation_book.specs.Takings.{AreTakable, TakingsAreTakable}
use Rattle.world_model.specs.Deadlines.{settles, takes}
use Rattle.world_model.specs.Tick.{phases_after, step, step_when, tick_phases, timer, turn}
use Rattle.world_model.specs.World.{World, Reply, after, run_phases}
use Rattle.call_verdicts.specs.Granted.{AgainAsks, GrantedMay}
use Rattle.run_model.specs.Licensed.{MayTaking}
use Rattle.run_model.specs.Run.{System, given_at, given_by, happens_in, moment, next_phases, takings_in, world_after}
use Rattle.run_model.proofs.Phases.{next_moment, once_more}
use Rattle.sharing_law.specs.Change.{AllocatedChange, AllocatedInTick, AllocatedZeros, IsAllocated, IsOwnedAt, IsStoredTo, ZerosInTick}
use Rattle.sharing_law.specs.Delivery.{IsCopied, IsDelivered}
use Rattle.run_model.specs.Live.{row_after}
use Rattle.sharing_law.proofs.Sound.{owner_bytes}
use Rattle.sharing_law.proofs.Brings.{Fate, Stays, Written, Taken}
use Rattle.sharing_law.proofs.Delivering.{IsInRing, arrived, delivered_in}
use Rattle.sharing_law.proofs.Happening.{happen_lists, revoked_alike, signalled_alike}
use Rattle.sharing_law.proofs.Listing.{ListsLess, less_alike, less_same, less_then, settled_alike, taking_lists}
use Rattle.sharing_law.proofs.Repossessing.{IsCopyIn, copied_in, taking_owned}
use Rattle.sharing_law.proofs.Turning.{IsAlike, bytes_alike, same_lists, turn_alike, unchanged}
use Rattle.sharing_law.proofs.Stepping.{all_see, step_follows}
use Rattle.sharing_law.proofs.Timing.{timer_owned}
use Rattle.sharing_law.proofs.Agreeing.{Fine, all_fine, moment_fine}
use Rattle.sharing_law.proofs.Moments.{after_tick, taken_may}
use Rattle.sharing_law.proofs.Leaving.{store_lives}

-- What a phase makes of the pages that are owned after it.
abbrev Fates : World → World → Type 0
Fates w v = (o page : ℕ) → is_owned_by o (v.book.pages page) ≡ true → Fate w o page (page_bytes v page)

-- Apart from the step pages stay their owners', with their bytes, but where a packet comes or a page is taken.
abbrev StayOrCome : World → Reply → Type 0
StayOrCome w r = (o page : ℕ) → is_owned_by o (r.book.pages page) ≡ true
    → (is_owned_by o (w.book.pages page) ≡ true) × ((page_bytes (after w r) page ≡ page_bytes w page) ⊎ (IsInRing w r.items o page (page_bytes (after w r) page) ⊎ IsCopyIn w r.items o page (page_bytes (after w r) page)))

alike_fates : (w v : World) → IsAlike w v → Fates w v
alike_fates w v alike o page owns = Stays (ap (is_owned_by o) (λ k. sym alike.lists.pages k page) ∙ owns) (bytes_alike w v alike page)

alike_stay : (w : World) (r : Reply) → IsAlike w (after w r) → StayOrCome w r
alike_stay w r alike o page owns = (ap (is_owned_by o) (λ k. sym alike.lists.pages k page) ∙ owns, inl (bytes_alike w (after w r) alike page))

-- what happens from outside, kind by kind
event_fates : (what : Occurrence) (w : World) → Fine w → StayOrCome w (happen what w)
event_fates (outside.Packet packet) w fine o page owns = grind (arith, common_steps, happen_lists, arrived)
event_fates (outside.Line line) w fine o page owns = alike_stay w (happen (outside.Line line) w) (signalled_alike line w) o page owns
event_fates (outside.Revoke env count grace) w fine o page owns = alike_stay w (happen (outside.Revoke env count grace) w) (revoked_alike env count grace w) o page owns

-- a page that is taken
taking_fates : (x : Taking) (w : World) → MayTaking w x → Fine w → StayOrCome w (takes x w)
taking_fates x w may fine o page owns = grind (arith, common_steps, taking_owned)

step_fates : GrantedMay → AgainAsks → (w : World) (o : Option Runner) → w.book.runner ≡ o → Fine w → Fates w (after w (step_when w o))
step_fates granted again w None is fine o page owns = alike_fates w (after w (step_when w None)) (unchanged w) o page owns
step_fates granted again w (Some r) is fine o page owns =
    let stepped = step_follows granted again w r.env fine.sound fine.allocated fine.claimed (fine.accounted.runner_lives r is) (ap running is) in
    let now = after w (step_when w (Some r)) in
    let brings = stepped.follows.brings in
    let bytes = owner_bytes now brings.bytes (all_see w r.env stepped.came_to now stepped.items fine.sound stepped.follows) o page owns in
    subst (λ (its : List ℕ). Fate w o page its) (sym bytes) (brings.fate o page owns)

-- Up to the step the book lists nothing but what it did before the tick; and only in the step somebody stores.
data PhaseFates (base w : World) (r : Reply) : Type 0 where
  Stepwise : ListsLess base.book w.book → Fates w (after w r) → PhaseFates base w r
  Otherwise : StayOrCome w r → PhaseFates base w r

-- what a phase makes of pages, the phase that is so numbered does
module _ (base w : World) where
  its_fates : (p q : World → Reply) → PhaseFates base w (p w) → Some p ≡ Some q → PhaseFates base w (q w)
  its_fates p q fates same = let is : p ≡ q = cc in subst (λ (r : World → Reply). PhaseFates base w (r w)) is fates

module _ (granted : GrantedMay) (again : AgainAsks) (takable : TakingsAreTakable) where
  fates_behind : (xs : List Taking) (base w : World) → AreTakable (revocations w.book) w.book.time xs → (k : ℕ) (phase : World → Reply) → slice_get (tick_phases xs) k ≡ Some phase → ListsLess base.book w.book
      → (let m = run_phases w (take k (tick_phases xs)) in Fine m → PhaseFates base m (phase m))
  fates_behind [] base w may zero phase is less fine = its_fates base w settles phase (Otherwise (alike_stay w (settles w) (settled_alike w))) is
  fates_behind [] base w may (suc zero) phase is less fine =
      let v = after w (settles w) in
      its_fates base v turn phase (Otherwise (alike_stay v (turn v) (turn_alike v))) is
  fates_behind [] base w may (suc (suc zero)) phase is less fine =
      let v = after w (settles w) in
      let m = after v (turn v) in
      let left = less_alike base v m (less_alike base w v less (settled_alike w)) (turn_alike v) in
      its_fates base m step phase (Stepwise left (step_fates granted again m m.book.runner refl fine)) is
  fates_behind [] base w may (suc (suc (suc zero))) phase is less fine =
      let v = after w (settles w) in
      let u = after v (turn v) in
      let m = after u (step u) in
      let was = timer_owned m fine.sound fine.claimed fine.accounted.runner_lives in
      its_fates base m timer phase (Otherwise (λ o page owns. let its = was o page owns in (its.0, inl its.1))) is
  fates_behind [] base w may (suc (suc (suc (suc k)))) phase is less fine = cc
  fates_behind (x ∷ xs) base w (may, rest) zero phase is less fine = its_fates base w (takes x) phase (Otherwise (taking_fates x w may fine)) is
  fates_behind (x ∷ xs) base w (may, rest) (suc k) phase is less fine =
      let v = after w (takes x w) in
      fates_behind xs base v rest k phase is (less_then base.book w.book v.book less (taking_lists x w)) fine

  phase_fates : (happens : List Occurrence) (xs : List Taking) (base w : World) → (let v = run_phases w (map happen happens) in AreTakable (revocations v.book) v.book.time xs)
      → (k : ℕ) (phase : World → Reply) → slice_get (phases_after happens xs) k ≡ Some phase → ListsLess base.book w.book
      → (let m = run_phases w (take k (phases_after happens xs)) in Fine m → PhaseFates base m (phase m))
  phase_fates [] xs base w may k phase is less fine = fates_behind xs base w may k phase is less fine
  phase_fates (what ∷ happens) xs base w may zero phase is less fine = its_fates base w (happen what) phase (Otherwise (event_fates what w fine)) is
  phase_fates (what ∷ happens) xs base w may (suc k) phase is less fine =
      let v = after w (happen what w) in
      phase_fates happens xs base v may k phase is (less_then base.book w.book v.book less (less_same w.book v.book (happen_lists what w))) fine

  -- In a phase of a tick
  module _ (system : System) (t : ℕ) where
    abbrev before : World
    before = world_after system t

    -- What becomes of a page that is owned after it.
    abbrev Becomes : ℕ → ℕ → ℕ → Type 0
    Becomes k page owner =
        ((is_owned_by owner ((moment system t k).book.pages page) ≡ true) × (page_bytes (moment system t (suc k)) page ≡ page_bytes (moment system t k) page))
        ⊎ (((is_owned_by owner ((moment system t k).book.pages page) ≡ true) × (IsStoredTo system t k page ⊎ (IsDelivered system t k page owner ⊎ IsCopied system t k page owner))) ⊎ IsAllocated system t k page owner)

    fine_at : (k : ℕ) → Fine (moment system t k)
    fine_at k = moment_fine granted again takable system t (all_fine granted again takable system t) k

    by_fate : (k page owner : ℕ) → ListsLess before.book (moment system t k).book → Fate (moment system t k) owner page (page_bytes (moment system t (suc k)) page) → Becomes k page owner
    by_fate k page owner lists (Stays owns same) = inl (owns, same)
    by_fate k page owner lists (Written owns e x acts into has) =
        let through = store_lives granted again takable system t (moment system t k) (fine_at k) lists e x page acts into in
        inr (inl (owns, inl (record { writer = e; store = x; acts = acts; into = into; through = through; has = has })))
    by_fate k page owner lists (Taken words does free zeros) = inr (inr (record { words = words; does = does; free = free; zeros = zeros }))

    by_fates : (k page owner : ℕ) (r : Reply) → moment system t (suc k) ≡ after (moment system t k) r → given_at system t k owner ≡ r.items owner → PhaseFates before (moment system t k) r → IsOwnedAt system t (suc k) page owner
        → Becomes k page owner
    by_fates k page owner r next given (Stepwise lists fates) owns =
        by_fate k page owner lists (subst (λ (u : World). Fate (moment system t k) owner page (page_bytes u page)) (sym next) (fates owner page (ap (λ (u : World). is_owned_by owner (u.book.pages page)) (sym next) ∙ owns)))
    by_fates k page owner r next given (Otherwise stay) owns =
        let its = stay owner page (ap (λ (u : World). is_owned_by owner (u.book.pages page)) (sym next) ∙ owns) in
        elim its.1 [
          | inl same ↦ inl (its.0, ap (λ (u : World). page_bytes u page) next ∙ same)
          | inr comes ↦ inr (inl (its.0, inr (elim comes [ inl packet ↦ inl (delivered_in system t k page owner r next given packet) | inr copy ↦ inr (copied_in system t k page owner r next given copy) ])))
        ]

    by_phase : (k page owner : ℕ) (o : Option (World → Reply)) → slice_get (next_phases system.schedule before) k ≡ o → IsOwnedAt system t (suc k) page owner → Becomes k page owner
    by_phase k page owner None is owns =
        let next = next_moment system t k ∙ ap (once_more (moment system t k)) is in
        inl (ap (λ (u : World). is_owned_by owner (u.book.pages page)) (sym next) ∙ owns, ap (λ (u : World). page_bytes u page) next)
    by_phase k page owner (Some phase) is owns =
        let m = moment system t k in
        by_fates k page owner (phase m) (next_moment system t k ∙ ap (once_more m) is) (ap (λ (o : Option (World → Reply)). given_by m o owner) is)
        (phase_fates (happens_in system.schedule before) (takings_in system t) before before (taken_may takable system t) k phase is (less_same before.book before.book (same_lists before.book)) (fine_at k)) owns

    pub becomes : (k page owner : ℕ) → IsOwnedAt system t (suc k) page owner → Becomes k page owner
    becomes k page owner = by_phase k page owner (slice_get (next_phases system.schedule before) k) refl

    -- a free page is nobody's
    free_owned : (owner : ℕ) (row : PageRow) → row ≡ Free → is_owned_by owner row ≡ true → ⊥
    free_owned owner row free owns = let clash : false ≡ true = sym (ap (is_owned_by owner) free) ∙ owns in cc

    pub change : (k page owner : ℕ) → IsOwnedAt system t k page owner → IsOwnedAt system t (suc k) page owner
        → (page_bytes (moment system t (suc k)) page ≡ page_bytes (moment system t k) page) ⊎ (IsStoredTo system t k page ⊎ (IsDelivered system t k page owner ⊎ IsCopied system t k page owner))
    change k page owner had has = elim (becomes k page owner has) [
      | inl stays ↦ inl stays.1
      | inr other ↦ elim other [ inl stored ↦ inr stored.1 | inr taken ↦ absurd (free_owned owner ((moment system t k).book.pages page) taken.free had) ]
    ]

    pub zeros : (k page owner : ℕ) → IsOwnedAt system t (suc k) page owner → IsOwnedAt system t k page owner ⊎ IsAllocated system t k page owner
    zeros k page owner has = elim (becomes k page owner has) [
      | inl stays ↦ inl stays.0
      | inr other ↦ elim other [ inl stored ↦ inl stored.0 | inr taken ↦ inr taken ]
    ]

    -- and so in the tick
    abbrev Since : ℕ → ℕ → World → Type 0
    Since page owner v = is_owned_by owner (v.book.pages page) ≡ true
        → ((is_owned_by owner (row_after system t page) ≡ true) × (page_bytes v page ≡ page_bytes before page))
        ⊎ (((k : ℕ) × IsStoredTo system t k page) ⊎ (((k : ℕ) × (IsDelivered system t k page owner ⊎ IsCopied system t k page owner)) ⊎ ((k : ℕ) × IsAllocated system t k page owner)))

    since : (n page owner : ℕ) → Since page owner (moment system t n)
    since zero page owner owns = inl (owns, refl)
    since (suc n) page owner owns = elim (becomes n page owner owns) [
      | inl stays ↦ elim (since n page owner stays.0) [ inl same ↦ inl (same.0, stays.1 ∙ same.1) | inr other ↦ inr other ]
      | inr other ↦ elim other [
        | inl changed ↦ elim changed.1 [ inl stored ↦ inr (inl (n, stored)) | inr delivered ↦ inr (inr (inl (n, delivered))) ]
        | inr taken ↦ inr (inr (inr (n, taken)))
      ]
    ]

    abbrev ZerosSince : ℕ → ℕ → World → Type 0
    ZerosSince page owner v = is_owned_by owner (v.book.pages page) ≡ true → (is_owned_by owner (row_after system t page) ≡ true) ⊎ ((k : ℕ) × IsAllocated system t k page owner)

    zeros_since : (n page owner : ℕ) → ZerosSince page owner (moment system t n)
    zeros_since zero page owner owns = inl owns
    zeros_since (suc n) page owner owns = elim (zeros n page owner owns) [ inl had ↦ zeros_since n page owner had | inr taken ↦ inr (n, taken) ]

pub allocated_change : GrantedMay → AgainAsks → TakingsAreTakable → AllocatedChange
allocated_change granted again takable system t k page owner = change granted again takable system t k page owner

pub allocated_zeros : GrantedMay → AgainAsks → TakingsAreTakable → AllocatedZeros
allocated_zeros granted again takable system t k page owner = zeros granted again takable system t k page owner

pub allocated_in_tick : GrantedMay → AgainAsks → TakingsAreTakable → AllocatedInTick
allocated_in_tick granted again takable system t page owner = after_tick system t (Since granted again takable system t page owner) (λ n. since granted again takable system t n page owner)

pub zeros_in_tick : GrantedMay → AgainAsks → TakingsAreTakable → ZerosInTick
zeros_in_tick granted again takable system t page owner = after_tick system t (ZerosSince granted again takable system t page owner) (λ n. zeros_since granted again takable system t n page owner)

-- Tick by tick.
use Rattle.std.proofs.Common.{◌≡◌, ◌<◌, ℕ, zero, suc, List, [], ◌∷◌, ◌++◌, map, Bool, true, false, Option, None, refl, sym, ◌∙◌, ap, subst, append_assoc, arith}
use Rattle.std.specs.Prelude.{◌+◌, if◌then◌else◌}
use Rattle.std.proofs.lemmas.List.{append-nil}
use Rattle.boot_image.specs.ImageValue.{ImageValue, ProgramValue}
use Rattle.call_verdicts.specs.Granted.{GrantedMay}
use Rattle.external_event.specs.declared.event.Occurrence.{Occurrence}
use Rattle.revocation_book.specs.declared.revocation.Taking.{Taking}
use Rattle.world_model.specs.declared.slot.Runner.{Runner}
use Rattle.world_model.specs.Book.{Book, is_idle_book}
use Rattle.world_model.specs.Deadlines.{settles, takes}
use Rattle.world_model.specs.Event.{happen}
use Rattle.world_model.specs.Item.{Item, absorb_all}
use Rattle.world_model.specs.Solo.{Solo, absent}
use Rattle.world_model.specs.Tick.{phases_after, serve_phases, served, step, timer, turn}
use Rattle.world_model.specs.World.{World, Reply, after, in_turn, run_phases}
use Rattle.run_model.specs.Boot.{boot_items, boot_world, book_of_image, with_all_kept, with_kept}
use Rattle.run_model.specs.Run.{IsFoldOfFeed, System, after_phase, feed, happens_in, items_in, next_phases, once_happened, takings_next, world_after}
use Rattle.run_model.proofs.Phases.{absorb-append, moments_in_order, run_append}
use Rattle.due_law.specs.Due.{AcceptsNobody, FeedIsDue}
use Rattle.due_law.specs.Standing.{AreDue, Standing, Waits}
use Rattle.due_law.proofs.Dues.{Goes, counting, due_both, goes_append, goes_as, goes_further, goes_none, goes_on, standing, standing_of, stands, stands_both}
use Rattle.due_law.proofs.Early.{early_aside}
use Rattle.due_law.proofs.Steps.{steps}
use Rattle.due_law.proofs.Timing.{timer_goes, timer_quantum}
use Rattle.due_law.proofs.Turning.{turns}

-- a tick leads from where it stands before it to where it stands after it
pub record Ticks (e q : ℕ) (w v : World) (items : List Item) : Type 0 where
  pub goes : Goes e q w items (standing e w) (standing e v)
  pub quantum : v.book.quantum ≡ q

abbrev late : List (World → Reply)
late = turn ∷ step ∷ timer ∷ []

module _ (granted : GrantedMay) (e q : ℕ) where
  late_ticks : (w : World) → w.book.quantum ≡ q → ((after w (turn w)).solos e).mask ≡ 0 → Ticks e q w (run_phases w late) ((in_turn late w).items e)
  late_ticks w quantum deaf =
      let t = after w (turn w) in
      let u = after t (step t) in
      let v = after u (timer u) in
      let turned = turns e w in
      let stepped = steps granted e q t deaf in
      let at_timer : u.book.quantum ≡ q = stepped.quantum ∙ turned.quantum ∙ quantum in
      let first : Goes e q w ((turn w).items e) (standing e w) (standing e t) = subst (λ (n : ℕ). Goes e n w ((turn w).items e) (standing e w) (standing e t)) quantum turned.goes in
      record {
        goes = goes_on e q w turn (step ∷ timer ∷ []) (standing e w) (standing e t) (standing e v) first
            (goes_on e q t step (timer ∷ []) (standing e t) (counting e q u) (standing e v) stepped.goes
            (goes_on e q u timer [] (counting e q u) (standing e v) (standing e v) (timer_goes e q u at_timer) (goes_none e q v (standing e v))));
        quantum = timer_quantum u ∙ at_timer;
      }

  whole_ticks : (w : World) (happens : List Occurrence) (xs : List Taking) → w.book.quantum ≡ q
      → (let v = run_phases (run_phases w (map happen happens)) (serve_phases xs) in ((after v (turn v)).solos e).mask ≡ 0)
      → Ticks e q w (run_phases w (phases_after happens xs)) ((in_turn (phases_after happens xs) w).items e)
  whole_ticks w happens xs quantum deaf =
      let early = map happen happens ++ serve_phases xs in
      let in_two : phases_after happens xs ≡ early ++ late =
      ap (λ (ys : List (World → Reply)). map happen happens ++ ys) (sym (append_assoc (map takes xs) (settles ∷ []) late)) ∙ sym (append_assoc (map happen happens) (serve_phases xs) late) in
      let aside = early_aside e happens xs w in
      let v = run_phases w early in
      let same : v ≡ run_phases (run_phases w (map happen happens)) (serve_phases xs) = run_append w (map happen happens) (serve_phases xs) in
      let rest = late_ticks v (aside.quantum ∙ quantum) (subst (λ (z : World). ((after z (turn z)).solos e).mask ≡ 0) (sym same) deaf) in
      let still : standing e v ≡ standing e w = ap (λ (o : Option Runner). standing_of e o (v.book.excess e)) aside.runner ∙ ap (standing_of e w.book.runner) aside.excess in
      let first : Goes e q w ((in_turn early w).items e) (standing e w) (standing e v) =
      goes_as e q w _ _ (standing e w) (standing e w) (standing e v) (standing e w) refl refl still (goes_further e q w ((in_turn early w).items e) (standing e w) aside.further) in
      let last = run_phases v late in
      subst (λ (phases : List (World → Reply)). Ticks e q w (run_phases w phases) ((in_turn phases w).items e)) (sym in_two)
      (record {
        goes = goes_as e q w _ _ (standing e w) (standing e w) (standing e (run_phases w (early ++ late))) (standing e last) refl refl (ap (standing e) (run_append w early late))
            (goes_append e q w early late (standing e w) (standing e v) (standing e last) first rest.goes);
        quantum = ap (λ (z : World). z.book.quantum) (run_append w early late) ∙ rest.quantum;
      })

-- at boot nobody runs
pub record IsAsImaged (image : ImageValue) (b : Book) : Type 0 where
  pub quantum : b.quantum ≡ image.quantum
  pub runner : b.runner ≡ None

all_imaged : (image : ImageValue) (other : ℕ) (programs : List ProgramValue) (b : Book) → IsAsImaged image b → IsAsImaged image (with_all_kept other programs b)
all_imaged image other [] b is = is
all_imaged image other (p ∷ programs) b is = all_imaged image (other + 1) programs (with_kept other p b) (record { quantum = is.quantum; runner = is.runner })

boot_imaged : (image : ImageValue) → IsAsImaged image (boot_world image).book
boot_imaged image = all_imaged image 0 image.programs (book_of_image image) (record { quantum = refl; runner = refl })

module _ (granted : GrantedMay) (fold : IsFoldOfFeed) (system : System) (e most : ℕ) (nobody : AcceptsNobody system e most) where
  abbrev q : ℕ
  q = system.image.quantum

  abbrev boot : List Item
  boot = boot_items system.image e

  tick : (t : ℕ) → t < most → (world_after system t).book.quantum ≡ q → Ticks e q (world_after system t) (world_after system (suc t)) (items_in system t e)
  tick t below quantum = by_idle (is_idle_book (world_after system t).book) refl
    where
      deaf : is_idle_book (world_after system t).book ≡ false → (let w = world_after system t in let x = after_phase turn (served (once_happened system.schedule w)) in (x.solos e).mask ≡ 0)
      deaf busy =
          let order = moments_in_order system t in
          subst (λ (x : World). (x.solos e).mask ≡ 0) (order.turned ∙ ap (after_phase turn) (order.served ∙ ap served order.happened)) (nobody t below busy)

      by_idle : (idle : Bool) → is_idle_book (world_after system t).book ≡ idle
          → (let x = world_after system t in Ticks e q x (if idle then x else run_phases x (next_phases system.schedule x)) (if idle then [] else (in_turn (next_phases system.schedule x) x).items e))
      by_idle true idle = let x = world_after system t in record { goes = goes_none e q x (standing e x); quantum = quantum }
      by_idle false busy = let x = world_after system t in whole_ticks granted e q x (happens_in system.schedule x) (takings_next system.schedule x) quantum (deaf busy)

  -- what it was given so far is due, and leads to where it stands
  pub record IsDue (t : ℕ) : Type 0 where
    pub more : List Item
    pub is : boot ++ more ≡ feed system e t
    pub due : AreDue q Waits (absorb_all (absent e) boot) more
    pub leads : stands q Waits (absorb_all (absent e) boot) more ≡ standing e (world_after system t)
    pub quantum : (world_after system t).book.quantum ≡ q

  next_due : (t : ℕ) → IsDue t → Ticks e q (world_after system t) (world_after system (suc t)) (items_in system t e) → IsDue (suc t)
  next_due t before ticks =
      let s = absorb_all (absent e) boot in
      let now = items_in system t e in
      let solo : absorb_all s before.more ≡ (world_after system t).solos e =
      sym (absorb-append (absent e) boot before.more) ∙ ap (absorb_all (absent e)) before.is ∙ sym (fold system t e) in
      let from = standing e (world_after system t) in
      let due : AreDue q (stands q Waits s before.more) (absorb_all s before.more) now =
      subst (λ (z : Standing). AreDue q z (absorb_all s before.more) now) (sym before.leads) (subst (λ (z : Solo). AreDue q from z now) (sym solo) ticks.goes.due) in
      record {
        more = before.more ++ now;
        is = sym (append_assoc boot before.more now) ∙ ap (λ (xs : List Item). xs ++ now) before.is;
        due = due_both q Waits s before.more now before.due due;
        leads = stands_both q Waits s before.more now
            ∙ ap (λ (z : Standing). stands q z (absorb_all s before.more) now) before.leads
            ∙ ap (λ (z : Solo). stands q from z now) solo
            ∙ ticks.goes.leads;
        quantum = ticks.quantum;
      }

  pub is_due : (t : ℕ) → t < suc most → IsDue t
  is_due zero below = record {
    more = [];
    is = append-nil boot;
    due = tt;
    leads = sym (ap (λ (o : Option Runner). standing_of e o ((boot_world system.image).book.excess e)) (boot_imaged system.image).runner);
    quantum = (boot_imaged system.image).quantum;
  }
  is_due (suc t) below = let before = is_due t (omega (arith, below)) in next_due t before (tick t (omega (arith, below)) before.quantum)

pub feed_is_due : GrantedMay → IsFoldOfFeed → FeedIsDue
feed_is_due granted fold system e t nobody =
    let its = is_due granted fold system e t nobody t (omega arith) in record { more = its.more; is = its.is; due = its.due }

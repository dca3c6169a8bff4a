-- Ticks, and whole runs.
use Rattle.std.proofs.Common.{arith, refl, sym, ◌∙◌, subst, ◌≡◌, ◌<◌, ◌≤◌, ◌+◌, ℕ, zero, suc, List, [], ◌∷◌, map, length, true, ◌&&◌, Option, None, Some, IfSome}
use Rattle.std.specs.Prelude.{nat_le, drop}
use Rattle.std.specs.List.{AllByRecursion, list_all}
use Rattle.std.proofs.lemmas.Bool.{and_parts, cond_both, leb-true, lt-ltb}
use Rattle.aegis_limits.specs.declared.version.Version.{Version}
use Rattle.aegis_limits.specs.declared.version.Version.TheVariants.{One, Two}
use Rattle.aegis_limits.specs.Limits.{most_environments, most_pages, most_run_ticks}
use Rattle.aegis_limits.specs.VersionLimits.{most_environments_of, most_pages_of}
use Rattle.boot_image.specs.Accepted.{IsAccepted, IsOwnerBelow}
use Rattle.boot_image.specs.ImageValue.{ImageValue, ProgramValue}
use Rattle.external_event.specs.declared.event.Occurrence.{Occurrence}
use Rattle.external_event.specs.declared.event.Occurrence.TheVariants as outside
use Rattle.external_event.specs.EventValue.{is_occurrence}
use Rattle.external_event.specs.Limits.{last_environment, most_asked, most_packet_size}
use Rattle.filter_tree.specs.ClaimBook.{ClaimValue}
use Rattle.revocation_book.specs.declared.revocation.Taking.{Taking}
use Rattle.revocation_book.specs.Pending.{is_due, outstanding_in}
use Rattle.revocation_book.specs.Takings.{Books, is_victim, paired, takings_below, takings_of, victims, victims_below}
use Rattle.world_model.specs.declared.hold.Hold.{Hold}
use Rattle.world_model.specs.Book.{Book, is_idle_book}
use Rattle.world_model.specs.ClaimCalls.{claim_of}
use Rattle.world_model.specs.Deadlines.{settles, takes}
use Rattle.world_model.specs.Event.{Schedule, arrives, happen, signals}
use Rattle.world_model.specs.PageCalls.{revocations}
use Rattle.world_model.specs.Tick.{step, tick_phases, timer, turn}
use Rattle.world_model.specs.World.{World, Reply, after, run_phases}
use Rattle.call_verdicts.specs.Granted.{GrantedMay}
use Rattle.run_model.specs.Boot.{book_of_image, boot_slot, boot_world, own_row, own_rows, with_all_kept, with_kept}
use Rattle.run_model.specs.Run.{System, happens_in, next_phases, next_world, once_happened, takings_next, world_after, world_after_ticks}
use Rattle.run_model.proofs.Phases.{run_append}
use Rattle.ledger_text.specs.Limits.{most_number}
use Rattle.report_law.specs.ReportLaw.{AreEventsWithin}
use Rattle.report_law.proofs.Bounded.{AllSmall, ArePages, IsBounded, IsHeld, IsHoldBelow, IsRowOf, Keeps, after_bounded, all_append, all_drop, all_take, core, revokes_bounded, set_each, slot_small}
use Rattle.report_law.proofs.Steps.{step_bounded}
use Rattle.report_law.proofs.Turns.{timer_bounded, turn_bounded}

-- what happens from outside
packet_bounded : (t : ℕ) (w : World) (packet : List ℕ) (claim : Option ClaimValue) → IsHeld t w.count (core w.book) → length packet ≤ most_number → Keeps t w.count (arrives packet claim w)
packet_bounded t w packet None held short = record { held = held; rows = ((λ at. record { numbers = (at, (short, tt)); paired = refl }, refl), tt) }
packet_bounded t w packet (Some c) held short = record { held = held; rows = tt }

signal_bounded : (t : ℕ) (w : World) (line : ℕ) (owner : Option ℕ) → IsHeld t w.count (core w.book) → Keeps t w.count (signals line owner w)
signal_bounded t w line None held = record { held = held; rows = tt }
signal_bounded t w line (Some owner) held = record { held = held; rows = tt }

happen_bounded : (t : ℕ) (w : World) (what : Occurrence) → IsHeld t w.count (core w.book) → is_occurrence what ≡ true → Keeps t w.count (happen what w)
happen_bounded t w (outside.Packet packet) held is =
    let short = leb-true (length packet) most_packet_size (and_parts (nat_le 1 (length packet)) (nat_le (length packet) most_packet_size) is).1 in
    packet_bounded t w packet (claim_of w.book packet) held (omega (arith, short))
happen_bounded t w (outside.Line line) held is = signal_bounded t w line (w.book.lines line) held
happen_bounded t w (outside.Revoke env count grace) held is =
    let rest = (and_parts (nat_le env last_environment) (nat_le count most_asked && nat_le grace most_run_ticks) is).1 in
    let soon = leb-true grace most_run_ticks (and_parts (nat_le count most_asked) (nat_le grace most_run_ticks) rest).1 in
    revokes_bounded t w env count (w.book.time + grace) held (omega (arith, held.time, held.soon, soon))

happened : (t : ℕ) (happens : List Occurrence) (w : World) → list_all is_occurrence happens ≡ true → IsBounded t w → IsBounded t (run_phases w (map happen happens))
happened t [] w all bounded = bounded
happened t (what ∷ happens) w all bounded =
    let parts = and_parts (is_occurrence what) (list_all is_occurrence happens) all in
    happened t happens (after w (happen what w)) parts.1 (after_bounded t w (happen what w) bounded (happen_bounded t w what bounded.held parts.0))

-- what is taken
abbrev IsTakingSmall : ℕ → Taking → Type 0
IsTakingSmall n x = (x.env < n) × (x.page ≤ most_number) × IfSome x.backup (λ (p : ℕ). p ≤ most_number)

victims_small : (b : Books) (e count : ℕ) → ArePages count (victims_below b e count)
victims_small b e count = below count (omega arith)
  where
    below : (page : ℕ) → page ≤ count → ArePages count (victims_below b e page)
    below zero less = tt
    below (suc page) less =
        all_append (λ (p : ℕ). p < count) (victims_below b e page) _ (below page (omega (arith, less)))
        (cond_both (is_victim b e page) (page ∷ []) [] (ArePages count) (λ is. (omega (arith, less), tt)) (λ not. tt))

paired_small : (n count e : ℕ) (pages backups : List ℕ) → count ≤ 4096 → e < n → ArePages count pages → ArePages count backups → AllByRecursion (IsTakingSmall n) (paired e pages backups)
paired_small n count e [] backups few who all copies = tt
paired_small n count e (page ∷ pages) [] few who (here, all) copies = ((who, omega (arith, here, few), tt), paired_small n count e pages [] few who all tt)
paired_small n count e (page ∷ pages) (backup ∷ backups) few who (here, all) (copy, copies) =
    ((who, omega (arith, here, few), omega (arith, copy, few)), paired_small n count e pages backups few who all copies)

takings_small : (t : ℕ) (w : World) (n : ℕ) → IsHeld t w.count (core w.book) → n ≤ w.count → AllByRecursion (IsTakingSmall w.count) (takings_below (revocations w.book) w.book.time n)
takings_small t w zero held less = tt
takings_small t w (suc e) held less =
    let b = revocations w.book in
    all_append (IsTakingSmall w.count) (takings_below b w.book.time e) (takings_of b w.book.time e) (takings_small t w e held (omega (arith, less)))
    (cond_both (is_due w.book.time (w.book.pending e)) (paired e (victims b e) (w.book.backups e)) [] (AllByRecursion (IsTakingSmall w.count))
    (λ due.
    paired_small w.count w.book.page_count e (victims b e) (w.book.backups e) held.pages (omega (arith, less))
    (all_take (λ (p : ℕ). p < w.book.page_count) (outstanding_in (w.book.pending e)) (victims_below b e w.book.page_count) (victims_small b e w.book.page_count)) (held.backups e))
    (λ later. tt))

taking_bounded : (t : ℕ) (w : World) (x : Taking) → IsHeld t w.count (core w.book) → IsTakingSmall w.count x → Keeps t w.count (takes x w)
taking_bounded t w x held small = record {
  held = record {
    few = held.few;
    time = held.time;
    soon = held.soon;
    pages = held.pages;
    quantum = held.quantum;
    slot_count = held.slot_count;
    cursor = held.cursor;
    slots = held.slots;
    runner = held.runner;
    excess = held.excess;
    backups = λ i. set_each (ArePages w.book.page_count) x.env (drop 1 (w.book.backups x.env)) w.book.backups (all_drop (λ (p : ℕ). p < w.book.page_count) 1 (w.book.backups x.env) (held.backups x.env)) held.backups i;
  };
  rows = ((λ at. record { numbers = (at, (omega (arith, small.0, held.few), (small.1, (small.2, tt)))); paired = refl }, lt-ltb x.env w.count small.0), tt);
}

abbrev behind : List (World → Reply)
behind = settles ∷ turn ∷ step ∷ timer ∷ []

rest_bounded : GrantedMay → (t : ℕ) (w : World) → t + 1 ≤ most_run_ticks → IsBounded t w → IsBounded (t + 1) (run_phases w behind)
rest_bounded granted t w soon bounded =
    let s = after w (settles w) in
    let settled = after_bounded t w (settles w) bounded (record { held = bounded.held; rows = tt }) in
    let u = after s (turn s) in
    let turned = after_bounded t s (turn s) settled (turn_bounded t s settled.held) in
    let v = after u (step u) in
    let stepped = step_bounded granted t u turned in
    let timed = timer_bounded t v soon stepped.held in
    record { held = timed.held; rows = all_append (IsRowOf w.count) v.rows (timer v).rows stepped.rows timed.rows }

served : GrantedMay → (t : ℕ) (xs : List Taking) (w : World) → t + 1 ≤ most_run_ticks → AllByRecursion (IsTakingSmall w.count) xs → IsBounded t w → IsBounded (t + 1) (run_phases w (tick_phases xs))
served granted t [] w soon all bounded = rest_bounded granted t w soon bounded
served granted t (x ∷ xs) w soon (here, all) bounded =
    served granted t xs (after w (takes x w)) soon all (after_bounded t w (takes x w) bounded (taking_bounded t w x bounded.held here))

later : (t u : ℕ) (w : World) → t ≤ u → u ≤ most_run_ticks → IsBounded t w → IsBounded u w
later t u w less soon bounded =
    let held = bounded.held in
    record {
      held = record {
        few = held.few;
        time = omega (arith, less, held.time);
        soon = soon;
        pages = held.pages;
        quantum = held.quantum;
        slot_count = held.slot_count;
        cursor = held.cursor;
        slots = held.slots;
        runner = held.runner;
        excess = held.excess;
        backups = held.backups;
      };
      rows = bounded.rows;
    }

next_bounded : GrantedMay → (schedule : Schedule) → AreEventsWithin schedule → (t : ℕ) (w : World) → t + 1 ≤ most_run_ticks → IsBounded t w → IsBounded (t + 1) (next_world schedule w)
next_bounded granted schedule all t w soon bounded =
    let happens = happens_in schedule w in
    let xs = takings_next schedule w in
    let v = once_happened schedule w in
    let early = happened t happens w (all w.book.time) bounded in
    cond_both (is_idle_book w.book) w (run_phases w (next_phases schedule w)) (IsBounded (t + 1))
    (λ idle. later t (t + 1) w (omega arith) soon bounded)
    (λ busy. subst (IsBounded (t + 1)) (sym (run_append w (map happen happens) (tick_phases xs))) (served granted t xs v soon (takings_small t v v.count early.held (omega arith)) early))

ticks_bounded : GrantedMay → (schedule : Schedule) → AreEventsWithin schedule → (w : World) → IsBounded 0 w → (t : ℕ) → t ≤ most_run_ticks → IsBounded t (world_after_ticks schedule w t)
ticks_bounded granted schedule all w bounded zero soon = bounded
ticks_bounded granted schedule all w bounded (suc t) soon =
    let before = ticks_bounded granted schedule all w bounded t (omega (arith, soon)) in
    let u = world_after_ticks schedule w t in
    later (t + 1) (suc t) (next_world schedule u) (omega arith) soon (next_bounded granted schedule all t u (omega (arith, soon)) before)

-- the boot
core_kept : (e : ℕ) (programs : List ProgramValue) (b : Book) → core (with_all_kept e programs b) ≡ core b
core_kept e [] b = refl
core_kept e (p ∷ programs) b = core_kept (e + 1) programs (with_kept e p b)

owner_below : (n : ℕ) (owners : List (Option ℕ)) (k : ℕ) → AllByRecursion (IsOwnerBelow n) owners → IsHoldBelow n (boot_slot owners k)
owner_below n [] k all = tt
owner_below n (None ∷ owners) zero all = tt
owner_below n (Some e ∷ owners) zero (here, all) = (here, here)
owner_below n (x ∷ owners) (suc k) (here, all) = owner_below n owners k all

own_small : (n : ℕ) (owners : List (Option ℕ)) → n ≤ most_environments → length owners ≤ 64 → AllByRecursion (IsOwnerBelow n) owners → (count : ℕ) → count ≤ length owners → AllSmall n (own_rows owners count)
own_small n owners few most all zero less = tt
own_small n owners few most all (suc k) less =
    all_append (IsRowOf n) (own_rows owners k) (own_row k (boot_slot owners k)) (own_small n owners few most all k (omega (arith, less)))
    (by_hold (boot_slot owners k) (owner_below n owners k all))
  where
    by_hold : (hold : Option Hold) → IsHoldBelow n hold → AllSmall n (own_row k hold)
    by_hold None below = tt
    by_hold (Some hold) below = (slot_small n 0 k (Some hold) few (omega (arith, less, most)) below, tt)

pages_few : (v : Version) (pages : ℕ) → pages ≤ most_pages_of v → pages ≤ most_pages
pages_few One pages less = omega (arith, less)
pages_few Two pages less = omega (arith, less)

programs_few : (v : Version) (n : ℕ) → n ≤ most_environments_of v → n ≤ most_environments
programs_few One n less = omega (arith, less)
programs_few Two n less = omega (arith, less)

boot_bounded : (image : ImageValue) → IsAccepted image → IsBounded 0 (boot_world image)
boot_bounded image accepted = record {
  held = subst (IsHeld 0 (length image.programs)) (sym (core_kept 0 image.programs (book_of_image image))) (record {
    few = few;
    time = omega arith;
    soon = omega arith;
    pages = pages_few image.version image.pages accepted.pages_most;
    quantum = accepted.quantum_most;
    slot_count = accepted.slots_most;
    cursor = omega (arith, accepted.slots_least);
    slots = λ k. owner_below (length image.programs) image.slots k accepted.owners;
    runner = tt;
    excess = λ e. omega arith;
    backups = λ e. tt;
  });
  rows = own_small (length image.programs) image.slots few accepted.slots_most accepted.owners (length image.slots) (omega arith);
}
  where
    few : length image.programs ≤ most_environments
    few = programs_few image.version (length image.programs) accepted.programs_most

pub run_bounded : GrantedMay → (system : System) (t : ℕ) → IsAccepted system.image → AreEventsWithin system.schedule → t ≤ most_run_ticks → IsBounded t (world_after system t)
run_bounded granted system t accepted all soon = ticks_bounded granted system.schedule all (boot_world system.image) (boot_bounded system.image accepted) t soon

-- environments are as many as the image has
run_count : (w : World) (phases : List (World → Reply)) → (run_phases w phases).count ≡ w.count
run_count w [] = refl
run_count w (phase ∷ phases) = run_count (after w (phase w)) phases

pub count_is : (system : System) (t : ℕ) → (world_after system t).count ≡ length system.image.programs
count_is system zero = refl
count_is system (suc t) =
    let w = world_after system t in
    cond_both (is_idle_book w.book) w (run_phases w (next_phases system.schedule w)) (λ (v : World). v.count ≡ length system.image.programs)
    (λ idle. count_is system t) (λ busy. run_count w (next_phases system.schedule w) ∙ count_is system t)

-- What happens from outside, one after another.
use Rattle.std.proofs.Common.{◌≡◌, ℕ, ◌+◌, ◌<◌, List, [], ◌∷◌, ◌++◌, length, map, take, get_or, false, refl, sym, ◌∙◌, ap, subst, rules}
use Rattle.std.proofs.lemmas.List.{map-append, take_more}
use Rattle.external_event.specs.declared.event.Occurrence.{Occurrence}
use Rattle.external_event.specs.EventValue.{EventValue}
use Rattle.world_model.specs.Book.{is_idle_book}
use Rattle.world_model.specs.Event.{Schedule, happen}
use Rattle.world_model.specs.Tick.{tick_phases, tick_step}
use Rattle.world_model.specs.World.{World, after, run_phases}
use Rattle.run_model.specs.Boot.{boot_world}
use Rattle.run_model.specs.Excess.{IsAccounted, TicksKeepAccounts}
use Rattle.run_model.specs.Run.{System, happens_in, next_phases, takings_next, world_after}
use Rattle.run_model.proofs.Balance.{happen_accounts}
use Rattle.run_model.proofs.Phases.{run_append}
use Rattle.aegis_tick.specs.Agenda.{occurrences}
use Rattle.aegis_tick.specs.Course.{HappenedInPart, IsCutOff, world_with}

-- one more
pub one_more : (w : World) (es : List EventValue) (i : ℕ) (e : EventValue) → i < length es → e ≡ get_or es i e →
    world_with (occurrences (take (i + 1) es)) w ≡ (let v = world_with (occurrences (take i es)) w in after v (happen e.what v))
one_more w es i e within is =
    let so_far = occurrences (take i es) in
    let more : take (i + 1) es ≡ take i es ++ e ∷ [] = take_more es i e within ∙ ap (λ (x : EventValue). take i es ++ x ∷ []) (sym is) in
    ap (λ (xs : List EventValue). world_with (occurrences xs) w) more
    ∙ ap (λ (xs : List Occurrence). world_with xs w) (map-append (λ (x : EventValue). x.what) (take i es) (e ∷ []))
    ∙ ap (run_phases w) (map-append happen so_far (e.what ∷ []))
    ∙ run_append w (map happen so_far) (happen e.what ∷ [])

-- a tick behind what happens in it
pub then_ticks : (schedule : Schedule) (w : World) → run_phases w (next_phases schedule w) ≡ tick_step (world_with (happens_in schedule w) w)
then_ticks schedule w = run_append w (map happen (happens_in schedule w)) (tick_phases (takings_next schedule w))

-- nothing that happens takes or gives a turn
pub happen_idle : (what : Occurrence) (w : World) → is_idle_book (happen what w).book ≡ is_idle_book w.book
happen_idle what w = search rules

pub still_busy : (happens : List Occurrence) (w : World) → is_idle_book (world_with happens w).book ≡ is_idle_book w.book
still_busy [] w = refl
still_busy (what ∷ happens) w = still_busy happens (after w (happen what w)) ∙ happen_idle what w

-- the accounts stay
still_accounted : (happens : List Occurrence) (w : World) → IsAccounted w → IsAccounted (world_with happens w)
still_accounted [] w good = good
still_accounted (what ∷ happens) w good = still_accounted happens (after w (happen what w)) (happen_accounts what w good)

-- where what happens in a tick happened in part, the run was cut off
pub cut_off : (system : System) (v u : World) (t ticks : ℕ) → v ≡ world_after system t → t < ticks → is_idle_book v.book ≡ false
    → HappenedInPart (happens_in system.schedule v) v u → IsCutOff system ticks u
cut_off system v u t ticks now fewer busy part = search rules

pub cut_accounted : TicksKeepAccounts → (system : System) (ticks : ℕ) (u : World) → IsCutOff system ticks u → IsAccounted (boot_world system.image) → IsAccounted u
cut_accounted keep system ticks u cut good =
    let v = world_after system cut.done in
    subst IsAccounted (sym cut.is) (still_accounted (take cut.events (happens_in system.schedule v)) v (keep system.schedule (boot_world system.image) good cut.done))

-- Ticks of other environments have no line.
use Rattle.std.proofs.Common.{◌≡◌, ◌≢◌, ◌<◌, ◌≤◌, ℕ, zero, suc, ◌+◌, List, [], Bool, false, Option, Some, refl, sym, ◌∙◌, ap, subst, add-zero, add-suc, arith, rules}
use Rattle.std.specs.Prelude.{◌&&◌, if◌then◌else◌, map, nat_le}
use Rattle.std.proofs.lemmas.Bool.{ne_eqb}
use Rattle.std.proofs.lemmas.List.{append-nil}
use Rattle.external_event.specs.declared.event.Occurrence.{Occurrence}
use Rattle.world_model.specs.declared.slot.Runner.{Runner}
use Rattle.world_model.specs.Book.{Book, is_idle_book, is_runner, running}
use Rattle.world_model.specs.Event.{Schedule, happen}
use Rattle.world_model.specs.World.{World, run_phases}
use Rattle.run_model.specs.Boot.{boot_world}
use Rattle.run_model.specs.Run.{System, TimeIsTick, happens_in, next_world, world_after, world_after_ticks}
use Rattle.board_model.specs.Shown.{Shown}
use Rattle.board_model.specs.Showing.{world_of}
use Rattle.board_model.specs.Stretch.{AreSteady, IsAtStep, IsQuiet}
use Rattle.aegis_tick.specs.Halves.{first_half, mid}
use Rattle.tlb_course.specs.Further.{WorldsGoOn}
use Rattle.trace_view.specs.Others.{AnotherRuns}
use Rattle.trace_view.specs.Trace.{line_from, line_in, trace_lines, tick_line}

other_runner : (e r : ℕ) (o : Option Runner) → running o ≡ Some r → r ≢ e → is_runner e o ≡ false
other_runner e r o runs other = search (rules, ne_eqb)

none_and : (a b : Bool) → b ≡ false → a && b ≡ false
none_and a b none = search rules

none_if : (t : Bool) (xs : List ℕ) → xs ≡ [] → (if t then xs else []) ≡ []
none_if t xs none = search rules

busy : (r : ℕ) (b : Book) → running b.runner ≡ Some r → is_idle_book b ≡ false
busy r b runs = search rules

-- where nothing happens before the step, and another environment runs, there is no line
no_line : (schedule : Schedule) (v u : World) (e r : ℕ) → happens_in schedule v ≡ [] → IsAtStep v → running v.book.runner ≡ Some r → r ≢ e → tick_line e (mid schedule v) u ≡ []
no_line schedule v u e r nothing step runs other =
    let middle : mid schedule v ≡ v = ap (λ (xs : List Occurrence). first_half (run_phases v (map happen xs))) nothing ∙ step in
    ap (λ (m : World). tick_line e m u) middle ∙ rw (other_runner e r v.book.runner runs other, none_and) refl

module _ (times : TimeIsTick) (further : WorldsGoOn) (system : System) (start : (boot_world system.image).book.time ≡ 0) (b : Shown) (e from t k : ℕ)
    (at : world_of b ≡ world_after system t) (quiet : IsQuiet system.schedule t (t + k)) (steady : 0 < k → AreSteady b system.schedule k)
    (others : 0 < k → AnotherRuns e (world_of b)) where
  there : (i : ℕ) → world_after_ticks system.schedule (world_of b) i ≡ world_after system (t + i)
  there i = ap (λ (v : World). world_after_ticks system.schedule v i) at ∙ further system.schedule (boot_world system.image) t i

  line_at : (i : ℕ) → i < k → line_in system e (t + i) ≡ []
  line_at i less =
      let v = world_after system (t + i) in
      let some : 0 < k = omega arith in
      let another = others some in
      let r = another.0 in
      let stays = (steady some).stays i (omega arith) in
      let runs : running v.book.runner ≡ Some r = ap (λ (u : World). running u.book.runner) (sym (there i)) ∙ stays.runner ∙ another.1 in
      let time = times system.schedule (boot_world system.image) (t + i) start (busy r v.book runs) in
      no_line system.schedule v (next_world system.schedule v) e r
      (ap system.schedule time ∙ quiet.nothing (t + i) (omega arith) (omega arith))
      (subst IsAtStep (there i) ((steady some).at_step i less))
      runs another.2

  no_line_from : (i : ℕ) → i < k → line_from system e from (t + i) ≡ []
  no_line_from i less = none_if (nat_le from (t + i)) (line_in system e (t + i)) (line_at i less)

  lines_until : (i : ℕ) → i ≤ k → trace_lines system e from (t + i) ≡ trace_lines system e from t
  lines_until zero within = rw add-zero refl
  lines_until (suc i) within = rw (add-suc, no_line_from i (omega arith), append-nil) (lines_until i (omega arith))

  pub no_lines : trace_lines system e from (t + k) ≡ trace_lines system e from t
  no_lines = lines_until k (omega arith)

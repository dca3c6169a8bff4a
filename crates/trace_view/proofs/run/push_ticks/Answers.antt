-- Each turn of the loop is a tick with its line, and ticks of others after it, until the world is idle.
use Rattle.std.proofs.Common.{◌≡◌, ◌≤◌, ◌<◌, true, false, inl, inr, refl, ◌+◌, ◌-◌, ◌++◌, ℕ, List, sym, ◌∙◌, ap, subst, append_assoc, arith}
use Rattle.std.proofs.lemmas.Bool.{cases_lt}
use Rattle.std.proofs.lemmas.List.{append-nil}
use Rattle.board_model.specs.Showing.{world_of}
use Rattle.board_model.specs.Stretch.{AreSteady, IsQuiet}
use Rattle.world_model.specs.Book.{is_idle_book}
use Rattle.world_model.specs.World.{World}
use Rattle.run_model.specs.Boot.{boot_world}
use Rattle.run_model.specs.Run.{System, world_after}
use Rattle.aegis_tick.specs.OnCourse.{system_of}
use Rattle.trace_view.specs.Trace.{line_in, trace_lines}
use Rattle.trace_view.proofs.Others.{no_lines}
use Rattle.trace_view.proofs.Ticks.{lines_more, none_before}
use Rattle.trace_view.proofs.run.push_ticks.Goals as goal

pub returns-else-not-idle-clause-world : goal.returns-else-not-idle-clause-world
returns-else-not-idle-clause-world c =
    let system = system_of c.args.course.now in
    let b = c.loop-course.course.board in
    let here : world_of b ≡ world_after system b.time = c.loop-course.invariant.on.board.world ∙ ap (λ (s : System). world_after s b.time) c.loop-course.invariant.system in
    let idle = ap (λ (w : World). is_idle_book w.book) (sym here) ∙ sym c.idle.ensures ∙ c.if-not-idle.false in
    let whole : b.time + (c.args.ticks - b.time) ≡ c.args.ticks = omega (arith, c.loop-course.invariant.within) in
    here ∙ sym (c.law_idle.ensures system.schedule (boot_world system.image) b.time (c.args.ticks - b.time) idle) ∙ ap (world_after system) whole

pub loop-course-init : goal.loop-course-init
loop-course-init c =
    let out = c.args.out.now.items in
    let system = system_of c.args.course.now in
    record {
      text = sym (append-nil out) ∙ ap (λ (lines : List ℕ). out ++ lines) (sym (none_before system c.args.env c.args.from c.args.course.now.board.time c.requires.begins));
      idle = c.requires.idle;
      on = c.requires.on;
      within = omega (arith, c.requires.begins, c.requires.within);
      system = refl;
    }

pub loop-course-preserved : goal.loop-course-preserved
loop-course-preserved c =
    let system = system_of c.args.course.now in
    let out = c.args.out.now.items in
    let now = c.loop-course.invariant in
    let t = c.loop-course.course.board.time in
    let e = c.args.env in
    let tick = c.in_ok-push_tick.ensures in
    let next = c.push_tick.new.course.board in
    let others = c.pass_others.ensures in
    let from = c.args.from in
    let k = c.pass_others.result in
    let same = tick.system ∙ now.system in
    let there = tick.on.board.world ∙ ap (λ (s : System). world_after s next.time) same in
    let quiet = subst (λ (s : System). IsQuiet s.schedule next.time (next.time + k)) same others.quiet in
    let steady = subst (λ (s : System). 0 < k → AreSteady next s.schedule k) same others.steady in
    let begun : from ≤ t =
    elim (cases_lt t from) [
      | inl before ↦ let clash : true ≡ false = sym (now.idle before) ∙ (sym c.idle.ensures ∙ c.if-not-idle.true) in cc
      | inr after ↦ after
    ] in
    let none = no_lines c.law_time.ensures c.law_further.ensures.worlds system c.requires.on.board.start next e from next.time k there quiet steady others.others in
    record {
      text = tick.text
          ∙ (λ i. now.text i ++ line_in (now.system i) e t)
          ∙ append_assoc out (trace_lines system e from t) (line_in system e t)
          ∙ ap (λ (lines : List ℕ). out ++ lines) (sym (lines_more system e from t begun) ∙ ap (trace_lines system e from) (sym tick.time) ∙ sym none ∙ ap (trace_lines system e from) (sym others.time));
      on = others.on;
      within = omega (arith, others.time, others.most);
      idle = λ before. absurd (omega (arith, begun, tick.time, others.time, before));
      system = others.system ∙ same;
    }

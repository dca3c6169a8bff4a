-- A run that is cut off before a look is so before the end, and one that has the rows for all ticks is not.
use Rattle.std.proofs.Common.{◌≤◌, ℕ, inl, inr, subst, ◌∙◌, arith}
use Rattle.std.proofs.lemmas.Bool.{false≢true}
use Rattle.world_model.specs.World.{World}
use Rattle.run_model.specs.Run.{System}
use Rattle.board_model.specs.Showing.{world_of}
use Rattle.aegis_tick.specs.Course.{IsCutOff, IsCutShort}
use Rattle.aegis_tick.specs.OnCourse.{system_of}
use Rattle.aegis_tick.proofs.Refusals.{on_err}
use Rattle.aegis_tick.proofs.Rows.{rows_before, rows_left}
use Rattle.aegis_tick.proofs.course.Course.run_long.Goals as goal

cut_before : (system : System) (until ticks : ℕ) (v : World) → until ≤ ticks → IsCutOff system until v → IsCutOff system ticks v
cut_before system until ticks v within cut = record {
  done = cut.done;
  fewer = omega (arith, cut.fewer, within);
  busy = cut.busy;
  events = cut.events;
  is = cut.is;
}

short_before : (system : System) (until ticks : ℕ) (v : World) → until ≤ ticks → IsCutShort system until v → IsCutShort system ticks v
short_before system until ticks v within (inl cut) = inl (cut_before system until ticks v within cut)
short_before system until ticks v within (inr long) = inr long

pub returns-in_err-run_to_look-clause-cut : goal.returns-in_err-run_to_look-clause-cut
returns-in_err-run_to_look-clause-cut c =
    let v = world_of c.run_to_look.new.self.board in
    on_err c.from_residual.result
    (short_before (system_of c.args.self.now) c.min-until.result c.args.ticks v (omega (arith, c.min-until.ensures))
    (subst (λ (s : System). IsCutShort s c.min-until.result v) c.loop-until.invariant.system c.in_err-run_to_look.ensures.cut))

pub returns-in_err-run_to_look-clause-sure : goal.returns-in_err-run_to_look-clause-sure
returns-in_err-run_to_look-clause-sure c has =
    absurd (false≢true (c.in_err-run_to_look.ensures.sure
    (rows_before c.loop-until.self c.min-until.result c.args.ticks (omega (arith, c.min-until.ensures)) (c.loop-until.invariant.rows has))))

pub loop-until-preserved : goal.loop-until-preserved
loop-until-preserved c =
    let after = c.in_ok-run_to_look.ensures in
    let within : c.min-until.result ≤ c.args.ticks = omega (arith, c.min-until.ensures) in
    record {
      on = after.on;
      cached = after.cached;
      reached = after.reached;
      within = within;
      system = c.run_to_look.ensures.system ∙ c.loop-until.invariant.system;
      rows = λ has.
          rows_left c.loop-until.self c.run_to_look.new.self c.args.ticks c.run_to_look.ensures.system (omega (arith, after.reached, within)) after.took
          (c.loop-until.invariant.rows has);
    }

pub returns-clause-sure : goal.returns-clause-sure
returns-clause-sure c has = c.run.ensures.sure (c.loop-until.invariant.rows has).spare

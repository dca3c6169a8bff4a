-- Each turn of the loop is a tick of the run, and the plain ticks after it, until it is idle.
use Rattle.std.proofs.Common.{◌≡◌, ◌≤◌, false, refl, rules, sym, ◌∙◌, ap, subst, arith}
use Rattle.world_model.specs.Book.{is_idle_book}
use Rattle.run_model.specs.Run.{System, happens_in, world_after}
use Rattle.tlb_course.specs.Course.{cache_after}
use Rattle.board_model.specs.Showing.{world_of}
use Rattle.aegis_tick.specs.Course.{HappenedInPart, IsCutOff}
use Rattle.aegis_tick.specs.OnCourse.{IsBoardOf, TookFewRows, system_of}
use Rattle.aegis_tick.proofs.Happening.{cut_accounted, cut_off}
use Rattle.aegis_tick.proofs.OnCourse.{idle_cache, idle_world}
use Rattle.aegis_tick.proofs.Refusals.{on_err}
use Rattle.aegis_tick.proofs.Rows.{room_left, took_more, took_none}
use Rattle.aegis_tick.proofs.course.Course.run.Goals as goal
use Rattle.aegis_tick.proofs.course.Course.run.Goals.{then-loop-self-test+else-not-idle, else-loop-self-test}

pub loop-self-init : goal.loop-self-init
loop-self-init c = record {
  on = c.requires.on;
  cached = c.requires.cached;
  within = c.requires.within;
  system = refl;
  room = λ room. room;
  took = took_none c.args.self.now;
}

-- after one more tick, and the plain ticks after it
took_few : (c : goal.After-glide) → TookFewRows c.args.self.now c.glide.new.self
took_few c =
    took_more c.args.self.now c.loop-self.self c.tick.new.self c.glide.new.self c.tick.result c.glide.result c.loop-self.invariant.took
    c.tick.ensures.fewer c.in_ok-tick.ensures.time c.tick.ensures.sure c.glide.ensures.agenda c.glide.ensures.ledger c.glide.ensures.time

within_ticks : (c : goal.After-glide) → c.glide.new.self.board.time ≤ c.args.ticks
within_ticks c =
    omega (arith, c.time.ensures, c.loop-self-test.true, c.in_ok-tick.ensures.time, c.time-in-loop-self.ensures, c.glide.ensures.time, c.glide.ensures.most)

pub loop-self-preserved : goal.loop-self-preserved
loop-self-preserved c = record {
  on = c.glide.ensures.on;
  cached = c.glide.ensures.cached (c.in_ok-tick.ensures.cached c.loop-self.invariant.cached);
  within = within_ticks c;
  system = c.glide.ensures.system ∙ c.tick.ensures.system ∙ c.loop-self.invariant.system;
  room = room_left c.args.self.now c.glide.new.self c.args.ticks (within_ticks c) (took_few c);
  took = took_few c;
}

-- a tick that is refused cuts the run off
cut_here : (c : goal.After-from_residual) → IsCutOff (system_of c.args.self.now) c.args.ticks (world_of c.tick.new.self.board)
cut_here c =
    let r = c.loop-self.self in
    let now = c.loop-self.invariant in
    let v = world_of r.board in
    let u = world_of c.tick.new.self.board in
    let busy : is_idle_book v.book ≡ false = search rules in
    cut_off (system_of c.args.self.now) v u r.board.time c.args.ticks
    (now.on.board.world ∙ ap (λ (s : System). world_after s r.board.time) now.system) (omega (arith, c.time.ensures, c.loop-self-test.true)) busy
    (subst (λ (s : System). HappenedInPart (happens_in s.schedule v) v u) now.system c.in_err-tick.ensures.part)

pub returns-in_err-tick-clause-cut : goal.returns-in_err-tick-clause-cut
returns-in_err-tick-clause-cut c = on_err c.from_residual.result (cut_here c)

pub returns-in_err-tick-clause-balance : goal.returns-in_err-tick-clause-balance
returns-in_err-tick-clause-balance c = cut_accounted c.law_accounts.ensures (system_of c.args.self.now) c.args.ticks (world_of c.tick.new.self.board) (cut_here c)

-- the board is that of the run
here : (c : goal.After-end_of_run) → IsBoardOf (system_of c.args.self.now) c.loop-self.self.board
here c = subst (λ (s : System). IsBoardOf s c.loop-self.self.board) c.loop-self.invariant.system c.loop-self.invariant.on.board

pub returns-clause-world : goal.returns-clause-world
returns-clause-world c =
    let system = system_of c.args.self.now in
    let b = c.loop-self.self.board in
    let within = c.loop-self.invariant.within in
    elim c.loop-self-test.branch [
      | then-loop-self-test+else-not-idle w ↦ idle_world system b c.args.ticks (here c) within (sym w.idle.ensures ∙ w.if-not-idle.false)
      | else-loop-self-test w ↦
          let over : b.time ≡ c.args.ticks = omega (arith, within, c.time.ensures, w.loop-self-test.false) in
          (here c).world ∙ ap (world_after system) over
    ]

pub returns-clause-tlb : goal.returns-clause-tlb
returns-clause-tlb c =
    let system = system_of c.args.self.now in
    let b = c.loop-self.self.board in
    let within = c.loop-self.invariant.within in
    let cached : b.tlb ≡ cache_after system b.time = c.loop-self.invariant.cached ∙ ap (λ (s : System). cache_after s b.time) c.loop-self.invariant.system in
    elim c.loop-self-test.branch [
      | then-loop-self-test+else-not-idle w ↦ idle_cache system b c.args.ticks (here c) within (sym w.idle.ensures ∙ w.if-not-idle.false) cached
      | else-loop-self-test w ↦
          let over : b.time ≡ c.args.ticks = omega (arith, within, c.time.ensures, w.loop-self-test.false) in
          cached ∙ ap (cache_after system) over
    ]

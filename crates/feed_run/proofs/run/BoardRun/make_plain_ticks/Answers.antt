-- The ticks of the stretch are steps of the environment, which are told, or give it nothing.
use Rattle.std.proofs.Common.{◌∙◌, sym, arith}
use Rattle.board_model.specs.Showing.{world_of}
use Rattle.feed_run.specs.Reach.{IsOutOfReach}
use Rattle.feed_run.proofs.Plain.{HasGone, behind, others_gone, own_gone}
use Rattle.feed_run.proofs.run.BoardRun.make_plain_ticks.Goals.{else-not-is_own-via-then-not-is_own+else-not-is_out_of_reach, else-not-is_own-via-else-not-is_own}
use Rattle.feed_run.proofs.run.BoardRun.make_plain_ticks.Goals as goal

own : (c : goal.In_ok-push_steps) → HasGone c.args.self.now (behind c.args.self.now c.glide-steps.new.self c.push_steps.new.self)
own c =
    let glided = c.glide-steps.ensures in
    own_gone c.law_time.ensures c.law_further.ensures.worlds c.args.self.now c.glide-steps.new.self c.glide-steps.result c.in-Some.runner c.requires
    (record { runs = sym c.runner.ensures ∙ c.in-Some.is; on = glided.on; time = glided.time; within = omega (arith, glided.time, glided.most, c.time-most.ensures, c.requires.within); system = glided.system; quiet = glided.quiet; steady = glided.steady })
    c.if-is_own.true c.push_steps.new.self (c.in_ok-push_steps.ensures).log

pub returns-in_ok-push_steps-clause-went : goal.returns-in_ok-push_steps-clause-went
returns-in_ok-push_steps-clause-went c = (own c).went

pub returns-in_ok-push_steps-clause-whole : goal.returns-in_ok-push_steps-clause-whole
returns-in_ok-push_steps-clause-whole c = (own c).whole

-- another runs, and the environment is out of its reach
out_of_reach : (c : goal.Else-is_own) → IsOutOfReach (world_of c.args.self.now.course.board).book c.in-Some.runner c.args.self.now.watched
out_of_reach c = elim c.else-not-is_own.branch [
  | else-not-is_own-via-then-not-is_own+else-not-is_out_of_reach w ↦ w.is_out_of_reach.ensures.0 w.if-not-is_out_of_reach.false
  | else-not-is_own-via-else-not-is_own w ↦ absurd (c.if-is_own.false w.if-not-is_own.false)
]

others : (c : goal.Else-is_own) → HasGone c.args.self.now (behind c.args.self.now c.glide-steps.new.self c.args.self.now.log)
others c =
    let glided = c.glide-steps.ensures in
    others_gone c.law_time.ensures c.law_further.ensures.worlds c.args.self.now c.glide-steps.new.self c.glide-steps.result c.in-Some.runner c.requires
    (record { runs = sym c.runner.ensures ∙ c.in-Some.is; on = glided.on; time = glided.time; within = omega (arith, glided.time, glided.most, c.time-most.ensures, c.requires.within); system = glided.system; quiet = glided.quiet; steady = glided.steady })
    c.law_through.ensures (λ same. c.if-is_own.false (sym same)) (out_of_reach c)

pub returns-else-is_own-clause-went : goal.returns-else-is_own-clause-went
returns-else-is_own-clause-went c = (others c).went

pub returns-else-is_own-clause-whole : goal.returns-else-is_own-clause-whole
returns-else-is_own-clause-whole c = (others c).whole

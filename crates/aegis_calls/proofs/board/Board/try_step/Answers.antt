-- An attempt of the runner's step.
use Rattle.std.proofs.Common.{◌≡◌, ap, sym, ◌∙◌, refl, arith, ◌/◌}
use Rattle.std.specs.Prelude.{is_some}
use Rattle.mips_exec.specs.declared.exception.Outcome.TheVariants as outcome
use Rattle.aegis_limits.specs.Limits.{page_size}
use Rattle.guest_memory.specs.Space.{SpaceValue, lookup}
use Rattle.board_model.specs.Refilling.{fills_after_miss, is_kept_by, rows_after_miss}
use Rattle.board_model.specs.Shown.{mappings_of}
use Rattle.board_model.specs.Doing.{lookup_of}
use Rattle.board_model.proofs.Refills.{lookup_there}
use Rattle.aegis_calls.proofs.Attempts.{IsMade, attempt_made, attempted_as_shown, answered_by_forward, answered_by_refill, answered_sound, its, made_of, missed, refilled_as_shown, vpn_small, words_fit}
use Rattle.tlb_laws.proofs.Ending.{Missed}
use Rattle.aegis_calls.proofs.Runner.{runner_live, seen}
use Rattle.aegis_calls.proofs.board.Board.try_step.Goals as goal
use Rattle.aegis_calls.proofs.board.Board.try_step.Goals.{then-is_refilled, else-is_refilled}

made_retired : (c : goal.In-Retired) → IsMade (seen c.self.view_is) c.args.env c.set_user.new.self c.user_step.new.self c.user_step.new.frames
made_retired c =
    made_of (seen c.self.view_is) c.args.env c.self.inside.machine c.set_user.new.self c.user_step.new.self c.user_step.new.frames refl refl refl c.self.invariant
    (omega (arith, (runner_live c.self.view_is c.self.invariant c.requires).0, c.self.invariant.few))
    c.set_user.ensures.machine c.set_user.ensures.user c.set_user.ensures.pid c.user_step.ensures.cpu c.user_step.ensures.frames c.user_step.ensures.rows c.user_step.ensures.cp0

pub returns-in-Retired : goal.returns-in-Retired
returns-in-Retired c =
    attempted_as_shown c.self.view_is
    (attempt_made (seen c.self.view_is) c.args.env c.set_user.new.self c.user_step.new.self c.user_step.new.frames (made_retired c) outcome.Retired
    (sym c.user_step.ensures.end ∙ c.in-Retired.is))

made_call : (c : goal.In-Call) → IsMade (seen c.self.view_is) c.args.env c.set_user.new.self c.user_step.new.self c.user_step.new.frames
made_call c =
    made_of (seen c.self.view_is) c.args.env c.self.inside.machine c.set_user.new.self c.user_step.new.self c.user_step.new.frames refl refl refl c.self.invariant
    (omega (arith, (runner_live c.self.view_is c.self.invariant c.requires).0, c.self.invariant.few))
    c.set_user.ensures.machine c.set_user.ensures.user c.set_user.ensures.pid c.user_step.ensures.cpu c.user_step.ensures.frames c.user_step.ensures.rows c.user_step.ensures.cp0

pub returns-in-Call : goal.returns-in-Call
returns-in-Call c =
    attempted_as_shown c.self.view_is
    (attempt_made (seen c.self.view_is) c.args.env c.set_user.new.self c.user_step.new.self c.user_step.new.frames (made_call c) outcome.Call
    (sym c.user_step.ensures.end ∙ c.in-Call.is))

made_trap : (c : goal.In-Trap) → IsMade (seen c.self.view_is) c.args.env c.set_user.new.self c.user_step.new.self c.user_step.new.frames
made_trap c =
    made_of (seen c.self.view_is) c.args.env c.self.inside.machine c.set_user.new.self c.user_step.new.self c.user_step.new.frames refl refl refl c.self.invariant
    (omega (arith, (runner_live c.self.view_is c.self.invariant c.requires).0, c.self.invariant.few))
    c.set_user.ensures.machine c.set_user.ensures.user c.set_user.ensures.pid c.user_step.ensures.cpu c.user_step.ensures.frames c.user_step.ensures.rows c.user_step.ensures.cp0

pub returns-in-Trap : goal.returns-in-Trap
returns-in-Trap c =
    attempted_as_shown c.self.view_is
    (attempt_made (seen c.self.view_is) c.args.env c.set_user.new.self c.user_step.new.self c.user_step.new.frames (made_trap c) (outcome.Trap c.in-Trap.exc)
    (sym c.user_step.ensures.end ∙ c.in-Trap.is))

made_space : (c : goal.After-struct_known-1) → IsMade (seen c.self.view_is) c.args.env c.set_user.new.self c.user_step.new.self c.user_step.new.frames
made_space c =
    made_of (seen c.self.view_is) c.args.env c.self.inside.machine c.set_user.new.self c.user_step.new.self c.user_step.new.frames refl refl refl c.self.invariant
    (omega (arith, (runner_live c.self.view_is c.self.invariant c.requires).0, c.self.invariant.few))
    c.set_user.ensures.machine c.set_user.ensures.user c.set_user.ensures.pid c.user_step.ensures.cpu c.user_step.ensures.frames c.user_step.ensures.rows c.user_step.ensures.cp0

pub answer_miss-is_refilled-requires-clause-words : goal.answer_miss-is_refilled-requires-clause-words
answer_miss-is_refilled-requires-clause-words c =
    let b = seen c.self.view_is in
    let vpn = c.in-Refill.exc.bad / page_size in
    let made = made_space c in
    let miss = missed b c.args.env c.set_user.new.self c.user_step.new.self c.user_step.new.frames made c.in-Refill.exc (sym c.user_step.ensures.end ∙ c.in-Refill.is) in
    rw c.space_in-space.ensures
    (words_fit b c.args.env vpn (lookup_of b c.args.env vpn) refl
    (omega (arith, vpn_small b c.args.env c.set_user.new.self c.user_step.new.self c.user_step.new.frames made c.in-Refill.exc miss))
    (λ m is. omega (arith, lookup_there b c.args.env vpn m c.self.invariant is, c.self.invariant.memory.most)))

made_answer : (c : goal.Joined-is_refilled) → IsMade (seen c.self.view_is) c.args.env c.set_user.new.self c.user_step.new.self c.user_step.new.frames
made_answer c =
    made_of (seen c.self.view_is) c.args.env c.self.inside.machine c.set_user.new.self c.user_step.new.self c.user_step.new.frames refl refl refl c.self.invariant
    (omega (arith, (runner_live c.self.view_is c.self.invariant c.requires).0, c.self.invariant.few))
    c.set_user.ensures.machine c.set_user.ensures.user c.set_user.ensures.pid c.user_step.ensures.cpu c.user_step.ensures.frames c.user_step.ensures.rows c.user_step.ensures.cp0

abbrev its_miss : (c : goal.Joined-is_refilled) → Missed (lookup_of (seen c.self.view_is)) c.args.env c.set_user.new.self.cp0 c.self.inside.machine.tlb c.self.inside.frames c.self.inside.machine.cpu
    (its (seen c.self.view_is) c.args.env c.set_user.new.self c.user_step.new.self c.user_step.new.frames (made_answer c)) c.in-Refill.exc
its_miss c =
    missed (seen c.self.view_is) c.args.env c.set_user.new.self c.user_step.new.self c.user_step.new.frames (made_answer c) c.in-Refill.exc (sym c.user_step.ensures.end ∙ c.in-Refill.is)

rows_now : (c : goal.Joined-is_refilled) → c.answer_miss-is_refilled.new.tlb
    ≡ rows_after_miss c.random-random.result c.args.env (lookup_of (seen c.self.view_is) c.args.env (c.in-Refill.exc.bad / page_size)) c.user_step.new.self.tlb
rows_now c =
    c.answer_miss-is_refilled.ensures.rows
    ∙ ap (λ (x : SpaceValue). rows_after_miss c.random-random.result x.number (lookup x (c.in-Refill.exc.bad / page_size)) c.user_step.new.self.tlb) c.space_in-space.ensures

fills_now : (c : goal.Joined-is_refilled) → c.answer_miss-is_refilled.new.fills
    ≡ fills_after_miss (is_kept_by (mappings_of c.self.inside.roster.list c.args.env) (c.in-Refill.exc.bad / page_size)) c.args.env
    (lookup_of (seen c.self.view_is) c.args.env (c.in-Refill.exc.bad / page_size)) c.self.inside.fills
fills_now c =
    c.answer_miss-is_refilled.ensures.fills
    ∙ ap (λ (x : SpaceValue). fills_after_miss (is_kept_by x.mappings (c.in-Refill.exc.bad / page_size)) x.number (lookup x (c.in-Refill.exc.bad / page_size)) c.self.inside.fills) c.space_in-space.ensures

is_answer : (c : goal.Joined-is_refilled) → is_some (lookup_of (seen c.self.view_is) c.args.env (c.in-Refill.exc.bad / page_size)) ≡ c.answer_miss-is_refilled.result
is_answer c = sym (c.answer_miss-is_refilled.ensures.refilled ∙ ap (λ (x : SpaceValue). is_some (lookup x (c.in-Refill.exc.bad / page_size))) c.space_in-space.ensures)

pub invariant_of-self-in-Refill : goal.invariant_of-self-in-Refill
invariant_of-self-in-Refill c =
    answered_sound (seen c.self.view_is) c.args.env c.set_user.new.self c.user_step.new.self c.user_step.new.frames (made_answer c) c.in-Refill.exc c.random-random.result
    c.answer_miss-is_refilled.new.tlb c.answer_miss-is_refilled.new.fills (its_miss c) c.random-random.ensures.row (rows_now c) (fills_now c) c.user_step.ensures.size

pub returns-after-is_refilled : goal.returns-after-is_refilled
returns-after-is_refilled c = elim c.if-is_refilled.branch [
  | then-is_refilled w ↦ rw w.result-is
      (refilled_as_shown c.self.view_is
      (answered_by_refill (seen c.self.view_is) c.args.env c.set_user.new.self c.user_step.new.self c.user_step.new.frames (made_answer c) c.in-Refill.exc c.random-random.result
      c.answer_miss-is_refilled.new.tlb c.answer_miss-is_refilled.new.fills (its_miss c) c.random-random.ensures.row (rows_now c) (fills_now c) (is_answer c ∙ w.if-is_refilled.true)))
  | else-is_refilled w ↦ rw w.result-is
      (attempted_as_shown c.self.view_is
      (answered_by_forward (seen c.self.view_is) c.args.env c.set_user.new.self c.user_step.new.self c.user_step.new.frames (made_answer c) c.in-Refill.exc c.random-random.result
      c.answer_miss-is_refilled.new.tlb c.answer_miss-is_refilled.new.fills (its_miss c) c.random-random.ensures.row (rows_now c) (fills_now c) (is_answer c ∙ w.if-is_refilled.false)))
]

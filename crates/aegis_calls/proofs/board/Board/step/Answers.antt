-- The step is the model's, over the board on which its accesses were looked up.
use Rattle.std.proofs.Common.{◌<◌, ap, sym, ◌∙◌, refl, arith}
use Rattle.aegis_limits.specs.Limits.{environment_numbers}
use Rattle.board_model.specs.Shown.{Shown}
use Rattle.board_model.specs.Showing.{world_of}
use Rattle.board_model.specs.Sound.{HasRunner}
use Rattle.board_model.specs.Doing.{after_runner_step, step_seen}
use Rattle.board_model.specs.Refilling.{with_lookups}
use Rattle.board_model.proofs.Refills.{lookups_sound}
use Rattle.board_model.proofs.Serving.{Leaves}
use Rattle.board_model.proofs.Stepping.{came_leaves}
use Rattle.aegis_calls.proofs.Runner.{runner_there}
use Rattle.aegis_calls.proofs.Looking.{stepped_course}
use Rattle.aegis_calls.proofs.board.Board.step.Goals as goal

pub returns-in-Some : goal.returns-in-Some
returns-in-Some c =
    let b = c.args.self.now in
    let e = c.in-Some.env in
    let runs = sym c.runner.ensures ∙ c.in-Some.is in
    let small : e < environment_numbers = omega (arith, runner_there refl c.law_sound.ensures runs, c.law_sound.ensures.few) in
    let has : HasRunner (with_lookups b e) e = record { sound = lookups_sound b e c.law_sound.ensures small; runs = runs } in
    let leaves : Leaves (with_lookups b e) (after_runner_step (with_lookups b e) e (step_seen b e)) = came_leaves (with_lookups b e) e (step_seen b e) has in
    let now = c.run_step.ensures in
    record {
      world = ap world_of now ∙ c.law_step.ensures (with_lookups b e) e has c.law_claim_numbers.ensures;
      tlb = ap (λ (s : Shown). s.tlb) now ∙ stepped_course b e (record { sound = c.law_sound.ensures; runs = runs }) b.slots.runner runs;
      act = record {
        time = ap (λ (s : Shown). s.time) now ∙ leaves.time;
        whole = ap (λ (s : Shown). s.roster.spare) now ∙ leaves.spare;
        numbers = omega (arith, ap (λ (s : Shown). s.claims.next) now, leaves.numbers);
      };
      room = omega (arith, ap (λ (s : Shown). s.ledger.spare) now, leaves.room);
    }

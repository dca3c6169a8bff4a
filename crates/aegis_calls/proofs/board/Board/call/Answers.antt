-- A call is the model's.
use Rattle.std.proofs.Common.{◌≡◌, ◌==◌, ℕ, Some, sym, ap, arith, ◌∙◌}
use Rattle.mips_exec.specs.Cpu.{reg}
use Rattle.world_model.specs.Call.{exit_number}
use Rattle.world_model.specs.Verdict.{verdict_now}
use Rattle.world_model.specs.Tick as tick
use Rattle.board_model.specs.Shown.{Shown}
use Rattle.board_model.specs.Showing.{world_of}
use Rattle.board_model.specs.Sound.{HasRunner}
use Rattle.board_model.proofs.Serving.{called_leaves}
use Rattle.tlb_course.specs.Course.{cache_called}
use Rattle.aegis_calls.proofs.Emptying.{called_empties}
use Rattle.aegis_calls.proofs.board.Board.call.Goals as goal

-- one runner is the runner
one : (a b : ℕ) → Some a ≡ Some b → a ≡ b
one a b same = cc

pub returns-in-Some : goal.returns-in-Some
returns-in-Some c =
    let b = c.args.self.now in
    let w = world_of b in
    let e = c.in-Some.env in
    let numbers = c.law_claim_numbers.ensures in
    let runs = sym c.runner.ensures ∙ c.in-Some.is in
    let after = c.take_call.ensures in
    let has : HasRunner b e = record { sound = c.law_sound.ensures; runs = runs } in
    let leaves = called_leaves b e (reg b.cpu 2 == exit_number) has in
    record {
      world = λ i is. ap world_of after ∙ c.law_call.ensures b e has numbers ∙ ap (tick.called_world w) (one e i (sym runs ∙ is));
      refused = λ i code value is refused.
          let same = one e i (sym runs ∙ is) in
          ap world_of after
          ∙ c.law_refusal.ensures b e code value has numbers (ap (verdict_now w) same ∙ refused)
          ∙ ap (λ n. tick.refused_world w n code value) same;
      again = λ i who is asks.
          let same = one e i (sym runs ∙ is) in
          ap world_of after
          ∙ c.law_again_answered.ensures b e who has numbers (ap (verdict_now w) same ∙ asks)
          ∙ ap (λ n. tick.again_world w n who) same;
      tlb = λ i is. ap (λ (s : Shown). s.tlb) after ∙ called_empties b e has ∙ ap (λ n. cache_called w n b.tlb) (one e i (sym runs ∙ is));
      act = record {
        time = ap (λ (s : Shown). s.time) after ∙ leaves.time;
        whole = ap (λ (s : Shown). s.roster.spare) after ∙ leaves.spare;
        numbers = omega (arith, leaves.numbers, ap (λ (s : Shown). s.claims.next) after);
      };
      room = omega (arith, leaves.room, ap (λ (s : Shown). s.ledger.spare) after);
    }

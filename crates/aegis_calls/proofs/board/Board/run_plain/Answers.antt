-- Plain ticks, with refills between them.
use Rattle.std.proofs.Common.{ap, ◌≡◌, ◌∙◌, ◌<◌, arith, rules, subst, sym}
use Rattle.board_model.specs.Shown.{Shown}
use Rattle.board_model.specs.Stretch.{plain_ticks}
use Rattle.aegis_calls.specs.Cached.{IsOfMiss}
use Rattle.aegis_calls.proofs.MoreTicks.{all_cached, all_plain, board_further, none_cached, with_its_tlb}
use Rattle.aegis_calls.proofs.Plain.{stretch_falls}
use Rattle.aegis_calls.proofs.Refilled.{ends_unwanted}
use Rattle.aegis_calls.proofs.board.Board.run_plain.Goals as goal

pub loop-steps-init : goal.loop-steps-init
loop-steps-init c =
    let b = c.args.self.now in
    let e = c.args.env in
    let k = c.run_found-steps.result.made in
    let first = c.run_found-steps.ensures in
    record {
      after = with_its_tlb b c.run_found-steps.new.self e k first.after;
      plain = first.plain;
      tlb = λ schedule quiet.
          ap (λ (s : Shown). s.tlb) first.after
          ∙ stretch_falls c.law_stretch.ensures.world c.law_stretch.ensures.steady b e k schedule (record { sound = c.law_sound.ensures; runs = c.requires.runs }) first.plain first.found quiet;
      most = first.tells.most;
      wanted = first.tells.wanted;
      stuck = first.stop;
      missed = first.missed;
      entry = first.tells.entry;
      told = first.tells.told;
      apart = first.tells.apart;
    }

pub loop-steps-preserved : goal.loop-steps-preserved
loop-steps-preserved c =
    let b = c.args.self.now in
    let v = c.loop-steps.self in
    let now = c.run_refilled-steps.new.self in
    let e = c.args.env in
    let j = c.loop-steps.done in
    let k = c.run_refilled-steps.result.made in
    let before = c.loop-steps.invariant in
    let more = c.run_refilled-steps.ensures in
    record {
      after = board_further b v now e j k before.after more.ticks.after;
      plain = all_plain b v now e j k before.after before.plain more.ticks.plain;
      tlb = all_cached b v now e j k before.after c.law_stretch.ensures.world c.law_further.ensures.caches (record { sound = c.law_sound.ensures; runs = c.requires.runs }) before.plain before.tlb more.ticks.tlb;
      most = omega (arith, before.most, more.tells.most);
      wanted = λ some. omega (arith, before.most, more.tells.wanted some);
      stuck = λ less. more.stop (omega (arith, c.if-steps-eq0.false)) (omega (arith, before.most, less));
      missed = λ less. more.missed (omega (arith, c.if-steps-eq0.false)) (omega (arith, before.most, less));
      entry = λ some. omega (arith, before.most, more.tells.entry some);
      told = λ less. more.tells.told (omega (arith, before.most, less));
      apart = more.tells.apart;
    }

pub returns-then-steps-eq0-clause-ticks : goal.returns-then-steps-eq0-clause-ticks
returns-then-steps-eq0-clause-ticks c = record {
  after = search rules;
  plain = search rules;
  tlb = none_cached c.args.self.now c.loop-steps.self c.run_refilled-steps.new.self c.loop-steps.done c.run_refilled-steps.result.made c.if-steps-eq0.true c.loop-steps.invariant.tlb c.run_refilled-steps.ensures.ticks.tlb;
}

-- the next step ends the stretch where nothing is wanted any more, and where a refill was in vain
pub returns-in_default-clause-stop : goal.returns-in_default-clause-stop
returns-in_default-clause-stop c = λ less.
    let plain : c.plain_most-plain.result ≡ plain_ticks c.args.self.now.slots c.args.self.now.revocations c.args.self.now.time c.args.most =
    c.plain_most-plain.ensures ∙ ap (λ t. plain_ticks c.self.inside.slots c.self.inside.revocations t c.args.most) c.ticks.ensures.ticks
    ∙ ap (λ (s : Shown). plain_ticks s.slots s.revocations s.time c.args.most) c.self.view_is in
    let more : c.loop-steps.done < c.plain_most-plain.result = subst (λ n. c.loop-steps.done < n) (sym plain) less in
    ends_unwanted c.loop-steps.self c.args.env (c.loop-steps.invariant.stuck more)
    (subst (IsOfMiss c.loop-steps.self c.args.env) c.in_default.is (c.loop-steps.invariant.missed more))

pub returns-then-steps-eq0-clause-stop : goal.returns-then-steps-eq0-clause-stop
returns-then-steps-eq0-clause-stop c = λ less. c.run_refilled-steps.ensures.ends c.if-steps-eq0.true

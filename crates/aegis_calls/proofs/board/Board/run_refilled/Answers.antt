-- A row is refilled, and the runner goes on; or it is put back.
use Rattle.std.proofs.Common.{◌≡◌, ◌<◌, ◌+◌, ◌/◌, ◌∙◌, ap, sym, refl, subst, arith, rules, ℕ, None, Some}
use Rattle.std.specs.Prelude.{slice_index_or, slice_set}
use Rattle.aegis_limits.specs.Limits.{environment_numbers, page_size, vpn_end}
use Rattle.r3k_tlb.specs.declared.row.Row.{Row}
use Rattle.r3k_tlb.specs.Row.{emptied_row}
use Rattle.r3k_tlb.specs.Rows.{with_row_at}
use Rattle.tlb_model.specs.declared.fills.Fills.{Fills}
use Rattle.tlb_model.specs.Cache.{no_fills, row_for, with_random_fallen}
use Rattle.tlb_course.specs.Course.{cache_after_ticks}
use Rattle.tlb_laws.specs.Laws.{MissesRefill}
use Rattle.world_model.specs.Book.{running}
use Rattle.board_model.specs.Doing.{lookup_of}
use Rattle.board_model.specs.Refilling.{with_refilled}
use Rattle.board_model.specs.Shown.{Shown}
use Rattle.board_model.specs.Showing.{world_of}
use Rattle.board_model.specs.Sound.{HasRunner, IsSoundBoard}
use Rattle.board_model.specs.Stretch.{ArePlain, IsQuiet, stretched}
use Rattle.board_model.proofs.Refills.{lookup_there}
use Rattle.board_model.proofs.Staying.{sound_tlb}
use Rattle.aegis_calls.specs.Cached.{FindRows, EndsStretch, IsOfMiss, IsStuck}
use Rattle.aegis_calls.specs.Entering.{Tells}
use Rattle.aegis_calls.proofs.Attempts.{words_fit}
use Rattle.aegis_calls.proofs.Refilled.{IsFor, is_for, ends_in_vain, ends_nowhere, no_ticks, not_refilled, put_back, refilled_is_sound, refilled_ticks, with_row}
use Rattle.aegis_calls.proofs.Runner.{runner_live, seen}
use Rattle.aegis_calls.proofs.board.Board.run_refilled.Goals as goal

pub refill-requires-clause-words : goal.refill-requires-clause-words
refill-requires-clause-words c =
    let b = seen c.self.view_is in
    let vpn = c.args.address / page_size in
    rw c.space_in-space.ensures
    (words_fit b c.args.env vpn (lookup_of b c.args.env vpn) refl (omega (arith, c.if-vpn-ge-VPN_END.false))
    (λ m is. omega (arith, lookup_there b c.args.env vpn m c.self.invariant is, c.self.invariant.memory.most)))

-- ---- the row that was refilled

small : {b now : Shown} {e : ℕ} → b ≡ now → IsSoundBoard b → running now.slots.runner ≡ Some e → e < environment_numbers
small same sound runs = omega (arith, (runner_live same sound runs).0, sound.few)

pub invariant_of-self-2 : goal.invariant_of-self-2
invariant_of-self-2 c =
    refilled_is_sound (seen c.self.view_is) c.args.env (c.args.address / page_size) c.random-random.result c.space_in-space.result c.refill.new.tlb c.refill.new.fills c.space_in-space.ensures
    c.refill.ensures.rows c.refill.ensures.fills c.self.invariant (small c.self.view_is c.self.invariant c.requires.may.runs) (omega (arith, c.if-vpn-ge-VPN_END.false))

-- ---- ticks were made

abbrev raised : (c : goal.After-fall) → Shown
raised c = record (seen c.self.view_is) { tlb = record { rows = c.refill.new.tlb; random = c.self.inside.machine.cp0.random; fills = c.refill.new.fills } }

raised_for : (c : goal.After-fall) → IsFor (seen c.self.view_is) c.args.env (c.args.address / page_size) (raised c)
raised_for c =
    is_for (seen c.self.view_is) c.args.env (c.args.address / page_size) c.random-random.result c.space_in-space.result c.refill.new.tlb c.refill.new.fills c.space_in-space.ensures
    c.refill.ensures.rows c.refill.ensures.fills c.random-random.ensures.row (sym c.refill.ensures.refilled ∙ c.if-not-refill.false)

pub returns-then-steps-gt0-clause-ticks : goal.returns-then-steps-gt0-clause-ticks
returns-then-steps-gt0-clause-ticks c =
    let b = seen c.self.view_is in
    let e = c.args.env in
    let k = c.run_found-steps.result.made in
    let its = raised_for c in
    let few = small c.self.view_is c.self.invariant c.requires.may.runs in
    let raised_sound : IsSoundBoard (raised c) =
    refilled_is_sound b e (c.args.address / page_size) c.random-random.result c.space_in-space.result c.refill.new.tlb c.refill.new.fills c.space_in-space.ensures
    c.refill.ensures.rows c.refill.ensures.fills c.self.invariant few (omega (arith, c.if-vpn-ge-VPN_END.false)) in
    let sound : IsSoundBoard (with_row b e its.mapping) = subst IsSoundBoard its.board raised_sound in
    let has : HasRunner b e = record { sound = c.self.invariant; runs = ap (λ (s : Shown). running s.slots.runner) c.self.view_is ∙ c.requires.may.runs } in
    record {
      after = search rules;
      plain = search rules;
      tlb = λ schedule quiet.
          (λ i. record { rows = (c.fall.ensures i).tlb; random = (c.fall.ensures i).cp0.random; fills = c.self-2.inside.fills })
          ∙ ap (λ (s : Shown). with_random_fallen s.tlb) (c.self-2.view_is ∙ c.run_found-steps.ensures.after)
          ∙ ap (λ (s : Shown). with_random_fallen (stretched s e k).tlb) its.board
          ∙ refilled_ticks c.law_stretch.ensures.world c.law_stretch.ensures.steady c.law_right_refill.ensures b e k its.mapping schedule c.if-steps-gt0.true few has
          (sound_tlb (with_refilled b e its.mapping).tlb sound.rows c.self.invariant)
          (subst (λ (s : Shown). IsStuck s e) (sym c.self.view_is) c.requires.stuck) its.leads
          (subst (λ (s : Shown). ArePlain s e k) its.board c.run_found-steps.ensures.plain)
          (subst (λ (s : Shown). FindRows s e k) its.board c.run_found-steps.ensures.found)
          (subst (λ (s : Shown). IsQuiet schedule s.time (s.time + k)) (sym c.self.view_is) quiet)
          ∙ ap (λ (s : Shown). cache_after_ticks schedule (world_of s) k s.tlb) c.self.view_is;
    }

-- ---- none was made, and the row is put back

abbrev tried : (c : goal.After-way_told-2-1) → Shown
tried c = record (seen c.self.view_is) { tlb = record { rows = c.refill.new.tlb; random = c.self.inside.machine.cp0.random; fills = c.refill.new.fills } }

tried_for : (c : goal.After-way_told-2-1) → IsFor (seen c.self.view_is) c.args.env (c.args.address / page_size) (tried c)
tried_for c =
    is_for (seen c.self.view_is) c.args.env (c.args.address / page_size) c.random-random.result c.space_in-space.result c.refill.new.tlb c.refill.new.fills c.space_in-space.ensures
    c.refill.ensures.rows c.refill.ensures.fills c.random-random.ensures.row (sym c.refill.ensures.refilled ∙ c.if-not-refill.false)

abbrev restored : (c : goal.After-way_told-2-1) → Shown
restored c = record (seen c.self-2.view_is) {
  tlb = record {
    rows = c.write.new.self;
    random = c.self-2.inside.machine.cp0.random;
    fills = slice_set c.self-2.inside.fills c.from-2.result (slice_index_or c.self.inside.fills c.from.result no_fills);
  };
}

is_restored : (c : goal.After-way_told-2-1) → restored c ≡ seen c.self.view_is
is_restored c =
    let b = seen c.self.view_is in
    let e = c.args.env in
    let its = tried_for c in
    let r = c.random-random.result in
    let none : c.run_found-steps.result.made ≡ 0 = omega (arith, c.if-steps-gt0.false) in
    let at : seen c.self-2.view_is ≡ with_row b e its.mapping =
    c.self-2.view_is ∙ c.run_found-steps.ensures.after ∙ ap (stretched (tried c) e) none ∙ no_ticks (tried c) e ∙ its.board in
    let row : Row = record { hi = c.read-row.result.hi; lo = c.read-row.result.lo } in
    let old : Fills = slice_index_or c.self.inside.fills c.from.result no_fills in
    let rows : with_row_at (with_row b e its.mapping).tlb.rows r row ≡ b.tlb.rows =
    ap (with_row_at (with_row b e its.mapping).tlb.rows r) c.read-row.ensures.row
    ∙ ap (λ j. with_row_at (with_row_at b.tlb.rows j (row_for e its.mapping)) r (slice_index_or b.tlb.rows r emptied_row)) (sym c.random-random.ensures.row)
    ∙ put_back b.tlb.rows r (row_for e its.mapping) emptied_row in
    let fills : slice_set (with_row b e its.mapping).tlb.fills c.from-2.result old ≡ b.tlb.fills =
    ap (λ j. slice_set (with_row b e its.mapping).tlb.fills j old) c.from-2.ensures
    ∙ ap (λ j. slice_set (with_row b e its.mapping).tlb.fills e (slice_index_or b.tlb.fills j no_fills)) c.from.ensures
    ∙ put_back b.tlb.fills e _ no_fills in
    (λ i. record (seen c.self-2.view_is) { tlb = record (restored c).tlb { rows = c.write.ensures.row i } })
    ∙ ap (λ (s : Shown). record s { tlb = record s.tlb { rows = with_row_at s.tlb.rows r row; fills = slice_set s.tlb.fills c.from-2.result old } }) at
    ∙ (λ i. record b { tlb = record b.tlb { rows = rows i; fills = fills i } })

pub invariant_of-self-3 : goal.invariant_of-self-3
invariant_of-self-3 c = subst IsSoundBoard (sym (is_restored c)) c.self.invariant

pub returns-clause-ticks : goal.returns-clause-ticks
returns-clause-ticks c = record {
  after = search rules;
  plain = search rules;
  tlb = λ schedule quiet. ap (λ (s : Shown). s.tlb) (is_restored c ∙ c.self.view_is);
}

pub returns-clause-tells : goal.returns-clause-tells
returns-clause-tells c = record {
  most = omega arith;
  wanted = search rules;
  entry = search rules;
  told = λ less. subst (λ (s : Shown). Tells s c.args.env None) (sym (is_restored c ∙ c.self.view_is)) c.requires.untold;
  apart = search rules;
}

-- ---- the step ends the stretch

ends_unmapped : {b now : Shown} (same : b ≡ now) (e address : ℕ) → MissesRefill → IsSoundBoard b → running now.slots.runner ≡ Some e → IsStuck now e → IsOfMiss now e (Some address)
    → (address / page_size < vpn_end → lookup_of b e (address / page_size) ≡ None) → EndsStretch b e
ends_unmapped {b} {now} same e address misses sound runs stuck missed nowhere =
    ends_nowhere misses b e address sound (small same sound runs) (subst (λ (s : Shown). IsStuck s e) (sym same) stuck) (subst (λ (s : Shown). IsOfMiss s e (Some address)) (sym same) missed) nowhere

pub returns-then-vpn-ge-VPN_END-clause-ends : goal.returns-then-vpn-ge-VPN_END-clause-ends
returns-then-vpn-ge-VPN_END-clause-ends c = λ nothing.
    subst (λ (s : Shown). EndsStretch s c.args.env) c.self.view_is (ends_unmapped c.self.view_is c.args.env c.args.address c.law_misses.ensures c.self.invariant c.requires.may.runs c.requires.stuck c.requires.missed
    (λ below. absurd (omega (arith, below, c.if-vpn-ge-VPN_END.true))))

pub returns-then-not-refill-clause-ends : goal.returns-then-not-refill-clause-ends
returns-then-not-refill-clause-ends c = λ nothing.
    let b = seen c.self.view_is in
    let kept = not_refilled b c.args.env (c.args.address / page_size) c.random-random.result c.space_in-space.result c.refill.new.tlb c.refill.new.fills c.space_in-space.ensures
    c.refill.ensures.rows c.refill.ensures.fills (sym c.refill.ensures.refilled ∙ c.if-not-refill.true) in
    subst (λ (s : Shown). EndsStretch s c.args.env) (sym kept.1)
    (ends_unmapped c.self.view_is c.args.env c.args.address c.law_misses.ensures c.self.invariant c.requires.may.runs c.requires.stuck c.requires.missed (λ below. kept.0))

pub returns-clause-ends : goal.returns-clause-ends
returns-clause-ends c = λ nothing.
    let b = seen c.self.view_is in
    let e = c.args.env in
    let its = tried_for c in
    let none : c.run_found-steps.result.made ≡ 0 = omega (arith, c.if-steps-gt0.false) in
    let at : c.run_found-steps.new.self ≡ with_row b e its.mapping =
    c.run_found-steps.ensures.after ∙ ap (stretched (tried c) e) none ∙ no_ticks (tried c) e ∙ its.board in
    let vain : IsStuck (with_row b e its.mapping) e = subst (λ (s : Shown). IsStuck s e) at (c.run_found-steps.ensures.stop (omega (arith, none, c.requires.more))) in
    subst (λ (s : Shown). EndsStretch s e) (sym (is_restored c))
    (ends_in_vain b e c.args.address its.mapping (subst (λ (s : Shown). IsStuck s e) (sym c.self.view_is) c.requires.stuck)
    (subst (λ (s : Shown). IsOfMiss s e (Some c.args.address)) (sym c.self.view_is) c.requires.missed) its.there vain)

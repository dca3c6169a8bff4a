-- The target lives and has its context page; the slots, whom it accepts and which registers are kept change nobody's life or pages.
use Rattle.std.proofs.Common.{ℕ, ap, sym, subst, ◌≡◌, ◌≢◌, ◌∙◌}
use Rattle.env_frames.specs.Context.{handler_of}
use Rattle.env_frames.specs.Transfer.{entry_context, hands_slot}
use Rattle.mips_exec.specs.declared.registers.Cpu.{Cpu}
use Rattle.slot_vector.specs.Slices.{given_to}
use Rattle.world_model.specs.Item.{answered_cpu}
use Rattle.world_model.specs.declared.verdict.Verdict.TheVariants.{Grant}
use Rattle.board_model.specs.Doing.{with_mask, after_entry, after_hand_on, entry_roster, with_registers}
use Rattle.board_model.specs.Shown.{Shown, handlers_of, with_list}
use Rattle.board_model.specs.Sound.{IsLiving}
use Rattle.board_acts.specs.Parts.{with_turns}
use Rattle.board_model.proofs.Parted.{context_there}
use Rattle.board_model.proofs.Sound.{given_manned, keeps_accepting, keeps_registers}
use Rattle.board_model.proofs.Staying.{sound_env, sound_frames, sound_machine, sound_slots}
use Rattle.aegis_calls.proofs.Runner.{runner_live, seen}
use Rattle.aegis_calls.proofs.board.Board.transfer.Goals as goal

pub enter-requires : goal.enter-requires
enter-requires c =
    let live = subst (λ (s : Shown). IsLiving s.roster.list c.args.target) (sym c.self.view_is) c.requires.lives in
    record {
      caller = (runner_live c.self.view_is c.self.invariant c.requires.runs).0;
      there = live.0;
      «open» = subst (λ (s : Shown). handler_of (handlers_of s.roster.list c.args.target) (entry_context c.args.kind) ≢ 0) (sym c.self.view_is) c.requires.«open»;
      page = context_there _ _ _ c.self.invariant.memory c.args.target;
    }

pub invariant_of-self : goal.invariant_of-self
invariant_of-self c =
    let e = c.args.env in
    let t = c.args.target in
    let b = seen c.self.view_is in
    let handed : Shown = record b { slots = c.hand_on.new.slots; ledger = c.hand_on.new.journal } in
    let live = subst (λ (s : Shown). IsLiving s.roster.list t) (sym c.self.view_is) c.requires.lives in
    let cpu : Cpu = answered_cpu (Grant c.args.value) b.cpu in
    let slots : c.hand_on.new.slots ≡ given_to t (hands_slot c.args.kind) b.slots = ap (λ (s : Shown). s.slots) (c.hand_on.ensures b) in
    let kept : c.enter.new.roster ≡ with_list b.roster (entry_roster b e c.args.value t) = ap (λ (s : Shown). s.roster) (c.enter.ensures.after handed) in
    rw (kept, slots)
    (sound_machine
    (sound_frames _ c.enter.ensures.size
    (sound_env (with_registers cpu) (keeps_registers cpu) e
    (sound_env (with_mask 0) (keeps_accepting 0) t
    (sound_slots _ (given_manned b.slots b.roster t (hands_slot c.args.kind) c.self.invariant.book live) c.self.invariant)))))

pub returns : goal.returns
returns c =
    let e = c.args.env in
    let t = c.args.target in
    let b = seen c.self.view_is in
    let handed : Shown = record b { slots = c.hand_on.new.slots; ledger = c.hand_on.new.journal } in
    let hands : handed ≡ after_hand_on b e t c.args.kind =
    subst (λ (time : ℕ). with_turns b c.hand_on.new.slots time c.hand_on.new.journal ≡ after_hand_on (with_turns b b.slots time b.ledger) e t c.args.kind) c.ticks.ensures.ticks (c.hand_on.ensures b) in
    c.enter.ensures.after handed
    ∙ ap (λ (s : Shown). after_entry s e c.args.value t c.args.kind) (hands ∙ ap (λ (s : Shown). after_hand_on s e t c.args.kind) c.self.view_is)

-- The bytes are those that the runner sees, there is room for them, and its record changes alone.
use Rattle.std.proofs.Common.{◌≤◌, ◌<◌, ◌+◌, ℕ, List, Option, is_some, length, ap, sym, subst, ◌∙◌}
use Rattle.aegis_limits.specs.Limits.{console_size}
use Rattle.external_event.specs.Limits.{most_sent}
use Rattle.world_model.specs.Call.{good_range}
use Rattle.world_model.specs.OwnCalls.{MayOwn, MayPut, MaySend, put_bytes}
use Rattle.world_model.specs.Page.{Mapped}
use Rattle.board_model.specs.Doing.{look_of}
use Rattle.board_model.specs.Shown.{Shown, console_of, sent_of}
use Rattle.board_model.specs.Showing.{solo_of}
use Rattle.board_model.proofs.Reading.{console_same, runner_look, sent_same}
use Rattle.board_model.proofs.Sound.{keeps_accepting, keeps_handling, keeps_putting, keeps_sending}
use Rattle.board_model.proofs.Staying.{sound_env}
use Rattle.aegis_calls.proofs.Runner.{runner_live}
use Rattle.aegis_calls.proofs.board.Board.do_own.Goals as goal

pub put-requires : goal.put-requires
put-requires c =
    let now = c.args.self.now in
    let e = c.args.env in
    let address = c.in-Puts.address in
    let size = c.in-Puts.size in
    let may : MayPut (solo_of now e) address size = subst (MayOwn (solo_of now e)) c.in-Puts.is c.requires.may in
    let looks =
    ap (λ (s : Shown). is_some (put_bytes (look_of s e) address size)) c.self.view_is
    ∙ ap (λ (l : ℕ → Option Mapped). is_some (put_bytes l address size)) (runner_look now e c.law_sound.ensures c.requires.runs) in
    record {
      there = (runner_live c.self.view_is c.self.invariant c.requires.runs).0;
      good = looks ∙ may.good;
      room = subst (λ (held : List ℕ). length held + size ≤ console_size) (sym (ap (λ (s : Shown). console_of s.roster.list e) c.self.view_is ∙ console_same now e)) may.room;
    }

pub send-requires : goal.send-requires
send-requires c =
    let now = c.args.self.now in
    let e = c.args.env in
    let address = c.in-Sends.address in
    let size = c.in-Sends.size in
    let may : MaySend (solo_of now e) address size = subst (MayOwn (solo_of now e)) c.in-Sends.is c.requires.may in
    let looks =
    ap (λ (s : Shown). is_some (good_range (look_of s e) address size)) c.self.view_is
    ∙ ap (λ (l : ℕ → Option Mapped). is_some (good_range l address size)) (runner_look now e c.law_sound.ensures c.requires.runs) in
    record {
      there = (runner_live c.self.view_is c.self.invariant c.requires.runs).0;
      most = may.most;
      good = looks ∙ may.good;
      room = subst (λ (packets : List (List ℕ)). length packets < most_sent) (sym (ap (λ (s : Shown). sent_of s.roster.list e) c.self.view_is ∙ sent_same now e)) may.room;
    }

pub invariant_of-self : goal.invariant_of-self
invariant_of-self c = rw c.put.ensures (sound_env _ (keeps_putting _) c.args.env c.self.invariant)

pub invariant_of-self-in-Sends : goal.invariant_of-self-in-Sends
invariant_of-self-in-Sends c = rw c.send.ensures (sound_env _ (keeps_sending _) c.args.env c.self.invariant)

pub invariant_of-self-in-Handles : goal.invariant_of-self-in-Handles
invariant_of-self-in-Handles c = rw c.handle.ensures (sound_env _ (keeps_handling c.in-Handles.context c.in-Handles.address) c.args.env c.self.invariant)

pub invariant_of-self-in-Accepts : goal.invariant_of-self-in-Accepts
invariant_of-self-in-Accepts c = rw c.accept.ensures (sound_env _ (keeps_accepting _) c.args.env c.self.invariant)

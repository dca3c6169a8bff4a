-- What happens from outside.
use Rattle.std.proofs.Common.{arith, refl, ◌≡◌, ◌≤◌, ◌+◌, ℕ, List, length, true, ◌&&◌, Option, None, Some}
use Rattle.std.specs.Prelude.{nat_le}
use Rattle.std.proofs.lemmas.Bool.{and_from}
use Rattle.external_event.specs.declared.event.Occurrence.{Occurrence}
use Rattle.external_event.specs.declared.event.Occurrence.TheVariants as outside
use Rattle.external_event.specs.EventValue.{is_occurrence}
use Rattle.external_event.specs.Limits.{most_packet_size}
use Rattle.filter_tree.specs.ClaimBook.{ClaimValue}
use Rattle.world_model.specs.ClaimCalls.{claim_of}
use Rattle.world_model.specs.Event.{arrives, happen, signals}
use Rattle.world_model.specs.World.{World}
use Rattle.ledger_audit.specs.StrictRules.{RequestState}
use Rattle.strict_law.proofs.Requests.{Goes, IsKept, stays_dead}
use Rattle.strict_law.proofs.Replies.{revokes_there, same_goes}

packet_goes : (time : ℕ) (w : World) (s : RequestState) → IsKept time w s → (packet : List ℕ) → is_occurrence (outside.Packet packet) ≡ true → (claim : Option ClaimValue)
    → Goes time w (arrives packet claim w) s
packet_goes time w s is packet sized None = record {
  kept = and_from (nat_le 1 (length packet) && nat_le (length packet) most_packet_size) true sized refl;
  now = record { covers = is.covers; dead = λ e gone. stays_dead w (arrives packet None w) e (is.dead e gone) };
}
packet_goes time w s is packet sized (Some c) = same_goes time w (arrives packet (Some c) w) s refl refl is

signal_goes : (time : ℕ) (w : World) (s : RequestState) → IsKept time w s → (line : ℕ) (owner : Option ℕ) → Goes time w (signals line owner w) s
signal_goes time w s is line None = same_goes time w (signals line None w) s refl refl is
signal_goes time w s is line (Some owner) = same_goes time w (signals line (Some owner) w) s refl refl is

pub event_goes : (w : World) (s : RequestState) (time : ℕ) → time ≤ w.book.time → IsKept time w s → (what : Occurrence) → is_occurrence what ≡ true → Goes time w (happen what w) s
event_goes w s time now is (outside.Packet packet) within = packet_goes time w s is packet within (claim_of w.book packet)
event_goes w s time now is (outside.Line line) within = signal_goes time w s is line (w.book.lines line)
event_goes w s time now is (outside.Revoke env count grace) within =
    revokes_there time w w s refl is is env count (w.book.time + grace) (omega arith) (omega (arith, now))

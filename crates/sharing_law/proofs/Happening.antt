-- What happens from outside, kind by kind: what it leaves of what is listed and seen.
use Rattle.std.proofs.Common.{ℕ, ◌+◌, List, Option, Some, None, refl}
use Rattle.std.specs.Prelude.{◌==◌}
use Rattle.external_event.specs.declared.event.Occurrence.{Occurrence}
use Rattle.external_event.specs.declared.event.Occurrence.TheVariants as outside
use Rattle.filter_tree.specs.ClaimBook.{ClaimValue}
use Rattle.world_model.specs.ClaimCalls.{claim_of}
use Rattle.revocation_book.specs.declared.revocation.Pending.{Pending}
use Rattle.world_model.specs.Event.{arrives, asks, drops_packet, happen, signals}
use Rattle.world_model.specs.Item.{Asked, Line}
use Rattle.world_model.specs.World.{World, Reply, after}
use Rattle.sharing_law.proofs.Asking.{revocation_or}
use Rattle.sharing_law.proofs.Given.{given_rests, rests_same}
use Rattle.sharing_law.proofs.Turning.{IsAlike, ListsSame, same_lists, unchanged}

-- a packet that is dropped
pub dropped_alike : (packet : List ℕ) (w : World) → IsAlike w (after w (drops_packet packet w))
dropped_alike packet w = record { solos = λ i. rests_same (w.solos i); lists = record { version = refl; pages = refl; binds = refl; claims = refl; next = refl; backups = refl; kept = refl; lines = refl; count = refl } }

-- a signal: who gets it rests, and all others stay as they are
signalled_by : (line : ℕ) (owner : Option ℕ) (w : World) → IsAlike w (after w (signals line owner w))
signalled_by line None w = unchanged w
signalled_by line (Some owner) w = record { solos = λ i. given_rests (w.solos i) (Line line) (record { binds = refl; seen = refl; rings = refl; life = refl }) (i == owner); lists = record { version = refl; pages = refl; binds = refl; claims = refl; next = refl; backups = refl; kept = refl; lines = refl; count = refl } }

pub signalled_alike : (line : ℕ) (w : World) → IsAlike w (after w (happen (outside.Line line) w))
signalled_alike line w = signalled_by line (w.book.lines line) w

-- a revocation: who is asked for pages rests
asked_by : (e : ℕ) (p : Pending) (w : World) → IsAlike w (after w (asks e (Some p) w))
asked_by e p w = record { solos = λ i. given_rests (w.solos i) (Asked p.outstanding p.deadline) (record { binds = refl; seen = refl; rings = refl; life = refl }) (i == e); lists = record { version = refl; pages = refl; binds = refl; claims = refl; next = refl; backups = refl; kept = refl; lines = refl; count = refl } }

pub revoked_alike : (e count grace : ℕ) (w : World) → IsAlike w (after w (happen (outside.Revoke e count grace) w))
revoked_alike e count grace w =
    revocation_or (λ (r : Reply). IsAlike w (after w r)) w e count (w.book.time + grace) (unchanged w) (λ p. asked_by e p w)

-- what is listed stays, whatever happens
arrival_lists : (packet : List ℕ) (claim : Option ClaimValue) (w : World) → ListsSame w.book (after w (arrives packet claim w)).book
arrival_lists packet None w = same_lists w.book
arrival_lists packet (Some c) w = same_lists w.book

pub happen_lists : (what : Occurrence) (w : World) → ListsSame w.book (after w (happen what w)).book
happen_lists (outside.Packet packet) w = arrival_lists packet (claim_of w.book packet) w
happen_lists (outside.Line line) w = (signalled_alike line w).lists
happen_lists (outside.Revoke env count grace) w = (revoked_alike env count grace w).lists

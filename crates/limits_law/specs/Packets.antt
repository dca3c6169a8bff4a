-- What environments send, by calls and by their handlers.
use Rattle.std.specs.Prelude.{◌≡◌, ◌&&◌, ℕ, suc, Bool, List, true, drop, length, nat_le}
use Rattle.std.specs.List.{list_all}
use Rattle.external_event.specs.Limits.{most_packet_size}
use Rattle.handler_rules.specs.Laws.{is_frame}
use Rattle.kernel_journal.specs.declared.row.Row.{Row}
use Rattle.kernel_journal.specs.declared.row.Row.TheVariants as row
use Rattle.world_model.specs.World.{World}
use Rattle.run_model.specs.Run.{System, moment, world_after}
use Rattle.sharing_law.specs.Whole.{AreEventsWithinLimits}
use Rattle.wire_model.specs.Wire.{joined, sent_between}

-- Each packet that an environment has sent has 14 to 1,514 bytes.
abbrev pub SentAreFrames : Type 0
SentAreFrames = (system : System) (t k e : ℕ) → AreEventsWithinLimits system.schedule
    → list_all is_frame ((moment system t k).solos e).sent ≡ true

-- all packets by which the lists of sent ones are longer in a later world, by number of environment
abbrev pub all_sent_between : World → World → List (List ℕ)
all_sent_between old new = joined (λ e. drop (length (old.solos e).sent) (new.solos e).sent) new.count

-- So what a machine puts on a wire in a tick is all that its environments sent in it.
abbrev pub AllIsPutOnWire : Type 0
AllIsPutOnWire = (system : System) (t : ℕ) → AreEventsWithinLimits system.schedule
    → (let old = world_after system t in let new = world_after system (suc t) in
    sent_between old new ≡ all_sent_between old new)

-- a row of a packet that nobody claims has a packet's length, 1 to 1,514 bytes
abbrev pub is_drop_within : Row → Bool
is_drop_within (row.Unclaimed time size) = nat_le 1 size && nat_le size most_packet_size
is_drop_within _ = true

-- So it is of each such row of a ledger.
abbrev pub DropsAreWithin : Type 0
DropsAreWithin = (system : System) (t k : ℕ) → AreEventsWithinLimits system.schedule
    → list_all is_drop_within (moment system t k).rows ≡ true

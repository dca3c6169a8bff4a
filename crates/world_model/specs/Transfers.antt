-- Transfers of control: an environment calls another at an entry of its own, and hands it the rest of its slice, or
-- its slot too.
use Rattle.std.specs.Prelude.{ℕ, List, [], ◌∷◌, Bool, not, ◌==◌, ◌&&◌, if◌then◌else◌, Option, Some, None}
use Rattle.std.specs.Option.{option_map}
use Rattle.kernel_journal.specs.declared.row.Row.{Row}
use Rattle.kernel_journal.specs.declared.row.Row.TheVariants as row
use Rattle.mips_exec.specs.Cpu.{reg}
use Rattle.env_frames.specs.declared.transfer.TransferKind.{TransferKind}
use Rattle.env_frames.specs.declared.transfer.TransferKind.TheVariants as kind
use Rattle.env_frames.specs.Context.{handler_of}
use Rattle.env_frames.specs.Transfer.{carried, entry_context, hands_slot, transfer_numbered}
use Rattle.world_model.specs.declared.code.Code.{Code}
use Rattle.world_model.specs.declared.code.Code.TheVariants as code
use Rattle.world_model.specs.declared.hold.Hold.{Hold}
use Rattle.world_model.specs.Table.{set_at}
use Rattle.world_model.specs.Book.{Book}
use Rattle.world_model.specs.Solo.{Solo}
use Rattle.world_model.specs.Item.{Transfer}
use Rattle.world_model.specs.SlotCalls.{accepts, gift_refusal, handed, held_by, is_other, refusal_of_giving, slot_row, turn_slot}
use Rattle.world_model.specs.World.{World, Reply, only}
use Rattle.world_model.specs.declared.verdict.Verdict.{Verdict}
use Rattle.world_model.specs.declared.verdict.Verdict.TheVariants.{Refuse}
use Rattle.world_model.specs.Answer.{granted_unless}

-- whether an environment has an entry for transfers of a kind
abbrev pub is_open : Solo → TransferKind → Bool
is_open s kind = not (handler_of s.handlers (entry_context kind) == 0)

-- the slots once the cursor's is handed on, if it is: its holder is the target, and its owner stays
abbrev pub slots_handed : Bool → ℕ → Book → ℕ → Option Hold
slots_handed later target b =
    if later then set_at b.cursor (option_map (held_by target) (turn_slot b)) b.slots else b.slots

-- a transfer has a row, and a slot that is handed on has one behind it
abbrev pub transfer_rows : Book → ℕ → ℕ → TransferKind → List Row
transfer_rows b e target kind.Asynchronous = row.Async b.time b.cursor e target ∷ []
transfer_rows b e target kind.Synchronous =
    row.Sync b.time b.cursor e target ∷ slot_row b.time b.cursor (option_map (held_by target) (turn_slot b)) ∷ []

-- the target runs for the rest of the slice, with the caller's registers as they stand at the call, which is answered
-- then
abbrev pub transfers : World → ℕ → ℕ → TransferKind → Reply
transfers w e target kind = record {
  book = record w.book { slots = slots_handed (hands_slot kind) target w.book; runner = handed target w.book.runner };
  items = only target (Transfer e kind (carried (w.solos e).cpu) ∷ []);
  rows = transfer_rows w.book e target kind;
}

-- why a runner can't call a target: for what it can't hand on to it, or because it isn't accepted at an entry of this
-- kind
abbrev pub refusal_of_transfer : World → ℕ → ℕ → TransferKind → Option Code
refusal_of_transfer w e target kind =
    let s = w.solos target in
    refusal_of_giving (is_other w e target) (gift_refusal (hands_slot kind) w.book.runner (turn_slot w.book))
    (accepts s.mask e && is_open s kind)

-- a number that names no kind is refused first
abbrev pub transfer_by : World → ℕ → ℕ → Option TransferKind → Verdict
transfer_by w e target None = Refuse code.BadCall 0
transfer_by w e target (Some kind) = granted_unless (refusal_of_transfer w e target kind) 0

abbrev pub transfer : World → ℕ → Verdict
transfer w e = let cpu = (w.solos e).cpu in transfer_by w e (reg cpu 4) (transfer_numbered (reg cpu 5))

-- Kernel calls: their numbers, their arguments, what they name in the caller's memory, and what they do where they
-- are granted.
use Rattle.std.specs.Prelude.{ℕ, ◌+◌, ◌*◌, ◌/◌, ◌%◌, ◌^◌, Bool, true, false, List, take, drop, not, ◌==◌, ◌&&◌, nat_le, nat_lt, if◌then◌else◌, Option, Some, None}
use Rattle.std.specs.Option.{option_map}
use Rattle.aegis_limits.specs.Limits.{page_size}
use Rattle.mips_exec.specs.declared.registers.Cpu.{Cpu}
use Rattle.mips_exec.specs.Cpu.{reg}
use Rattle.env_frames.specs.declared.context.Context.{Context}
use Rattle.env_frames.specs.Context.{context_numbered}
use Rattle.env_frames.specs.declared.transfer.TransferKind.{TransferKind}
use Rattle.env_frames.specs.Transfer.{transfer_numbered}
use Rattle.page_book.specs.declared.row.Capabilities.{Capabilities}
use Rattle.bind_book.specs.declared.binding.Binding.{Binding}
use Rattle.world_model.specs.declared.call.Call.{Call}
use Rattle.world_model.specs.declared.call.Call.TheVariants as call
use Rattle.world_model.specs.declared.call.Deed.{Deed}
use Rattle.world_model.specs.declared.call.Deed.TheVariants.{Answers, Own, Stops, Gives, Allocates, Frees, Recaps, Binds, Unbinds, Transfers, TakesSlot, DropsSlot, TakesLine, DropsLine, Claims, Unclaims, Downloads, Loads}
use Rattle.world_model.specs.declared.call.OwnDeed.TheVariants.{Puts, Sends, Handles, Accepts}
use Rattle.mips_exec.specs.AccessKind.{user_end}
use Rattle.world_model.specs.Page.{Mapped}

abbrev pub call_named : ℕ → Option Call
call_named number =
    if number == 0 then Some call.Yield else
    if number == 1 then Some call.Put else
    if number == 3 then Some call.Alloc else
    if number == 4 then Some call.Free else
    if number == 5 then Some call.Recap else
    if number == 6 then Some call.Bind else
    if number == 7 then Some call.Unbind else
    if number == 8 then Some call.Context else
    if number == 9 then Some call.Accept else
    if number == 10 then Some call.Transfer else
    if number == 11 then Some call.SlotTake else
    if number == 12 then Some call.SlotDrop else
    if number == 13 then Some call.Query else
    if number == 14 then Some call.Claim else
    if number == 15 then Some call.Unclaim else
    if number == 16 then Some call.Handler else
    if number == 17 then Some call.Line else
    if number == 18 then Some call.Backup else
    if number == 19 then Some call.Send else
    if number == 20 then Some call.OwnNumber else
    if number == 21 then Some call.Clock else None

-- the number of exit, which isn't answered
abbrev pub exit_number : ℕ
exit_number = 2

-- register 2 has the number of a call, and registers 4 to 8 its arguments
abbrev pub called : Cpu → Option Call
called cpu = call_named (reg cpu 2)

-- the argument of a yield that names no environment, and of an allocation that names no page
abbrev pub any : ℕ
any = 0xFFFFFFFF

-- a capability word of 64 bits, in two registers
abbrev pub word_in : ℕ → ℕ → ℕ
word_in low high = low + high * 2 ^ 32

-- the words that an allocation or a recap gives a page
abbrev pub words_of : Cpu → Capabilities
words_of cpu = record { read = word_in (reg cpu 5) (reg cpu 6); write = word_in (reg cpu 7) (reg cpu 8) }

-- the binding that a bind names, and the word that it presents
abbrev pub binding_of : Cpu → Binding
binding_of cpu = record { vpn = reg cpu 4; page = reg cpu 5; writable = not (reg cpu 6 == 0) }

abbrev pub presented : Cpu → ℕ
presented cpu = word_in (reg cpu 7) (reg cpu 8)

-- the bytes of a range, where it is good: it lies in one page, below the users' end, and its VPN leads somewhere
abbrev pub good_range : (ℕ → Option Mapped) → ℕ → ℕ → Option (List ℕ)
good_range look address size =
    if nat_lt address user_end && nat_le (address % page_size + size) page_size
    then option_map (λ m. take size (drop (address % page_size) m.bytes)) (look (address / page_size))
    else None

-- What a call does that is granted with a value, by its caller's registers.
abbrev pub yield_deed : ℕ → Bool → Deed
yield_deed target true = Stops
yield_deed target false = Gives target

abbrev pub context_deed : Option Context → ℕ → Deed
context_deed None address = Answers
context_deed (Some kind) address = Own (Handles kind address)

abbrev pub transfer_deed : ℕ → Option TransferKind → Deed
transfer_deed target None = Answers
transfer_deed target (Some kind) = Transfers target kind

-- 1 takes a line, and 0 drops it
abbrev pub line_deed : ℕ → Bool → Deed
line_deed line true = TakesLine line
line_deed line false = DropsLine line

abbrev pub deed_of : Option Call → ℕ → Cpu → Deed
deed_of None value cpu = Answers
deed_of (Some call.Yield) value cpu = yield_deed (reg cpu 4) (reg cpu 4 == any)
deed_of (Some call.Put) value cpu = Own (Puts (reg cpu 4) (reg cpu 5))
deed_of (Some call.Alloc) value cpu = Allocates value (words_of cpu)
deed_of (Some call.Free) value cpu = Frees (reg cpu 4)
deed_of (Some call.Recap) value cpu = Recaps (reg cpu 4) (words_of cpu)
deed_of (Some call.Bind) value cpu = Binds (binding_of cpu) (presented cpu)
deed_of (Some call.Unbind) value cpu = Unbinds (reg cpu 4)
deed_of (Some call.Context) value cpu = context_deed (context_numbered (reg cpu 4)) (reg cpu 5)
deed_of (Some call.Accept) value cpu = Own (Accepts (reg cpu 4))
deed_of (Some call.Transfer) value cpu = transfer_deed (reg cpu 4) (transfer_numbered (reg cpu 5))
deed_of (Some call.SlotTake) value cpu = TakesSlot (reg cpu 4)
deed_of (Some call.SlotDrop) value cpu = DropsSlot (reg cpu 4)
deed_of (Some call.Query) value cpu = Answers
deed_of (Some call.Claim) value cpu = Claims value (reg cpu 4) (reg cpu 5) (reg cpu 6)
deed_of (Some call.Unclaim) value cpu = Unclaims (reg cpu 4)
deed_of (Some call.Handler) value cpu = Downloads (reg cpu 4) (reg cpu 5) (reg cpu 6)
deed_of (Some call.Line) value cpu = line_deed (reg cpu 4) (reg cpu 5 == 1)
deed_of (Some call.Backup) value cpu = Loads (reg cpu 4)
deed_of (Some call.Send) value cpu = Own (Sends (reg cpu 4) (reg cpu 5))
deed_of (Some call.OwnNumber) value cpu = Answers
deed_of (Some call.Clock) value cpu = Answers

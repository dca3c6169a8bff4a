-- What an environment is given from outside, and what it makes of it.
use Rattle.std.specs.Prelude.{ℕ, ◌+◌, List, [], if◌then◌else◌, fold, Bool, Option}
use Rattle.aegis_limits.specs.declared.version.Version.{Version}
use Rattle.mips_exec.specs.declared.registers.Cpu.{Cpu}
use Rattle.mips_exec.specs.Cpu.{blank_cpu, with_reg}
use Rattle.mips_exec.specs.Word.{low_word}
use Rattle.env_frames.specs.declared.transfer.TransferKind.{TransferKind}
use Rattle.env_frames.specs.Transfer.{Registers}
use Rattle.world_model.specs.declared.life.Life.TheVariants.{Live}
use Rattle.world_model.specs.declared.life.Cause.TheVariants as cause
use Rattle.world_model.specs.declared.verdict.Verdict.{Verdict}
use Rattle.world_model.specs.declared.verdict.Verdict.TheVariants.{Refuse, Again, Grant}
use Rattle.world_model.specs.Answer.{verdict_code, verdict_value}
use Rattle.world_model.specs.Page.{KeptPage}
use Rattle.world_model.specs.Solo.{Solo, Physical, bare_solo, dead, is_dead, with_store}
use Rattle.world_model.specs.Holding.{bound, after_unbind, owning, gained, lost}
use Rattle.world_model.specs.Upcalls.{start, end_slice, enter}
use Rattle.world_model.specs.Post.{asked_for, signalled}
use Rattle.world_model.specs.Repossession.{with_page_taken}
use Rattle.world_model.specs.Rings.{after_packet, with_ring, without_ring}
use Rattle.world_model.specs.declared.call.Deed.{Deed}
use Rattle.world_model.specs.declared.call.Deed.TheVariants.{Answers, Own, Stops, Gives, Allocates, Frees, Recaps, Binds, Unbinds, Transfers, TakesSlot, DropsSlot, TakesLine, DropsLine, Claims, Unclaims, Downloads, Loads}
use Rattle.world_model.specs.Call.{called, deed_of}
use Rattle.world_model.specs.OwnCalls.{own_state_after, with_own_state}
use Rattle.world_model.specs.Downloads.{after_download}
use Rattle.world_model.specs.Step.{step_alone, stepped}

pub data Item : Type 0 where
  -- its record in the image: the image's version, number, name, entry, the mask of those from whom it accepts yields
  -- and transfers, and guaranteed pages
  Boot : (version : Version) (number : ℕ) (name : List ℕ) (entry : ℕ) (accept : ℕ) (kept : List KeptPage) → Item
  -- a step of its machine
  Step : Item
  -- the start of a slice
  Start : Item
  -- the end of a slice, to whom handles it
  End : Item
  -- another's transfer to it: whose, of which kind, and the caller's registers
  Transfer : (from : ℕ) (kind : TransferKind) (registers : Registers) → Item
  -- death, for too much excess
  Killed : Item
  -- the kernel's answer to its call
  Answer : (verdict : Verdict) → Item
  -- a page that it allocated or bound, whether it may store to it, and its bytes
  Gained : (page : ℕ) (writable : Bool) (bytes : List ℕ) → Item
  -- a page that isn't its any more, or that was taken back from it
  Lost : (page : ℕ) → Item
  -- bytes that another stored at an offset of a page that it owns or has bound
  Left : (page : ℕ) (offset : ℕ) (bytes : List ℕ) → Item
  -- a packet for a claim of its own: the claim's number, and the packet's bytes
  Packet : (claim : ℕ) (packet : List ℕ) → Item
  -- a signal on an interrupt line of its own
  Line : (line : ℕ) → Item
  -- that it is asked for pages: how many are outstanding, and until when
  Asked : (outstanding deadline : ℕ) → Item
  -- a page that is taken from it, and the backup that gets a copy of it, if there is one
  Taken : (page : ℕ) (backup : Option ℕ) → Item

-- at boot all registers are 0 but the stack pointer, and the machine stands at the entry
abbrev pub boot_cpu : ℕ → Cpu
boot_cpu entry = record (with_reg blank_cpu 29 0x7FFEFFF0) { pc = entry; next = low_word (entry + 4) }

abbrev pub booted : Version → ℕ → List ℕ → ℕ → ℕ → List KeptPage → Solo
booted version number name entry accept kept = record (bare_solo version number name Live [] []) {
  cpu = boot_cpu entry;
  mask = accept;
  kept = kept;
}

-- what a deed does to the caller's own state
abbrev pub own_part : Deed → Solo → Solo
own_part Answers s = s
own_part (Own own) s = with_own_state (own_state_after own s) s
own_part Stops s = s
own_part (Gives target) s = s
own_part (Allocates page words) s = owning page s
own_part (Frees page) s = s
own_part (Recaps page words) s = s
own_part (Binds binding word) s = bound binding s
own_part (Unbinds vpn) s = after_unbind vpn s
own_part (Transfers target kind) s = s
own_part (TakesSlot slot) s = s
own_part (DropsSlot slot) s = s
own_part (TakesLine line) s = s
own_part (DropsLine line) s = s
own_part (Claims claim address atoms page) s = with_ring claim page s
own_part (Unclaims claim) s = without_ring claim s
own_part (Downloads claim address words) s = after_download claim address words s
own_part (Loads page) s = s

-- register 2 has the answer's code and register 3 its value, and the machine goes on behind the call
abbrev pub answered_cpu : Verdict → Cpu → Cpu
answered_cpu verdict cpu = record (with_reg (with_reg cpu 2 (verdict_code verdict)) 3 (verdict_value verdict)) {
  pc = low_word (cpu.pc + 4);
  next = low_word (cpu.next + 4);
}

-- what the call does at which an environment stands, if it is granted with a value
abbrev pub deed_at : Solo → ℕ → Deed
deed_at s value = deed_of (called s.cpu) value s.cpu

-- A call that isn't granted changes its caller's registers 2 and 3 and where it stands, and nothing else.
abbrev pub with_answer : Verdict → Solo → Solo
with_answer (Refuse code value) s = record s { cpu = answered_cpu (Refuse code value) s.cpu }
with_answer (Again who) s = record s { cpu = answered_cpu (Again who) s.cpu }
with_answer (Grant value) s = record (own_part (deed_at s value) s) { cpu = answered_cpu (Grant value) s.cpu }

abbrev pub absorbed : Solo → Item → Solo
absorbed s (Boot version number name entry accept kept) = booted version number name entry accept kept
absorbed s Step = stepped s (step_alone s)
absorbed s Start = start s
absorbed s End = end_slice s
absorbed s (Transfer from kind registers) = enter from kind registers s
absorbed s Killed = dead cause.Excess s
absorbed s (Answer verdict) = with_answer verdict s
absorbed s (Gained page writable bytes) = gained page bytes s
absorbed s (Lost page) = lost page s
absorbed s (Left page offset bytes) = with_store (record { key = Physical page; offset = offset; bytes = bytes }) s
absorbed s (Packet claim packet) = after_packet claim packet s
absorbed s (Line line) = signalled line s
absorbed s (Asked outstanding deadline) = asked_for outstanding deadline s
absorbed s (Taken page backup) = with_page_taken page backup s

-- a dead environment absorbs nothing more
abbrev pub absorb : Solo → Item → Solo
absorb s item = if is_dead s.life then s else absorbed s item

abbrev pub absorb_all : Solo → List Item → Solo
absorb_all s items = fold absorb s items

-- The calls that read and change their caller alone: put, send, context and accept.
use Rattle.std.specs.Prelude.{◌≡◌, ◌≤◌, ℕ, ◌+◌, ◌%◌, ◌==◌, ◌&&◌, true, List, [], ◌∷◌, ◌++◌, length, nat_le, nat_lt, not, ◌<◌, Bool, if◌then◌else◌, Option, Some, None, is_none, is_some, unwrap_or}
use Rattle.aegis_limits.specs.Limits.{console_size}
use Rattle.external_event.specs.Limits.{least_frame_size, most_packet_size, most_sent}
use Rattle.mips_exec.specs.declared.registers.Cpu.{Cpu}
use Rattle.mips_exec.specs.Cpu.{reg}
use Rattle.env_frames.specs.declared.context.Handlers.{Handlers}
use Rattle.env_frames.specs.Context.{context_numbered, with_handler}
use Rattle.world_model.specs.declared.call.OwnDeed.{OwnDeed}
use Rattle.world_model.specs.declared.call.OwnDeed.TheVariants.{Puts, Sends, Handles, Accepts}
use Rattle.world_model.specs.declared.code.Code.{Code}
use Rattle.world_model.specs.declared.code.Code.TheVariants as code
use Rattle.world_model.specs.declared.verdict.Verdict.{Verdict}
use Rattle.world_model.specs.declared.verdict.Verdict.TheVariants.{Grant}
use Rattle.world_model.specs.Answer.{granted_unless}
use Rattle.world_model.specs.Call.{good_range}
use Rattle.mips_exec.specs.AccessKind.{user_end}
use Rattle.world_model.specs.Page.{Mapped}
use Rattle.world_model.specs.Solo.{Solo, sight}

-- Put: the bytes that are named; none need no range.
abbrev pub put_bytes : (ℕ → Option Mapped) → ℕ → ℕ → Option (List ℕ)
put_bytes look address size = if size == 0 then Some [] else good_range look address size

-- why a put is refused, in the order of testing, by a caller whose console has so many bytes
abbrev pub put_refusal : Cpu → (ℕ → Option Mapped) → ℕ → Option Code
put_refusal cpu look held =
    if is_none (put_bytes look (reg cpu 4) (reg cpu 5)) then Some code.BadPointer
    else (if nat_lt console_size (held + reg cpu 5) then Some code.ConsoleFull else None)

-- the value is how many bytes they are
abbrev pub put : Solo → Verdict
put s = granted_unless (put_refusal s.cpu (sight s) (length s.console)) (reg s.cpu 5)

-- Send: a packet of 14 to 1,514 bytes.
abbrev pub is_frame_size : ℕ → Bool
is_frame_size size = nat_le least_frame_size size && nat_le size most_packet_size

-- why a send is refused, in the order of testing, to a caller that has sent so many packets
abbrev pub send_refusal : Cpu → (ℕ → Option Mapped) → ℕ → Option Code
send_refusal cpu look count =
    if not (is_frame_size (reg cpu 5)) then Some code.BadCall else
    if is_none (good_range look (reg cpu 4) (reg cpu 5)) then Some code.BadPointer else
    if nat_le most_sent count then Some code.Full else None

abbrev pub send : Solo → Verdict
send s = granted_unless (send_refusal s.cpu (sight s) (length s.sent)) 0

-- Context: a handler's address is a word's, of user space; 0 is no handler.
abbrev pub refusal_of_context : Cpu → Option Code
refusal_of_context cpu =
    if is_some (context_numbered (reg cpu 4)) && (reg cpu 5 % 4 == 0 && nat_lt (reg cpu 5) user_end) then None
    else Some code.BadCall

abbrev pub context : Solo → Verdict
context s = granted_unless (refusal_of_context s.cpu) 0

-- Accept: whom a caller accepts is its own to say.
abbrev pub accept : Solo → Verdict
accept s = Grant 0

-- the range of the bytes is good, and the console has room for them
pub record MayPut (s : Solo) (address size : ℕ) : Type 0 where
  pub good : is_some (put_bytes (sight s) address size) ≡ true
  pub room : length s.console + size ≤ console_size

-- the length is a packet's that may be sent, its range is good, and there is room for one more
pub record MaySend (s : Solo) (address size : ℕ) : Type 0 where
  pub least : least_frame_size ≤ size
  pub most : size ≤ most_packet_size
  pub good : is_some (good_range (sight s) address size) ≡ true
  pub room : length s.sent < most_sent

-- what each deed presupposes of its caller
abbrev pub MayOwn : Solo → OwnDeed → Type 0
MayOwn s (Puts address size) = MayPut s address size
MayOwn s (Sends address size) = MaySend s address size
MayOwn s (Handles kind address) = Unit {0}
MayOwn s (Accepts mask) = Unit {0}

-- what these deeds may change of their caller, and nothing else
pub record OwnState : Type 0 where
  pub console : List ℕ
  pub sent : List (List ℕ)
  pub handlers : Handlers
  pub mask : ℕ

abbrev pub own_state : Solo → OwnState
own_state s = record { console = s.console; sent = s.sent; handlers = s.handlers; mask = s.mask }

-- what each deed leaves there
abbrev pub own_state_after : OwnDeed → Solo → OwnState
own_state_after (Puts address size) s = record (own_state s) {
  console = s.console ++ unwrap_or (put_bytes (sight s) address size) [];
}
own_state_after (Sends address size) s = record (own_state s) {
  sent = s.sent ++ unwrap_or (good_range (sight s) address size) [] ∷ [];
}
own_state_after (Handles kind address) s = record (own_state s) { handlers = with_handler s.handlers kind address }
own_state_after (Accepts mask) s = record (own_state s) { mask = mask }

abbrev pub with_own_state : OwnState → Solo → Solo
with_own_state own s = record s { console = own.console; sent = own.sent; handlers = own.handlers; mask = own.mask }

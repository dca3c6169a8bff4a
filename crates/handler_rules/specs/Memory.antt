-- The memory of a handler: its words, the packet from address 0 on, and the ring page from 0x1000 on.
use Rattle.std.specs.Prelude.{ℕ, ◌+◌, ◌-◌, ◌/◌, ◌&&◌, nat_le, if◌then◌else◌, List, length, take, drop, slice_get, Option, Some, None, Result, Ok, Err}
use Rattle.std.specs.Option.{option_or}
use Rattle.byteorder.specs.Endian.{little_number}
use Rattle.frame_store.specs.Pages.{with_bytes}
use Rattle.mips_exec.specs.declared.exception.Exc.{Exc}
use Rattle.mips_exec.specs.declared.exception.ExcCode.{ExcCode}
use Rattle.mips_exec.specs.declared.exception.ExcCode.TheVariants.{Ibe, Dbe}
use Rattle.mips_exec.specs.Access.{Write}
use Rattle.mips_exec.specs.Exception.{plain}
use Rattle.mips_exec.specs.Step.{Answers}

-- the addresses at which the packet and the ring page begin
abbrev pub packet_start : ℕ
packet_start = 0

abbrev pub page_start : ℕ
page_start = 0x1000

-- so many bytes from an address on of what begins at a start, if they lie in it
abbrev pub bytes_at : ℕ → List ℕ → ℕ → ℕ → Option (List ℕ)
bytes_at start memory address size =
    if nat_le start address && nat_le (address + size) (start + length memory)
    then Some (take size (drop (address - start) memory))
    else None

-- the bytes that may be read: those of the packet, and those of the ring page
abbrev pub readable_at : List ℕ → List ℕ → ℕ → ℕ → Option (List ℕ)
readable_at packet page address size =
    option_or (bytes_at packet_start packet address size) (bytes_at page_start page address size)

-- what is answered where there is something, and a bus error where there is nothing
abbrev pub answer_or : {A B : Type 0} → ExcCode → (A → B) → Option A → Result B Exc
answer_or code f None = Err (plain code)
answer_or code f (Some x) = Ok (f x)

-- What the machine is answered. A word is fetched, and there is none behind the last; a load gets what may be read; a
-- store goes to the ring page alone.
abbrev pub answers_of : List ℕ → List ℕ → List ℕ → Answers
answers_of words packet page = record {
  fetch = λ address. answer_or Ibe (λ word. word) (slice_get words (address / 4));
  load = λ address size. answer_or Dbe (little_number size) (readable_at packet page address size);
  store = λ address size. answer_or Dbe (λ bytes. tt) (bytes_at page_start page address size);
}

-- the ring page after bytes were stored at an address
abbrev pub stored : List ℕ → ℕ → List ℕ → List ℕ
stored page address bytes = with_bytes page (address - page_start) bytes

-- the ring page after what a step writes
abbrev pub page_after : List ℕ → Option Write → List ℕ
page_after page None = page
page_after page (Some write) = stored page write.address write.bytes

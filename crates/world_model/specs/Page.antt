-- What an access answers, given where each VPN leads.
use Rattle.std.specs.Prelude.{ℕ, ◌/◌, ◌%◌, List, drop, Bool, not, ◌&&◌, nat_le, if◌then◌else◌, Option, Some, None, Result, Ok, Err}
use Rattle.aegis_limits.specs.Limits.{page_size}
use Rattle.byteorder.specs.Endian.{little_number}
use Rattle.mips_exec.specs.declared.access_kind.AccessKind.{AccessKind}
use Rattle.mips_exec.specs.declared.access_kind.AccessKind.TheVariants.{Fetch, Load, Store}
use Rattle.mips_exec.specs.declared.exception.Exc.{Exc}
use Rattle.mips_exec.specs.declared.exception.ExcCode.TheVariants as code
use Rattle.mips_exec.specs.AccessKind.{address_error, is_store, miss, raised, user_end}
use Rattle.mips_exec.specs.Step.{Answers}

-- a guaranteed page: its VPN, whether it may be stored to, and its bytes
pub record KeptPage : Type 0 where
  pub vpn : ℕ
  pub writable : Bool
  pub bytes : List ℕ

-- where a VPN leads: the bytes of the page, and whether they may be stored to
pub record Mapped : Type 0 where
  pub writable : Bool
  pub bytes : List ℕ

-- a mapping serves an access, unless it is read-only and the access a store
abbrev pub served : AccessKind → ℕ → Option Mapped → Result Mapped Exc
served kind address None = raised (miss kind) address
served kind address (Some m) = if is_store kind && not m.writable then raised code.Mod address else Ok m

-- where an access goes: the VPN is the address over the size of a page
abbrev pub reach : (ℕ → Option Mapped) → AccessKind → ℕ → Result Mapped Exc
reach look kind address =
    if nat_le user_end address then raised (address_error kind) address
    else served kind address (look (address / page_size))

-- the bytes of a page from an address on
abbrev pub bytes_from : ℕ → Mapped → List ℕ
bytes_from address m = drop (address % page_size) m.bytes

-- what is answered where an access is served; an exception is handed on
abbrev pub if_served : {A : Type 0} → (Mapped → A) → Result Mapped Exc → Result A Exc
if_served f (Ok m) = Ok (f m)
if_served f (Err exc) = Err exc

-- what a load or a fetch is answered: the number in so many bytes, the lowest first
abbrev pub read_answer : AccessKind → (ℕ → Option Mapped) → ℕ → ℕ → Result ℕ Exc
read_answer kind look address width =
    if_served (λ m. little_number width (bytes_from address m)) (reach look kind address)

-- what the machine is answered where VPNs lead so
abbrev pub answers_by : (ℕ → Option Mapped) → Answers
answers_by look = record {
  fetch = λ address. read_answer Fetch look address 4;
  load = λ address width. read_answer Load look address width;
  store = λ address width. if_served (λ m. tt) (reach look Store address);
}

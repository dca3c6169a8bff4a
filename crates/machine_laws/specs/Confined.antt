-- What a step in user mode can change of the machine.
use Rattle.std.specs.Prelude.{◌≡◌, ◌≢◌, ◌<◌, ℕ, true, List, length, Some}
use Rattle.aegis_limits.specs.Limits.{vpn_end}
use Rattle.frame_store.specs.Pages.{page_at}
use Rattle.r3k_tlb.specs.declared.row.Row.{Row}
use Rattle.r3k_tlb.specs.Row.{is_dirty, is_valid, row_page}
use Rattle.r3k_tlb.specs.Rows.{first_fitting}
use Rattle.r3k_cp0.specs.Registers.{current_pid, is_user}
use Rattle.r3k_machine.specs.declared.machine.Machine.{Machine}
use Rattle.r3k_machine.specs.System.{MachineStep, machine_step}

-- A page of physical memory is open to the user: at a user's VPN its process finds a valid and dirty row, which leads
-- there.
pub record IsOpen (m : Machine) (page : ℕ) : Type 0 where
  pub vpn : ℕ
  pub users : vpn < vpn_end
  pub row : Row
  pub found : first_fitting vpn (current_pid m.cp0) m.tlb ≡ Some row
  pub valid : is_valid row ≡ true
  pub dirty : is_dirty row ≡ true
  pub leads : row_page row ≡ page

-- the pages whose bytes differ are open to the user
abbrev pub AreKeptButOpen : Machine → List (List ℕ) → List (List ℕ) → Type 0
AreKeptButOpen m old new = (page : ℕ) → page_at new page ≢ page_at old page → IsOpen m page

-- A step leaves the rows of the TLB, the registers of coprocessor 0, and all pages but those that are open to the user.
pub record IsConfined (m : Machine) (frames : List (List ℕ)) (s : MachineStep) : Type 0 where
  pub rows : s.machine.tlb ≡ m.tlb
  pub system : s.machine.cp0 ≡ m.cp0
  pub pages : AreKeptButOpen m frames s.frames
  pub size : length s.frames ≡ length frames

-- So does each step in user mode. (That Random falls after each attempt is no part of the step.)
abbrev pub UsersAreConfined : Type 0
UsersAreConfined =
    (m : Machine) (frames : List (List ℕ)) → is_user m.cp0 ≡ true → IsConfined m frames (machine_step m frames)

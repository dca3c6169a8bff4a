-- What a user's step can depend on.
use Rattle.std.specs.Prelude.{◌≡◌, ◌<◌, ℕ, true, List, length, Some}
use Rattle.aegis_limits.specs.Limits.{vpn_end}
use Rattle.frame_store.specs.Pages.{page_at}
use Rattle.r3k_tlb.specs.declared.row.Row.{Row}
use Rattle.r3k_tlb.specs.Row.{is_valid, row_page}
use Rattle.r3k_tlb.specs.Rows.{first_fitting}
use Rattle.r3k_cp0.specs.Registers.{current_pid, is_user}
use Rattle.r3k_machine.specs.declared.machine.Machine.{Machine}
use Rattle.r3k_machine.specs.System.{MachineStep, machine_step}

-- A page of physical memory is visible to the user: at a user's VPN its process finds a valid row, which leads there.
pub record IsVisible (m : Machine) (page : ℕ) : Type 0 where
  pub vpn : ℕ
  pub users : vpn < vpn_end
  pub row : Row
  pub found : first_fitting vpn (current_pid m.cp0) m.tlb ≡ Some row
  pub valid : is_valid row ≡ true
  pub leads : row_page row ≡ page

-- two memories of as many pages have the same bytes in the pages that are visible to the user
pub record AreAlike (m : Machine) (frames others : List (List ℕ)) : Type 0 where
  pub size : length others ≡ length frames
  pub pages : (page : ℕ) → IsVisible m page → page_at others page ≡ page_at frames page

-- two steps leave the same machine, and end alike
pub record EndAlike (s t : MachineStep) : Type 0 where
  pub machine : s.machine ≡ t.machine
  pub outcome : s.outcome ≡ t.outcome

-- Over two such memories a step in user mode does the same.
abbrev pub UsersSeeByRows : Type 0
UsersSeeByRows =
    (m : Machine) (frames others : List (List ℕ)) → is_user m.cp0 ≡ true → AreAlike m frames others
    → EndAlike (machine_step m others) (machine_step m frames)

-- Where an address leads in physical memory, by the rows of the TLB and the mode.
use Rattle.std.specs.Prelude.{ℕ, ◌/◌, ◌%◌, not, ◌&&◌, nat_lt, if◌then◌else◌, List, Option, Some, None, Result, Ok, Err}
use Rattle.mips_exec.specs.declared.access_kind.AccessKind.{AccessKind}
use Rattle.mips_exec.specs.declared.exception.Exc.{Exc}
use Rattle.mips_exec.specs.declared.exception.ExcCode.TheVariants as code
use Rattle.mips_exec.specs.AccessKind.{address_error, bus_error, is_store, miss, raised, user_end}
use Rattle.aegis_limits.specs.Limits.{page_size}
use Rattle.r3k_tlb.specs.declared.row.Row.{Row}
use Rattle.r3k_tlb.specs.Row.{is_dirty, is_valid, row_page}
use Rattle.r3k_tlb.specs.Rows.{first_fitting}
use Rattle.r3k_cp0.specs.declared.registers.Cp0.{Cp0}
use Rattle.r3k_cp0.specs.Registers.{current_pid, is_user}

-- the segments of the address space: the users' addresses; the kernel's that go by no row; and its others
pub data Segment : Type 0 where
  Users : Segment
  Direct : Segment
  High : Segment

abbrev pub direct_end : ℕ
direct_end = 0xC0000000

abbrev pub segment_of : ℕ → Segment
segment_of address = if nat_lt address user_end then Users else (if nat_lt address direct_end then Direct else High)

-- addresses that go by no row are physical, modulo this
abbrev pub direct_size : ℕ
direct_size = 0x20000000

-- the page of an access by its row: V is asked before D, and N isn't asked
abbrev pub page_by_row : AccessKind → ℕ → Option Row → Result ℕ Exc
page_by_row kind address None = raised (miss kind) address
page_by_row kind address (Some row) =
    if not (is_valid row) then raised (miss kind) address
    else (if is_store kind && not (is_dirty row) then raised code.Mod address else Ok (row_page row))

-- the page of an access, by the segment of its address: in user mode, and in kernel mode; with the page by the row
abbrev pub user_page : AccessKind → ℕ → Result ℕ Exc → Segment → Result ℕ Exc
user_page kind address by_row Users = by_row
user_page kind address by_row Direct = raised (address_error kind) address
user_page kind address by_row High = raised (address_error kind) address

abbrev pub kernel_page : ℕ → Result ℕ Exc → Segment → Result ℕ Exc
kernel_page address by_row Users = by_row
kernel_page address by_row Direct = Ok (address % direct_size / page_size)
kernel_page address by_row High = by_row

-- the page of an access
abbrev pub page_by_mode : Cp0 → List Row → AccessKind → ℕ → Result ℕ Exc
page_by_mode cp0 rows kind address =
    let by_row = page_by_row kind address (first_fitting (address / page_size) (current_pid cp0) rows) in
    if is_user cp0 then user_page kind address by_row (segment_of address)
    else kernel_page address by_row (segment_of address)

-- a page is reached where there are more pages of physical memory than its number
abbrev pub if_there : ℕ → AccessKind → ℕ → Result ℕ Exc → Result ℕ Exc
if_there pages kind address (Ok page) = if nat_lt page pages then Ok page else raised (bus_error kind) address
if_there pages kind address (Err exc) = Err exc

-- the page of physical memory, which has so many, that an access reaches, or what it raises
abbrev pub reached_page : Cp0 → List Row → ℕ → AccessKind → ℕ → Result ℕ Exc
reached_page cp0 rows pages kind address = if_there pages kind address (page_by_mode cp0 rows kind address)

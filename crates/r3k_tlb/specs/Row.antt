-- A row of the TLB, and what its words say.
use Rattle.std.specs.Prelude.{ℕ, ◌+◌, ◌*◌, ◌/◌, ◌%◌, ◌^◌, Bool, not, ◌==◌, ◌&&◌, ◌||◌, if◌then◌else◌}
use Rattle.r3k_tlb.specs.declared.row.Row.{Row}

-- virtual pages, and pages of physical memory, have numbers of 20 bits
abbrev pub page_numbers : ℕ
page_numbers = 2 ^ 20

-- processes have numbers of 6 bits
abbrev pub pid_numbers : ℕ
pid_numbers = 2 ^ 6

-- the virtual page, in bits 31:12 of the first word
abbrev pub row_vpn : Row → ℕ
row_vpn row = row.hi / 2 ^ 12

-- the process, in bits 11:6 of the first word
abbrev pub row_pid : Row → ℕ
row_pid row = row.hi / 2 ^ 6 % 2 ^ 6

-- the page of physical memory, in bits 31:12 of the second word
abbrev pub row_page : Row → ℕ
row_page row = row.lo / 2 ^ 12

-- stores go through (D)
abbrev pub is_dirty : Row → Bool
is_dirty row = row.lo / 2 ^ 10 % 2 == 1

-- the row leads to its page (V)
abbrev pub is_valid : Row → Bool
is_valid row = row.lo / 2 ^ 9 % 2 == 1

-- the row is of every process (G)
abbrev pub is_global : Row → Bool
is_global row = row.lo / 2 ^ 8 % 2 == 1

-- a row fits a virtual page and a process
abbrev pub fits : ℕ → ℕ → Row → Bool
fits vpn pid row = row_vpn row == vpn && (row_pid row == pid || is_global row)

-- what a row fits isn't told by its first word alone
abbrev pub is_odd : Row → Bool
is_odd row = not (row.hi % 2 ^ 6 == 0) || is_global row

-- the row that serves no user's address
abbrev pub emptied_row : Row
emptied_row = record { hi = 0x80000000; lo = 0 }

-- the first word of a row of a virtual page and a process
abbrev pub hi_word_of : ℕ → ℕ → ℕ
hi_word_of vpn pid = vpn * 2 ^ 12 + pid * 2 ^ 6

-- the second word of a row that leads to a page: V, and D where it may be stored to
abbrev pub lo_word_of : ℕ → Bool → ℕ
lo_word_of page writable = page * 2 ^ 12 + (if writable then 2 ^ 10 else 0) + 2 ^ 9

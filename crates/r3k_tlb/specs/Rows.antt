-- The rows of the TLB, in their order.
use Rattle.std.specs.Prelude.{ℕ, Bool, ◌==◌, ◌&&◌, if◌then◌else◌, List, map, replicate, Option, slice_index_or, slice_set}
use Rattle.std.specs.List.{find, position}
use Rattle.r3k_tlb.specs.declared.row.Row.{Row}
use Rattle.r3k_tlb.specs.Row.{emptied_row, fits, row_page, row_pid, row_vpn}

-- so many rows there are
abbrev pub row_count : ℕ
row_count = 64

-- rows that are all emptied
abbrev pub emptied_rows : List Row
emptied_rows = replicate row_count emptied_row

-- the row with a number
abbrev pub row_at : List Row → ℕ → Row
row_at rows i = slice_index_or rows i emptied_row

-- the rows with another in the place of one
abbrev pub with_row_at : List Row → ℕ → Row → List Row
with_row_at rows i row = slice_set rows i row

-- the lowest row that fits a virtual page and a process
abbrev pub first_fitting : ℕ → ℕ → List Row → Option Row
first_fitting vpn pid rows = find (fits vpn pid) rows

-- its number
abbrev pub first_fitting_place : ℕ → ℕ → List Row → Option ℕ
first_fitting_place vpn pid rows = position (fits vpn pid) rows

-- a row leads to this page
abbrev pub has_page : ℕ → Row → Bool
has_page page row = row_page row == page

-- a row is of this process
abbrev pub has_pid : ℕ → Row → Bool
has_pid pid row = row_pid row == pid

-- a row is of this virtual page and this process
abbrev pub has_pair : ℕ → ℕ → Row → Bool
has_pair vpn pid row = row_vpn row == vpn && row_pid row == pid

-- a row, emptied where a test says so
abbrev pub emptied_if : (Row → Bool) → Row → Row
emptied_if test row = if test row then emptied_row else row

-- the rows, of which those are emptied of which a test says so
abbrev pub emptied_where : (Row → Bool) → List Row → List Row
emptied_where test rows = map (emptied_if test) rows

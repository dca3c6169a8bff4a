-- What an environment is asked for, and what lowers it.
use Rattle.std.specs.Prelude.{ℕ, ◌+◌, ◌-◌, ◌==◌, min, nat_le, Bool, false, if◌then◌else◌, List, Option, Some, None, unwrap_or}
use Rattle.std.specs.List.{filter_map, reduce}
use Rattle.std.specs.Option.{option_map}
use Rattle.revocation_book.specs.declared.revocation.Pending.{Pending}

-- the most pages that are outstanding
abbrev pub most_outstanding : ℕ
most_outstanding = 0xFFFFFFFF

abbrev pub outstanding_in : Option Pending → ℕ
outstanding_in None = 0
outstanding_in (Some p) = p.outstanding

-- so many pages are outstanding until a deadline; where none is, nothing is pending
abbrev pub pending_of : ℕ → ℕ → Option Pending
pending_of outstanding deadline =
    if outstanding == 0 then None else Some (record { outstanding = outstanding; deadline = deadline })

-- An environment is asked for so many pages more, and by a deadline for all of them.
abbrev pub asked : ℕ → ℕ → Option Pending → Option Pending
asked count deadline pending = pending_of (min most_outstanding (outstanding_in pending + count)) deadline

-- It frees a page of its own.
abbrev pub lowered : Option Pending → Option Pending
lowered None = None
lowered (Some p) = pending_of (p.outstanding - 1) p.deadline

-- whether the deadline has come
abbrev pub is_due : ℕ → Option Pending → Bool
is_due time None = false
is_due time (Some p) = nat_le p.deadline time

-- what is pending once the deadlines that have come are over
abbrev pub unless_due : ℕ → Option Pending → Option Pending
unless_due time pending = if is_due time pending then None else pending

-- the deadline, if anything is pending
abbrev pub deadline_in : Option Pending → Option ℕ
deadline_in pending = option_map (λ (p : Pending). p.deadline) pending

-- the earliest of all deadlines, if there is one
abbrev pub earliest_in : List (Option Pending) → Option ℕ
earliest_in pending = reduce min (filter_map deadline_in pending)

-- the earliest of all deadlines, or a time behind every tick
abbrev pub earliest_or_never : List (Option Pending) → ℕ
earliest_or_never pending = unwrap_or (earliest_in pending) 4294967295

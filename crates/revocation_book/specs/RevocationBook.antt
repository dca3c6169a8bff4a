-- The book of revocations, as it is seen.
use Rattle.std.specs.Prelude.{◌≡◌, ℕ, Bool, true, List, [], length, map, replicate, slice_index_or, slice_set, Option, None}
use Rattle.std.specs.List.{list_any}
use Rattle.aegis_limits.specs.Limits.{environment_numbers}
use Rattle.page_book.specs.declared.row.PageRow.{PageRow}
use Rattle.page_book.specs.Row.{is_owned_by}
use Rattle.page_book.specs.Rows.{row_in}
use Rattle.revocation_book.specs.declared.revocation.Pending.{Pending}
use Rattle.revocation_book.specs.Pending.{asked, earliest_or_never, is_due, lowered, unless_due}
use Rattle.revocation_book.specs.Backups.{is_loaded, unloaded}
use Rattle.revocation_book.specs.Takings.{Books}

-- of each environment what is pending, and its backups
pub record RevocationBook : Type 0 where
  pub pending : List (Option Pending)
  pub backups : List (List ℕ)

abbrev pub pending_at : RevocationBook → ℕ → Option Pending
pending_at book e = slice_index_or book.pending e None

abbrev pub backups_at : RevocationBook → ℕ → List ℕ
backups_at book e = slice_index_or book.backups e []

-- nothing is pending, and nothing is loaded
abbrev pub nothing_asked : RevocationBook
nothing_asked = record { pending = replicate environment_numbers None; backups = replicate environment_numbers [] }

-- with other backups of an environment
abbrev pub with_backups : RevocationBook → ℕ → List ℕ → RevocationBook
with_backups book e backups = record book { backups = slice_set book.backups e backups }

abbrev pub with_pending : RevocationBook → ℕ → Option Pending → RevocationBook
with_pending book e pending = record book { pending = slice_set book.pending e pending }

-- once an environment was asked for so many pages more until a deadline
abbrev pub once_asked : RevocationBook → ℕ → ℕ → ℕ → RevocationBook
once_asked book e count deadline = with_pending book e (asked count deadline (pending_at book e))

-- once it freed a page of its own, which is no backup any more
abbrev pub once_freed : RevocationBook → ℕ → ℕ → RevocationBook
once_freed book e page =
    with_backups (with_pending book e (lowered (pending_at book e))) e (unloaded page (backups_at book e))

-- whether a deadline has come
abbrev pub is_any_due : RevocationBook → ℕ → Bool
is_any_due book time = list_any (is_due time) book.pending

-- the time of the next deadline, or a time behind every tick
abbrev pub next_deadline : RevocationBook → ℕ
next_deadline book = earliest_or_never book.pending

-- once the deadlines that have come are over
abbrev pub once_served : RevocationBook → ℕ → RevocationBook
once_served book time = record book { pending = map (unless_due time) book.pending }

-- once an environment is gone
abbrev pub once_gone : RevocationBook → ℕ → RevocationBook
once_gone book e = with_backups (with_pending book e None) e []

-- the book beside that of the pages
abbrev pub books_of : List PageRow → RevocationBook → Books
books_of pages book = record {
  pages = row_in pages;
  page_count = length pages;
  pending = pending_at book;
  backups = backups_at book;
}

-- each backup is a page that its environment owns
abbrev pub EachOwnsItsBackups : List PageRow → RevocationBook → Type 0
EachOwnsItsBackups pages book =
    (e page : ℕ) → is_loaded (backups_at book e) page ≡ true → is_owned_by e (row_in pages page) ≡ true

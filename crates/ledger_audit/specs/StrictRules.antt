-- The second table of rules, that of the strict audit: pages are taken as they were asked for, a packet has a packet's size,
-- and whoever is named is there.
use Rattle.std.specs.Prelude.{ℕ, ◌-◌, List, [], ◌∷◌, Bool, true, false, not, ◌==◌, ◌&&◌, nat_lt, nat_le, if◌then◌else◌, Option, None, Some}
use Rattle.external_event.specs.Limits.{most_packet_size}
use Rattle.kernel_journal.specs.declared.row.Row.{Row}
use Rattle.kernel_journal.specs.declared.row.Row.TheVariants as row

-- What the rows so far say of requests for pages: how many each environment has still to give, and in which tick they are
-- taken otherwise; and who is dead.
pub record RequestState : Type 0 where
  pub pages : ℕ → ℕ
  pub deadline : ℕ → ℕ
  pub dead : ℕ → Bool

-- before the first row
abbrev pub no_requests : RequestState
no_requests = record { pages = λ e. 0; deadline = λ e. 0; dead = λ e. false }

-- An `asked` row has all pages that are asked for. Each page that is taken is one fewer, and a dead environment has none to
-- give.
abbrev pub pages_after : ℕ → Row → ℕ → ℕ
pages_after e (row.Asked t who pages deadline) n = if e == who then pages else n
pages_after e (row.Take t who page backup) n = if e == who then n - 1 else n
pages_after e (row.Dead t slot who) n = if e == who then 0 else n
pages_after e r n = n

abbrev pub deadline_after : ℕ → Row → ℕ → ℕ
deadline_after e (row.Asked t who pages deadline) d = if e == who then deadline else d
deadline_after e r d = d

abbrev pub dead_after : ℕ → Row → Bool → Bool
dead_after e (row.Dead t slot who) b = if e == who then true else b
dead_after e r b = b

-- the requests with one row more
abbrev pub requests_after : Row → RequestState → RequestState
requests_after r q = record {
  pages = λ e. pages_after e r (q.pages e);
  deadline = λ e. deadline_after e r (q.deadline e);
  dead = λ e. dead_after e r (q.dead e);
}

-- The environments that a row names are among so many.
abbrev pub is_there : ℕ → Option ℕ → Bool
is_there n None = true
is_there n (Some e) = nat_lt e n

abbrev pub are_there : ℕ → Row → Bool
are_there n (row.Own t slot owner holder) = is_there n owner && is_there n holder
are_there n (row.Run t slot e) = nat_lt e n
are_there n (row.Pay t slot e) = nat_lt e n
are_there n (row.Give t slot from to) = nat_lt from n && nat_lt to n
are_there n (row.Async t slot from to) = nat_lt from n && nat_lt to n
are_there n (row.Sync t slot from to) = nat_lt from n && nat_lt to n
are_there n (row.End t slot e) = nat_lt e n
are_there n (row.Over t slot e excess) = nat_lt e n
are_there n (row.Stop t slot e) = nat_lt e n
are_there n (row.Dead t slot e) = nat_lt e n
are_there n (row.Asked t e pages deadline) = nat_lt e n
are_there n (row.Take t e page backup) = nat_lt e n
are_there n (row.Unclaimed t size) = true

-- Who is asked lives, has a page to give at least, and a deadline that isn't over.
abbrev pub is_request : RequestState → ℕ → ℕ → ℕ → ℕ → Bool
is_request q t e pages deadline = not (q.dead e) && (nat_lt 0 pages && nat_le t deadline)

-- A page is taken from an environment that has one to give still, in the tick of its deadline.
abbrev pub is_taking : RequestState → ℕ → ℕ → Bool
is_taking q t e = nat_lt 0 (q.pages e) && (t == q.deadline e)

abbrev pub is_packet_size : ℕ → Bool
is_packet_size size = nat_le 1 size && nat_le size most_packet_size

abbrev pub is_strict_by_kind : RequestState → Row → Bool
is_strict_by_kind q (row.Asked t e pages deadline) = is_request q t e pages deadline
is_strict_by_kind q (row.Take t e page backup) = is_taking q t e
is_strict_by_kind q (row.Unclaimed t size) = is_packet_size size
is_strict_by_kind q r = true

-- a row of a machine with so many environments, after rows that say so much of requests
abbrev pub is_strict : ℕ → RequestState → Row → Bool
is_strict n q r = are_there n r && is_strict_by_kind q r

-- whether rows all keep these rules
abbrev pub are_strict : ℕ → RequestState → List Row → Bool
are_strict n q [] = true
are_strict n q (r ∷ rows) = is_strict n q r && are_strict n (requests_after r q) rows

-- The claims of an environment's, by the book of claims.
use Rattle.std.specs.Prelude.{ℕ, List, filter, map}
use Rattle.filter_tree.specs.ClaimBook.{ClaimBook, RowValue, is_of_env}
use Rattle.world_model.specs.Solo.{Ring}

-- a claim that stands, as its environment has it
abbrev pub ring_in : RowValue → Ring
ring_in r = record { claim = r.claim.id; page = r.claim.page; next = r.next; handler = r.handler }

-- the claims that stand of an environment
abbrev pub rows_of : ClaimBook → ℕ → List RowValue
rows_of book e = filter (λ (r : RowValue). is_of_env e r.claim) book.rows

abbrev pub rings_of : ClaimBook → ℕ → List Ring
rings_of book e = map ring_in (rows_of book e)

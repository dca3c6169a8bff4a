-- The book of claims, as it is seen.
use Rattle.std.specs.Prelude.{ℕ, suc, Bool, ◌==◌, ◌&&◌, nat_le, Option, List, [], ◌∷◌, map}
use Rattle.filter_core.specs.declared.atom.Atom.{Atom}
use Rattle.packet_ring.specs.declared.buffer.Buffer.{Buffer}

-- the claims that an environment has at most
abbrev pub most_claims : ℕ
most_claims = 8

-- a claim: its number, the environment that made it, the filter of its packets, and the page into which they go
pub record ClaimValue : Type 0 where
  pub id : ℕ
  pub env : ℕ
  pub filter : List Atom
  pub page : ℕ

-- a claim that stands, the buffer of its page into which its next packet goes, and the words of the handler that runs
-- over its packets in place of that, if it has one
pub record RowValue : Type 0 where
  pub claim : ClaimValue
  pub next : Buffer
  pub handler : Option (List ℕ)

-- the book: the claims that stand, by rising number; the number of the next; and how many environments there are
pub record ClaimBook : Type 0 where
  pub rows : List RowValue
  pub next : ℕ
  pub envs : ℕ

abbrev pub claim_in : RowValue → ClaimValue
claim_in r = r.claim

-- the claims alone
abbrev pub claims_in : ClaimBook → List ClaimValue
claims_in book = map claim_in book.rows

abbrev pub is_of_env : ℕ → ClaimValue → Bool
is_of_env env c = c.env == env

-- whether the numbers of claims rise, from this one on, and are below another
abbrev pub are_numbered : ℕ → ℕ → List RowValue → Bool
are_numbered least end [] = nat_le least end
are_numbered least end (r ∷ rows) = nat_le least r.claim.id && are_numbered (suc r.claim.id) end rows

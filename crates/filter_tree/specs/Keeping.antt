-- How the book is kept: its rows have room, and the tree has their claims.
use Rattle.std.specs.Prelude.{◌≡◌, ◌≤◌, ◌<◌, ◌*◌, ℕ, Bool, true, nat_le, if◌then◌else◌, List, Option, Some, map, count_by, find}
use Rattle.std.specs.List.{AllByRecursion, AllPairs}
use Rattle.std.specs.Option.{option_flatten, option_map}
use Rattle.filter_core.specs.declared.atom.Atom.{Atom}
use Rattle.filter_tree.specs.declared.claim.ClaimNo.{ClaimNo}
use Rattle.filter_tree.specs.declared.claim.ClaimNo.TheVariants.{Full, Overlap}
use Rattle.filter_tree.specs.ClaimBook.{ClaimBook, ClaimValue, RowValue, are_numbered, claim_in, is_of_env, most_claims}
use Rattle.filter_tree.specs.Claims.{is_in_the_way, row_numbered}
use Rattle.filter_tree.specs.Tree.{TreeValue, lowest}

-- a book for which so many claims can be kept
pub record IsKept (book : ClaimBook) (room : ℕ) : Type 0 where
  pub few : (e : ℕ) → count_by (λ (r : RowValue). is_of_env e r.claim) book.rows ≤ most_claims
  pub of_envs : AllByRecursion (λ (r : RowValue). r.claim.env < book.envs) book.rows
  pub numbered : are_numbered 0 book.next book.rows ≡ true
  pub enough : book.envs * most_claims ≤ room

-- claims by rising number
abbrev pub AreRising : List RowValue → Type 0
AreRising = AllPairs (λ (r s : RowValue). r.claim.id < s.claim.id)

-- why an environment's filter is refused, where the claims have their buffers beside them
abbrev pub row_refusal : List RowValue → ℕ → List Atom → Option ClaimNo
row_refusal rows env filter =
    if nat_le most_claims (count_by (λ (r : RowValue). is_of_env env r.claim) rows) then Some Full else
    option_map (λ (r : RowValue). Overlap r.claim.id) (find (λ (r : RowValue). is_in_the_way env filter r.claim) rows)

-- the handler of the claim of this number, if it stands and has one
abbrev pub handler_numbered : ℕ → List RowValue → Option (List ℕ)
handler_numbered id rows = option_flatten (option_map (λ (r : RowValue). r.handler) (row_numbered id rows))

-- a tree has the claims of some rows, in another order: so many pass each test, and the lowest of these is the same
pub record HasClaims (leaves : List ClaimValue) (rows : List RowValue) : Type 0 where
  pub counts : (test : ClaimValue → Bool) → count_by test leaves ≡ count_by test (map claim_in rows)
  pub lowest : (test : ClaimValue → Bool) → lowest test leaves ≡ lowest test (map claim_in rows)

-- a book for which so many claims can be kept, with the tree of its claims
pub record IsGrown (book : ClaimBook) (room : ℕ) (tree : TreeValue) : Type 0 where
  pub kept : IsKept book room
  pub claims : HasClaims tree.leaves book.rows
  pub enough : book.envs * most_claims ≤ tree.room

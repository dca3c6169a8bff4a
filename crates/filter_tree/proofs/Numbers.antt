-- The numbers of claims rise.
use Rattle.std.proofs.Common.{◌≡◌, ℕ, suc, ◌+◌, ◌≤◌, Bool, true, Option, List, [], ◌∷◌, ◌++◌, Some, arith, rules}
use Rattle.std.specs.Prelude.{filter, find, map}
use Rattle.std.proofs.lemmas.Grind.{common_steps}
use Rattle.std.proofs.lemmas.Bool.{le-leb, leb-true}
use Rattle.filter_tree.specs.ClaimBook.{ClaimValue, RowValue, are_numbered}
use Rattle.filter_tree.specs.Claims.{row_with_handler_if, is_numbered, row_after_packet_if}
use Rattle.filter_tree.specs.Laws.{FirstIsNumbered}

-- from a lower number on they rise too
from_lower : (low least end : ℕ) (rows : List RowValue) → low ≤ least → are_numbered least end rows ≡ true → are_numbered low end rows ≡ true
from_lower low least end [] below is = le-leb low end (omega (arith, leb-true least end is))
from_lower low least end (r ∷ rows) below is = grind (arith, common_steps)

-- some of them rise
pub numbered_filter : (keep : RowValue → Bool) (least end : ℕ) (rows : List RowValue) → are_numbered least end rows ≡ true → are_numbered least end (filter keep rows) ≡ true
numbered_filter keep least end [] is = is
numbered_filter keep least end (r ∷ rows) is = grind (arith, common_steps, from_lower, (numbered_filter keep (suc r.claim.id) end rows))

-- and with the next one after them
pub numbered_more : (least end : ℕ) (rows : List RowValue) (r : RowValue) → r.claim.id ≡ end → are_numbered least end rows ≡ true → are_numbered least (end + 1) (rows ++ r ∷ []) ≡ true
numbered_more least end [] r next is = grind (arith, common_steps)
numbered_more least end (x ∷ rows) r next is = grind (arith, common_steps, (numbered_more (suc x.claim.id) end rows r next))

-- a claim is the same whichever buffer is next
pub same_claim : (id : ℕ) (r : RowValue) → (row_after_packet_if id r).claim ≡ r.claim
same_claim id r = search rules

-- and whichever handler it has
pub still_claim : (id : ℕ) (handler : Option (List ℕ)) (r : RowValue) → (row_with_handler_if id handler r).claim ≡ r.claim
still_claim id handler r = search rules

-- where claims stay, their numbers rise
pub numbered_same : (f : RowValue → RowValue) → ((r : RowValue) → (f r).claim ≡ r.claim) → (least end : ℕ) (rows : List RowValue) → are_numbered least end rows ≡ true
    → are_numbered least end (map f rows) ≡ true
numbered_same f same least end [] is = is
numbered_same f same least end (r ∷ rows) is = grind (arith, common_steps, (same r), (numbered_same f same (suc r.claim.id) end rows))

-- the numbers of later claims are not below
pub above : (test : ClaimValue → Bool) (least end : ℕ) (rows : List RowValue) (r : RowValue) → are_numbered least end rows ≡ true → find (λ (x : RowValue). test x.claim) rows ≡ Some r → least ≤ r.claim.id
above test least end [] r is found = cc
above test least end (x ∷ rows) r is found = grind (arith, common_steps, (above test (suc x.claim.id) end rows r))

pub first_numbered : (test : ClaimValue → Bool) (least end : ℕ) (rows : List RowValue) (r : RowValue) → are_numbered least end rows ≡ true → find (λ (x : RowValue). test x.claim) rows ≡ Some r
    → find (λ (x : RowValue). is_numbered r.claim.id x.claim) rows ≡ Some r
first_numbered test least end [] r is found = cc
first_numbered test least end (x ∷ rows) r is found = grind (arith, common_steps, above, (first_numbered test (suc x.claim.id) end rows r))

pub first_is_numbered : FirstIsNumbered
first_is_numbered book test r is found = first_numbered test 0 book.next book.rows r is found

-- What holds of every book of claims.
use Rattle.std.specs.Prelude.{◌≡◌, ◌+◌, ◌*◌, ◌/◌, ◌≤◌, ℕ, zero, suc, Bool, true, List, [], ◌∷◌, length, map, None, Some}
use Rattle.std.specs.List.{AllByRecursion}
use Rattle.filter_core.specs.declared.atom.Atom.{Atom}
use Rattle.packet_ring.specs.declared.buffer.Buffer.TheVariants.{First}
use Rattle.filter_tree.specs.ClaimBook.{ClaimBook, ClaimValue, RowValue, are_numbered}
use Rattle.filter_tree.specs.Claims.{first_row, is_numbered}
use Rattle.filter_tree.specs.Prefixes.{Shape, prefixes, shape_of}

-- the first claim of some is the one of its number
abbrev pub FirstIsNumbered : Type 0
FirstIsNumbered =
    (book : ClaimBook) (test : ClaimValue → Bool) (r : RowValue) → are_numbered 0 book.next book.rows ≡ true
    → first_row test book ≡ Some r → first_row (is_numbered r.claim.id) book ≡ Some r

-- where the filters of all claims have the same shapes, there are no more prefixes than shapes, however many claims
-- there are
abbrev pub AlikeAreFew : Type 0
AlikeAreFew =
    (book : ClaimBook) (shapes : List Shape)
    → AllByRecursion (λ (r : RowValue). map shape_of r.claim.filter ≡ shapes) book.rows → prefixes book ≤ length shapes

-- an example: eight claims of each environment, of packets with 0x0800 at byte 12, 0x11 at byte 23 and a number of
-- the claim's own at byte 36
abbrev pub example_filter : ℕ → List Atom
example_filter id =
    record { offset = 12; width = 2; mask = 65535; value = 2048 }
    ∷ record { offset = 23; width = 1; mask = 255; value = 17 }
    ∷ record { offset = 36; width = 2; mask = 65535; value = 4096 + id } ∷ []

abbrev pub example_row : ℕ → RowValue
example_row id = record {
  claim = record { id = id; env = id / 8; filter = example_filter id; page = id };
  next = First;
  handler = None;
}

abbrev pub example_rows : ℕ → ℕ → List RowValue
example_rows first zero = []
example_rows first (suc n) = example_row first ∷ example_rows (suc first) n

abbrev pub example_book : ℕ → ClaimBook
example_book envs = record { rows = example_rows 0 (envs * 8); next = envs * 8; envs = envs }

-- they have three prefixes, the 128 claims of sixteen environments too
abbrev pub ExampleHasThree : Type 0
ExampleHasThree = (envs : ℕ) → prefixes (example_book envs) ≤ 3

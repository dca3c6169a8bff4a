-- What becomes of claims.
use Rattle.std.specs.Prelude.{ℕ, ◌+◌, Bool, not, ◌==◌, ◌&&◌, nat_le, if◌then◌else◌, List, [], ◌∷◌, ◌++◌, length, filter, map, count_by, sum_by, find, Option, Some, None, Result, Ok, Err}
use Rattle.std.specs.Option.{option_flatten, option_map}
use Rattle.filter_core.specs.declared.atom.Atom.{Atom}
use Rattle.filter_core.specs.Asking.{agree}
use Rattle.filter_core.specs.Matching.{matches}
use Rattle.filter_tree.specs.declared.claim.Claim.{Claim}
use Rattle.filter_tree.specs.declared.claim.ClaimNo.{ClaimNo}
use Rattle.filter_tree.specs.declared.claim.ClaimNo.TheVariants.{Full, Overlap}
use Rattle.packet_ring.specs.declared.buffer.Buffer.TheVariants.{First}
use Rattle.packet_ring.specs.Ring.{other_buffer}
use Rattle.filter_tree.specs.ClaimBook.{ClaimBook, ClaimValue, RowValue, claims_in, is_of_env, most_claims}

-- a claim without its filter
abbrev pub claim_seen : RowValue → Claim
claim_seen r = record { id = r.claim.id; env = r.claim.env; page = r.claim.page; next = r.next }

abbrev pub is_into : ℕ → ClaimValue → Bool
is_into page c = c.page == page

abbrev pub is_numbered : ℕ → ClaimValue → Bool
is_numbered id c = c.id == id

-- the claim of this number, if it is the environment's
abbrev pub is_claim : ℕ → ℕ → ClaimValue → Bool
is_claim env id c = is_numbered id c && is_of_env env c

-- a claim is in the way of an environment's filter if it is another's and some packet is matched by both filters
abbrev pub is_in_the_way : ℕ → List Atom → ClaimValue → Bool
is_in_the_way env filter c = not (is_of_env env c) && agree filter c.filter

-- why an environment's filter is refused beside these claims, if it is: eight of them are its own; or some are in the
-- way, of which this is the lowest
abbrev pub claim_refusal : List ClaimValue → ℕ → List Atom → Option ClaimNo
claim_refusal claims env filter =
    if nat_le most_claims (count_by (is_of_env env) claims) then Some Full else
    option_map (λ (c : ClaimValue). Overlap c.id) (find (is_in_the_way env filter) claims)

-- what a claim is answered: its number, unless it is refused
abbrev pub answer_unless : Option ClaimNo → ℕ → Result ℕ ClaimNo
answer_unless None id = Ok id
answer_unless (Some why) id = Err why

abbrev pub claim_answer : ClaimBook → ℕ → List Atom → Result ℕ ClaimNo
claim_answer book env filter = answer_unless (claim_refusal (claims_in book) env filter) book.next

-- a new claim, whose first packet goes into the first buffer; it has no handler
abbrev pub new_row : ClaimBook → ℕ → List Atom → ℕ → RowValue
new_row book env filter page = record {
  claim = record { id = book.next; env = env; filter = filter; page = page };
  next = First;
  handler = None;
}

-- the book with one claim more
abbrev pub with_claim : ClaimBook → ℕ → List Atom → ℕ → ClaimBook
with_claim book env filter page = record {
  rows = book.rows ++ new_row book env filter page ∷ [];
  next = book.next + 1;
  envs = book.envs;
}

-- the book after a claim, which stays if that is refused
abbrev pub book_unless : Option ClaimNo → ClaimBook → ClaimBook → ClaimBook
book_unless None old new = new
book_unless (Some why) old new = old

abbrev pub claimed : ClaimBook → ℕ → List Atom → ℕ → ClaimBook
claimed book env filter page =
    book_unless (claim_refusal (claims_in book) env filter) book (with_claim book env filter page)

-- the book without some claims
abbrev pub without : (ClaimValue → Bool) → ClaimBook → ClaimBook
without gone book = record book { rows = filter (λ (r : RowValue). not (gone r.claim)) book.rows }

-- the first claim that stands of some
abbrev pub first_row : (ClaimValue → Bool) → ClaimBook → Option RowValue
first_row test book = find (λ (r : RowValue). test r.claim) book.rows

-- the row of the claim of this number, if it stands
abbrev pub row_numbered : ℕ → List RowValue → Option RowValue
row_numbered id rows = find (λ (r : RowValue). is_numbered id r.claim) rows

-- the claim of this number, if it stands and is the environment's
abbrev pub claim_held : ClaimBook → ℕ → ℕ → Option Claim
claim_held book env id = option_map claim_seen (first_row (is_claim env id) book)

-- the claim to which a packet goes: the lowest whose filter matches it
abbrev pub is_for : List ℕ → ClaimValue → Bool
is_for packet c = matches c.filter packet

abbrev pub claim_for : ClaimBook → List ℕ → Option Claim
claim_for book packet = option_map claim_seen (first_row (is_for packet) book)

-- a claim once its next packet is in its buffer: the one after it goes into the other
abbrev pub row_after_packet : RowValue → RowValue
row_after_packet r = record r { next = other_buffer r.next }

abbrev pub row_after_packet_if : ℕ → RowValue → RowValue
row_after_packet_if id r = if is_numbered id r.claim then row_after_packet r else r

-- the book once a packet of a claim's is in its buffer
abbrev pub delivered : ℕ → ClaimBook → ClaimBook
delivered id book = record book { rows = map (row_after_packet_if id) book.rows }

-- the atoms of all claims
abbrev pub atom_count : ClaimBook → ℕ
atom_count book = sum_by (λ (r : RowValue). length r.claim.filter) book.rows

-- a claim with a handler, or with none
abbrev pub row_with_handler : Option (List ℕ) → RowValue → RowValue
row_with_handler handler r = record r { handler = handler }

abbrev pub row_with_handler_if : ℕ → Option (List ℕ) → RowValue → RowValue
row_with_handler_if id handler r = if is_numbered id r.claim then row_with_handler handler r else r

-- the book once a handler is downloaded for a claim, or its handler removed
abbrev pub downloaded : ℕ → Option (List ℕ) → ClaimBook → ClaimBook
downloaded id handler book = record book { rows = map (row_with_handler_if id handler) book.rows }

-- the handler of the claim of this number, if it stands and has one
abbrev pub claim_handler : ClaimBook → ℕ → Option (List ℕ)
claim_handler book id = option_flatten (option_map (λ (r : RowValue). r.handler) (first_row (is_numbered id) book))

-- The calls on packets: claims of those that a filter matches, and their withdrawal.
use Rattle.std.specs.Prelude.{ℕ, ◌+◌, ◌*◌, ◌&&◌, nat_le, List, [], ◌∷◌, ◌++◌, if◌then◌else◌, find, is_some, ok_or, Option, Some, None, Result, Ok, Err}
use Rattle.mips_exec.specs.Cpu.{reg}
use Rattle.filter_core.specs.declared.atom.Atom.{Atom}
use Rattle.filter_core.specs.Filters.{atom_size, filter_of, most_atoms}
use Rattle.filter_tree.specs.declared.claim.ClaimNo.{ClaimNo}
use Rattle.filter_tree.specs.declared.claim.ClaimNo.TheVariants as no
use Rattle.filter_tree.specs.ClaimBook.{ClaimValue}
use Rattle.filter_tree.specs.Claims.{claim_refusal, is_claim, is_for}
use Rattle.world_model.specs.declared.code.Code.{Code}
use Rattle.world_model.specs.declared.code.Code.TheVariants as code
use Rattle.world_model.specs.declared.verdict.Verdict.{Verdict}
use Rattle.world_model.specs.declared.verdict.Verdict.TheVariants.{Refuse, Grant}
use Rattle.world_model.specs.Book.{Book, withdrawn}
use Rattle.world_model.specs.Call.{good_range}
use Rattle.world_model.specs.Page.{Mapped}
use Rattle.world_model.specs.PageCalls.{refusal_of_change}
use Rattle.world_model.specs.Rings.{ring_of}
use Rattle.world_model.specs.Solo.{Solo, sight}
use Rattle.world_model.specs.World.{World, Reply, no_items}

-- the filter that bytes spell, where their range is good
abbrev pub filter_in : Option (List ℕ) → Result (List Atom) Code
filter_in None = Err code.BadPointer
filter_in (Some bytes) = ok_or (filter_of bytes) code.BadFilter

-- Claim: the filter that is named, of 1 to 16 atoms that stand in the caller's memory.
abbrev pub filter_at : (ℕ → Option Mapped) → ℕ → ℕ → Result (List Atom) Code
filter_at look address atoms =
    if nat_le 1 atoms && nat_le atoms most_atoms then filter_in (good_range look address (atoms * atom_size))
    else Err code.BadFilter

-- what a filter is answered by the claims that stand; for one that is in the way the value is its number
abbrev pub claim_verdict : Option ClaimNo → ℕ → Verdict
claim_verdict None claim = Grant claim
claim_verdict (Some no.Full) claim = Refuse code.Full 0
claim_verdict (Some (no.Overlap other)) claim = Refuse code.Overlap other

abbrev pub page_verdict : Option Code → Verdict → Verdict
page_verdict None verdict = verdict
page_verdict (Some why) verdict = Refuse why 0

-- The page is tested behind the filter, and has to be one of the caller's own that isn't guaranteed.
abbrev pub claim_by : World → ℕ → ℕ → Result (List Atom) Code → Verdict
claim_by w e page (Err why) = Refuse why 0
claim_by w e page (Ok filter) =
    page_verdict (refusal_of_change w e page) (claim_verdict (claim_refusal w.book.claims e filter) w.book.next_claim)

-- the value is the claim's number
abbrev pub claim : World → ℕ → Verdict
claim w e = let s = w.solos e in claim_by w e (reg s.cpu 6) (filter_at (sight s) (reg s.cpu 4) (reg s.cpu 5))

abbrev pub book_with_claim : Book → ClaimValue → Book
book_with_claim b c = record b { claims = b.claims ++ c ∷ []; next_claim = b.next_claim + 1 }

-- a filter that may be missing; where a claim is granted it isn't
abbrev pub atoms_or_none : Result (List Atom) Code → List Atom
atoms_or_none (Ok filter) = filter
atoms_or_none (Err why) = []

-- the claim stands from now on
abbrev pub claims_packets : World → ℕ → ℕ → ℕ → ℕ → ℕ → Reply
claims_packets w e claim address atoms page = record {
  book =
      book_with_claim w.book (record {
        id = claim;
        env = e;
        filter = atoms_or_none (filter_at (sight (w.solos e)) address atoms);
        page = page;
      });
  items = no_items;
  rows = [];
}

-- Unclaim: a claim of the caller's own is withdrawn.
abbrev pub unclaim : Solo → Verdict
unclaim s = if is_some (ring_of s.rings (reg s.cpu 4)) then Grant 0 else Refuse code.NoFilter 0

abbrev pub unclaims : World → ℕ → ℕ → Reply
unclaims w e claim = record { book = withdrawn (is_claim e claim) w.book; items = no_items; rows = [] }

-- the claim to which a packet goes: the lowest whose filter matches it
abbrev pub claim_of : Book → List ℕ → Option ClaimValue
claim_of b packet = find (is_for packet) b.claims

-- Which rows of the TLB are emptied, so that none outlives its mapping.
use Rattle.std.specs.Prelude.{ℕ, ◌||◌, Bool, List, [], ◌∷◌, fold, Option, Some, None}
use Rattle.page_book.specs.declared.row.PageRow.{PageRow}
use Rattle.page_book.specs.Row.{belongs_to}
use Rattle.bind_book.specs.declared.binding.Binding.{Binding}
use Rattle.r3k_tlb.specs.declared.row.Row.{Row}
use Rattle.tlb_model.specs.Cache.{Cache}
use Rattle.r3k_tlb.specs.Row.{row_page}
use Rattle.r3k_tlb.specs.Rows.{emptied_where, has_page, has_pair, has_pid}

-- rows that are emptied together: those of an environment's VPN; those of a page; or those of an environment and of its
-- pages, which is who has each page
pub data Flush : Type 0 where
  OfPair : (vpn e : ℕ) → Flush
  OfPage : (page : ℕ) → Flush
  OfEnv : (pages : ℕ → PageRow) → (e : ℕ) → Flush

-- a row is of an environment, or of one of its pages
abbrev pub is_of_env : (ℕ → PageRow) → ℕ → Row → Bool
is_of_env pages e row = has_pid e row || belongs_to e (pages (row_page row))

abbrev pub is_flushed : Flush → Row → Bool
is_flushed (OfPair vpn e) = has_pair vpn e
is_flushed (OfPage page) = has_page page
is_flushed (OfEnv pages e) = is_of_env pages e

abbrev pub flushed : List Row → Flush → List Row
flushed rows f = emptied_where (is_flushed f) rows

-- the rows once all these are emptied
abbrev pub all_flushed : List Flush → List Row → List Row
all_flushed fs rows = fold flushed rows fs

abbrev pub flushed_all : List Flush → Cache → Cache
flushed_all fs c = record c { rows = all_flushed fs c.rows }

-- the pair of a binding that is replaced
abbrev pub replaced_pair : ℕ → Option Binding → List Flush
replaced_pair e None = []
replaced_pair e (Some b) = OfPair b.vpn e ∷ []

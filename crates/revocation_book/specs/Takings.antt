-- What is taken from environments whose deadlines have come.
use Rattle.std.specs.Prelude.{◌≡◌, ◌+◌, ◌≤◌, ℕ, zero, suc, ◌==◌, ◌&&◌, Bool, true, false, not, List, [], ◌∷◌, ◌++◌, take, drop, length, slice_get, if◌then◌else◌, Option, Some, None}
use Rattle.page_book.specs.declared.row.PageRow.{PageRow}
use Rattle.page_book.specs.declared.row.PageRow.TheVariants.{Free}
use Rattle.page_book.specs.Row.{is_owned_by}
use Rattle.page_book.specs.Rows.{free_below}
use Rattle.revocation_book.specs.declared.revocation.Pending.{Pending}
use Rattle.revocation_book.specs.declared.revocation.Taking.{Taking}
use Rattle.revocation_book.specs.Pending.{is_due, outstanding_in}
use Rattle.revocation_book.specs.Backups.{is_loaded}

-- Whose the pages are, by number, and how many there are; and of each environment what is pending, and its backups.
pub record Books : Type 0 where
  pub pages : ℕ → PageRow
  pub page_count : ℕ
  pub pending : ℕ → Option Pending
  pub backups : ℕ → List ℕ

-- a page that the environment owns, and that is neither guaranteed to it nor a backup
abbrev pub is_victim : Books → ℕ → ℕ → Bool
is_victim b e page = is_owned_by e (b.pages page) && not (is_loaded (b.backups e) page)

-- the victims below a page number, by rising number
abbrev pub victims_below : Books → ℕ → ℕ → List ℕ
victims_below b e zero = []
victims_below b e (suc page) = victims_below b e page ++ (if is_victim b e page then page ∷ [] else [])

-- as many as pages are outstanding, or all
abbrev pub victims : Books → ℕ → List ℕ
victims b e = take (outstanding_in (b.pending e)) (victims_below b e b.page_count)

-- the first goes to the backup that was loaded first, and so on, as long as there are backups
abbrev pub paired : ℕ → List ℕ → List ℕ → List Taking
paired e [] backups = []
paired e (page ∷ pages) [] = record { env = e; page = page; backup = None } ∷ paired e pages []
paired e (page ∷ pages) (backup ∷ backups) = record {
  env = e;
  page = page;
  backup = Some backup;
} ∷ paired e pages backups

-- what is taken from an environment at a time
abbrev pub takings_of : Books → ℕ → ℕ → List Taking
takings_of b time e = if is_due time (b.pending e) then paired e (victims b e) (b.backups e) else []

-- what is taken from those below a number, the lowest first
abbrev pub takings_below : Books → ℕ → ℕ → List Taking
takings_below b time zero = []
takings_below b time (suc e) = takings_below b time e ++ takings_of b time e

-- The books once a page is taken: it is free, and the backup that got a copy is an ordinary page again.
abbrev pub taken : Taking → Books → Books
taken x b = record b {
  pages = λ page. if page == x.page then Free else b.pages page;
  backups = λ e. if e == x.env then drop 1 (b.backups x.env) else b.backups e;
}

-- The page may be taken at a time: the deadline of its owner has come, it isn't a backup, and the backup is the one
-- that was loaded first.
pub record IsTakable (b : Books) (time : ℕ) (x : Taking) : Type 0 where
  pub due : is_due time (b.pending x.env) ≡ true
  pub owned : is_owned_by x.env (b.pages x.page) ≡ true
  pub spared : is_loaded (b.backups x.env) x.page ≡ false
  pub first : x.backup ≡ slice_get (b.backups x.env) 0

-- Each may be taken in its turn.
abbrev pub AreTakable : Books → ℕ → List Taking → Type 0
AreTakable b time [] = Unit {0}
AreTakable b time (x ∷ xs) = IsTakable b time x × AreTakable (taken x b) time xs

-- So it is with what is taken at a time,
abbrev pub TakingsAreTakable : Type 0
TakingsAreTakable = (b : Books) (time envs : ℕ) → AreTakable b time (takings_below b time envs)

-- and it is no more than the pages that aren't free.
abbrev pub TakingsAreFew : Type 0
TakingsAreFew =
    (b : Books) (time envs : ℕ) → length (takings_below b time envs) + free_below b.pages b.page_count ≤ b.page_count

-- What the dead have.
use Rattle.std.specs.Prelude.{◌≡◌, ◌≢◌, ℕ, false, [], None, Some, filter}
use Rattle.page_book.specs.Row.{is_owned_by}
use Rattle.filter_tree.specs.ClaimBook.{is_of_env}
use Rattle.revocation_book.specs.Backups.{is_loaded}
use Rattle.world_model.specs.declared.hold.Hold.{Hold}
use Rattle.world_model.specs.declared.life.Cause.{Cause}
use Rattle.world_model.specs.declared.life.Life.TheVariants.{Dead}
use Rattle.world_model.specs.Book.{is_runner}
use Rattle.world_model.specs.LineCalls.{is_line_of}
use Rattle.run_model.specs.Run.{System, world_after}

-- An environment owns no page, sees none, and has no binding, claim, backup, interrupt line or slot; it is asked for no
-- page, and it doesn't run.
pub record HasNothing (system : System) (t e : ℕ) : Type 0 where
  pub owns : (page : ℕ) → is_owned_by e ((world_after system t).book.pages page) ≡ false
  pub sees : (page : ℕ) → ((world_after system t).solos e).seen page ≡ None
  pub binds : (row : ℕ) → (world_after system t).book.binds e row ≡ None
  pub claims : filter (is_of_env e) (world_after system t).book.claims ≡ []
  pub backups : (page : ℕ) → is_loaded ((world_after system t).book.backups e) page ≡ false
  pub lines : (line : ℕ) → is_line_of e ((world_after system t).book.lines line) ≡ false
  pub pending : (world_after system t).book.pending e ≡ None
  pub slots : (k : ℕ) (hold : Hold) → (world_after system t).book.slots k ≡ Some hold
      → (hold.owner ≢ e) × (hold.holder ≢ e)
  pub rests : is_runner e (world_after system t).book.runner ≡ false

-- So it is with the dead. That no page is guaranteed to them is said where guaranteed pages are.
abbrev pub DeadHaveNothing : Type 0
DeadHaveNothing = (system : System) (t e : ℕ) (cause : Cause) → ((world_after system t).solos e).life ≡ Dead cause
    → HasNothing system t e

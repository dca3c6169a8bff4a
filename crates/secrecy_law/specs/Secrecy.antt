-- Who sees a page of physical memory that isn't guaranteed to it.
use Rattle.std.specs.Prelude.{◌≡◌, ◌≢◌, ℕ, suc, true, false, Option, None, Some, ◌⊎◌}
use Rattle.page_book.specs.declared.row.Capabilities.{Capabilities}
use Rattle.page_book.specs.declared.row.PageRow.TheVariants.{Free}
use Rattle.page_book.specs.Row.{is_owned_by}
use Rattle.bind_book.specs.declared.binding.Binding.{Binding}
use Rattle.world_model.specs.declared.call.Deed.TheVariants.{Frees, Recaps}
use Rattle.world_model.specs.Book.{is_idle_book}
use Rattle.world_model.specs.Solo.{Seen}
use Rattle.run_model.specs.Acting.{Does}
use Rattle.run_model.specs.Live.{IsLive, row_after}
use Rattle.run_model.specs.Run.{System, at_step, world_after}

-- what an environment sees of a page after t ticks
abbrev pub sight_of : System → ℕ → ℕ → ℕ → Option Seen
sight_of system t e page = ((world_after system t).solos e).seen page

-- A free page is seen by nobody.
abbrev pub FreeIsUnseen : Type 0
FreeIsUnseen = (system : System) (t e page : ℕ) → row_after system t page ≡ Free → sight_of system t e page ≡ None

-- an environment has a live binding of the page
pub record HasBound (system : System) (t e page : ℕ) : Type 0 where
  pub binding : Binding
  pub its : binding.page ≡ page
  pub live : IsLive system t e binding

-- Who sees a page owns it, or has a live binding of it.
abbrev pub SeenByRight : Type 0
SeenByRight = (system : System) (t e page : ℕ) (x : Seen) → sight_of system t e page ≡ Some x
    → (is_owned_by e (row_after system t page) ≡ true) ⊎ HasBound system t e page

-- After the tick of a granted recap nobody sees the page but its owner.
abbrev pub RecappedIsUnseen : Type 0
RecappedIsUnseen = (system : System) (t e f page : ℕ) (words : Capabilities)
    → is_idle_book (world_after system t).book ≡ false → Does (at_step system t) e (Recaps page words)
    → f ≢ e → sight_of system (suc t) f page ≡ None

-- After the tick of a granted free nobody does.
abbrev pub FreedIsUnseen : Type 0
FreedIsUnseen = (system : System) (t e f page : ℕ)
    → is_idle_book (world_after system t).book ≡ false → Does (at_step system t) e (Frees page)
    → sight_of system (suc t) f page ≡ None

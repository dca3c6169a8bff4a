-- Who can leave an environment nothing.
use Rattle.std.specs.Prelude.{◌≡◌, ℕ, true, false, Some}
use Rattle.bind_book.specs.declared.binding.Binding.{Binding}
use Rattle.world_model.specs.Book.{Book, sees}

-- No page that an environment has bound for writing is one that another sees.
pub record IsOutOfReach (b : Book) (writer e : ℕ) : Type 0 where
  pub unseen : (row : ℕ) (x : Binding) → b.binds writer row ≡ Some x → x.writable ≡ true → sees b e x.page ≡ false

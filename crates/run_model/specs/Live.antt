-- Live bindings: by what right an environment has a binding.
use Rattle.std.specs.Prelude.{◌≡◌, ◌<◌, ◌≤◌, ℕ, true, Some, ◌⊎◌}
use Rattle.page_book.specs.declared.row.Capabilities.{Capabilities}
use Rattle.page_book.specs.declared.row.PageRow.{PageRow}
use Rattle.page_book.specs.declared.row.PageRow.TheVariants.{Owned}
use Rattle.page_book.specs.Row.{gives_right, is_owned_by}
use Rattle.bind_book.specs.declared.binding.Binding.{Binding}
use Rattle.world_model.specs.declared.call.Deed.TheVariants.{Binds}
use Rattle.world_model.specs.Solo.{Store, Physical}
use Rattle.world_model.specs.Step.{Stores}
use Rattle.run_model.specs.Acting.{Acts, Does}
use Rattle.run_model.specs.Run.{System, at_step, world_after}

-- whose a page is after so many ticks
abbrev pub row_after : System → ℕ → ℕ → PageRow
row_after system t page = (world_after system t).book.pages page

-- after each number of ticks above the first and up to the last
abbrev pub Since : ℕ → ℕ → (ℕ → Type 0) → Type 0
Since first last P = (s : ℕ) → first < s → s ≤ last → P s

-- a word gives the right to a binding by words that the page has had from its owner ever since
pub record HasWord (system : System) (since t owner : ℕ) (b : Binding) (word : ℕ) : Type 0 where
  pub words : Capabilities
  pub gives : gives_right words b.writable word ≡ true
  pub kept : Since since t (λ s. row_after system s b.page ≡ Owned owner words)

-- A binding is live after t ticks: in an earlier tick the environment bound it, and presented a word; it has been
-- listed in a row ever since; the page has had one owner ever since; and that owner is the environment itself, or the word still
-- gives the right.
pub record IsLive (system : System) (t e : ℕ) (b : Binding) : Type 0 where
  pub since : ℕ
  pub earlier : since < t
  pub word : ℕ
  pub bound : Does (at_step system since) e (Binds b word)
  pub row : ℕ
  pub listed : Since since t (λ s. (world_after system s).book.binds e row ≡ Some b)
  pub owner : ℕ
  pub owned : Since since t (λ s. is_owned_by owner (row_after system s b.page) ≡ true)
  pub right : (owner ≡ e) ⊎ HasWord system since t owner b word

-- an environment has bound a page, and may store to it by a live binding
pub record HasLiveBinding (system : System) (t e page : ℕ) : Type 0 where
  pub binding : Binding
  pub live : IsLive system t e binding
  pub its : binding.page ≡ page
  pub writable : binding.writable ≡ true

-- In each step a store to a page that isn't guaranteed goes through such a binding.
abbrev pub StoresAreLive : Type 0
StoresAreLive = (system : System) (t e : ℕ) (store : Store) (page : ℕ) → Acts (at_step system t) e (Stores store)
    → store.key ≡ Physical page → HasLiveBinding system t e page

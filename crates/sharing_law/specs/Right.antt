-- By what right an environment has a binding, and bytes are left to it.
use Rattle.std.specs.Prelude.{◌≡◌, ◌≢◌, ℕ, suc, List, true, Some, ◌⊎◌}
use Rattle.std.specs.List.{All}
use Rattle.page_book.specs.Row.{is_owned_by}
use Rattle.bind_book.specs.declared.binding.Binding.{Binding}
use Rattle.world_model.specs.Item.{Item, Left}
use Rattle.world_model.specs.PageCalls.{page_bytes}
use Rattle.run_model.specs.Licensed.{IsLeft}
use Rattle.run_model.specs.Live.{IsLive}
use Rattle.run_model.specs.Run.{System, given_at, moment, world_after}
use Rattle.sharing_law.specs.Delivery.{IsCopied, IsDelivered}

-- every binding that the book lists is live
abbrev pub EachIsLive : Type 0
EachIsLive = (system : System) (t e row : ℕ) (b : Binding) → (world_after system t).book.binds e row ≡ Some b
    → IsLive system t e b

-- What is left to an environment, if another's store doesn't leave it. A packet comes there for the owner of the page,
-- which is another: then these are all bytes of the page.
pub record IsLeftByDelivery (system : System) (t k e page offset : ℕ) (bytes : List ℕ) : Type 0 where
  pub owner : ℕ
  pub another : e ≢ owner
  pub owned : is_owned_by owner ((moment system t k).book.pages page) ≡ true
  pub delivered : IsDelivered system t k page owner
  pub whole : offset ≡ 0
  pub its : bytes ≡ page_bytes (moment system t (suc k)) page

-- Or a page that is taken from the owner of the page, which is another, is copied there: then they are the bytes of the
-- page that is taken.
pub record IsLeftByCopy (system : System) (t k e page offset : ℕ) (bytes : List ℕ) : Type 0 where
  pub owner : ℕ
  pub another : e ≢ owner
  pub copied : IsCopied system t k page owner
  pub whole : offset ≡ 0
  pub its : bytes ≡ page_bytes (moment system t k) copied.taken

-- What is left is so, or another stores it by its right.
abbrev pub LeftIsLive : System → ℕ → ℕ → ℕ → Item → Type 0
LeftIsLive system t k e (Left page offset bytes) =
    IsLeft system t (moment system t k) e page offset bytes
    ⊎ (IsLeftByDelivery system t k e page offset bytes ⊎ IsLeftByCopy system t k e page offset bytes)
LeftIsLive system t k e item = Unit {0}

abbrev pub EachLeftIsLive : Type 0
EachLeftIsLive = (system : System) (t k e : ℕ) → All (LeftIsLive system t k e) (given_at system t k e)

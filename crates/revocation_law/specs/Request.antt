-- Revocation as an environment sees it: what its feed asks of it, and what is taken.
use Rattle.std.specs.Prelude.{◌≡◌, ◌≤◌, ◌<◌, ◌-◌, ◌++◌, ℕ, List, fold, take, Option, None, Some, slice_get}
use Rattle.std.specs.Option.{option_map}
use Rattle.revocation_book.specs.declared.revocation.Pending.{Pending}
use Rattle.world_model.specs.Item.{Item, Asked, Taken}
use Rattle.run_model.specs.Run.{System, feed, items_in, world_after}

-- a page fewer to give
abbrev pub one_fewer : Pending → Pending
one_fewer p = record p { outstanding = p.outstanding - 1 }

-- The request that the environment was told last: how many pages it has to give, and until when. Each page that is taken
-- is one fewer.
abbrev pub request_after : Option Pending → Item → Option Pending
request_after last (Asked outstanding deadline) = Some (record { outstanding = outstanding; deadline = deadline })
request_after last (Taken page backup) = option_map one_fewer last
request_after last item = last

abbrev pub request_in : List Item → Option Pending
request_in items = fold request_after None items

-- What is pending was told: the request has its deadline, and no fewer pages. It may have more, since a feed doesn't
-- tell which of the pages that are lost the environment freed itself.
pub record WasTold (p : Pending) (request : Option Pending) : Type 0 where
  pub pages : ℕ
  pub its : request ≡ Some (record { outstanding = pages; deadline = p.deadline })
  pub most : p.outstanding ≤ pages

abbrev pub PendingIsTold : Type 0
PendingIsTold = (system : System) (t e : ℕ) (p : Pending) → (world_after system t).book.pending e ≡ Some p
    → WasTold p (request_in (feed system e t))

-- The request has a page left to give, and this is the tick of its deadline.
pub record IsDueNow (t : ℕ) (request : Option Pending) : Type 0 where
  pub p : Pending
  pub its : request ≡ Some p
  pub some : 0 < p.outstanding
  pub now : p.deadline ≡ t

-- So it is of the request that an environment was told last before a page is taken from it.
abbrev pub TakenWasAsked : Type 0
TakenWasAsked = (system : System) (t e n page : ℕ) (backup : Option ℕ) → 0 < system.image.quantum
    → slice_get (items_in system t e) n ≡ Some (Taken page backup)
    → IsDueNow t (request_in (feed system e t ++ take n (items_in system t e)))

-- What the kernel puts into a page for its owner: packets in the rings of their claims, what handlers make of packets,
-- and copies of pages that are taken.
use Rattle.std.specs.Prelude.{◌≡◌, ℕ, suc, true, List, [], ◌∷◌, Some}
use Rattle.frame_store.specs.Pages.{with_bytes}
use Rattle.page_book.specs.Row.{is_owned_by}
use Rattle.world_model.specs.Item.{Packet, Taken}
use Rattle.world_model.specs.PageCalls.{page_bytes}
use Rattle.world_model.specs.Rings.{page_left, reception, ring_of}
use Rattle.world_model.specs.Solo.{Ring}
use Rattle.run_model.specs.Run.{System, given_at, moment}

-- In a phase of a tick the owner of the page is given a packet for a claim whose ring the page is: it goes into the
-- buffer whose turn it is, or the claim's handler takes it. So the page has these bytes.
pub record IsDelivered (system : System) (t k page owner : ℕ) : Type 0 where
  pub claim : ℕ
  pub packet : List ℕ
  pub given : given_at system t k owner ≡ Packet claim packet ∷ []
  pub ring : Ring
  pub stands : ring_of ((moment system t k).solos owner).rings claim ≡ Some ring
  pub its : ring.page ≡ page
  pub has : page_left (reception ((moment system t k).solos owner) ring packet)
      ≡ Some (page_bytes (moment system t (suc k)) page)

-- In a phase of a tick a page is taken from the owner of this one, which is the backup that gets a copy: from its start
-- on it has the bytes of the page that is taken.
pub record IsCopied (system : System) (t k page owner : ℕ) : Type 0 where
  pub taken : ℕ
  pub given : given_at system t k owner ≡ Taken taken (Some page) ∷ []
  pub from : is_owned_by owner ((moment system t k).book.pages taken) ≡ true
  pub into : is_owned_by owner ((moment system t k).book.pages page) ≡ true
  pub has : page_bytes (moment system t (suc k)) page
      ≡ with_bytes (page_bytes (moment system t k) page) 0 (page_bytes (moment system t k) taken)

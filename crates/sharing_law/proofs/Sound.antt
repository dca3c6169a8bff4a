-- Worlds whose book and environments agree.
use Rattle.std.proofs.Common.{◌≡◌, ◌≤◌, ℕ, List, Bool, true, false, Option, None, refl, sym, ◌∙◌, arith}
use Rattle.std.proofs.lemmas.Grind.{common_steps}
use Rattle.std.proofs.lemmas.Bool.{eq-eqb, eqb-true}
use Rattle.page_book.specs.declared.row.PageRow.{PageRow}
use Rattle.page_book.specs.declared.row.PageRow.TheVariants.{Free}
use Rattle.page_book.specs.Row.{is_owned_by}
use Rattle.bind_book.specs.declared.binding.Binding.{Binding}
use Rattle.bind_book.specs.Stripe.{is_bound}
use Rattle.world_model.specs.declared.life.Life.TheVariants.{Dead}
use Rattle.world_model.specs.declared.life.Cause.{Cause}
use Rattle.world_model.specs.Solo.{Solo, bytes_seen}
use Rattle.world_model.specs.PageCalls.{page_bytes}
use Rattle.world_model.specs.World.{World}
use Rattle.page_laws.specs.Sight.{IsStripe, Sees, seen_if}
use Rattle.page_laws.proofs.Sights.{HasNone, nothing_seen}
use Rattle.page_laws.proofs.Stripes.{bound_row}
use Rattle.sharing_law.specs.Agreement.{AreAgreed, AreBoundAllocated, IsAllocated}

-- who has no bindings and owns no page sees nothing
pub sees_nothing : (i : ℕ) (pages : ℕ → PageRow) (stripe : ℕ → Option Binding) (bytes : ℕ → List ℕ) (s : Solo) → HasNone i pages stripe → ((row : ℕ) → s.binds row ≡ None) → ((page : ℕ) → s.seen page ≡ None) → Sees i pages stripe bytes s
sees_nothing i pages stripe bytes s none binds seen = grind (arith, common_steps, nothing_seen)

-- and had nothing to see before
pub still_nothing : (i : ℕ) (pages rows : ℕ → PageRow) (stripe binds : ℕ → Option Binding) (bytes now : ℕ → List ℕ) (s : Solo) → HasNone i pages stripe → HasNone i rows binds → Sees i pages stripe bytes s → Sees i rows binds now s
still_nothing i pages rows stripe binds bytes now s before after seen =
    let blank : Sees i pages stripe bytes (record s { binds = λ row. None; seen = λ page. None }) = sees_nothing i pages stripe bytes (record s { binds = λ row. None; seen = λ page. None }) before (λ row. refl) (λ page. refl) in
    sees_nothing i rows binds now s after (λ row. seen.binds row ∙ sym (blank.binds row)) (λ page. seen.seen page ∙ sym (blank.seen page))

-- The book and the environments agree; and who isn't alive has nothing in the book.
pub record Sound (w : World) : Type 0 where
  pub agreed : AreAgreed w
  pub none : (i : ℕ) (cause : Cause) → (w.solos i).life ≡ Dead cause → HasNone i w.book.pages (w.book.binds i)
  pub stripes : (i : ℕ) → IsStripe (w.book.binds i)
  pub behind : (page : ℕ) → w.book.page_count ≤ page → w.book.pages page ≡ Free

-- The bytes of a page are those that its owner sees.
module _ (w : World) (bytes : ℕ → List ℕ) (sees : (i : ℕ) → Sees i w.book.pages (w.book.binds i) bytes (w.solos i)) where
  seen_owned : (owned bound : Bool) (its : List ℕ) → owned ≡ true → bytes_seen (seen_if owned bound its) ≡ its
  seen_owned true bound its is = refl
  seen_owned false bound its is = cc

  pub owner_bytes : (o page : ℕ) → is_owned_by o (w.book.pages page) ≡ true → page_bytes w page ≡ bytes page
  owner_bytes o page owns = grind (arith, common_steps, seen_owned, eq-eqb)

  -- where no page is bound that isn't allocated, all see the bytes that the owners see
  module _ (allocated : AreBoundAllocated w) where
    allocated_bytes : (page : ℕ) (row : PageRow) → w.book.pages page ≡ row → IsAllocated row → page_bytes w page ≡ bytes page
    allocated_bytes page row is its = grind (arith, common_steps, owner_bytes, eq-eqb)

    bound_bytes : (i page : ℕ) → is_bound page (w.book.binds i) ≡ true → page_bytes w page ≡ bytes page
    bound_bytes i page bound = grind (arith, common_steps, bound_row, eqb-true, allocated_bytes)

    seen_same : (i page : ℕ) (owned bound : Bool) → is_owned_by i (w.book.pages page) ≡ owned → is_bound page (w.book.binds i) ≡ bound → seen_if owned bound (bytes page) ≡ seen_if owned bound (page_bytes w page)
    seen_same i page owned bound owns binds = grind (arith, common_steps, owner_bytes, bound_bytes)

    pub agreed : AreAgreed w
    agreed i = grind (arith, common_steps, seen_same)

-- What an environment sees of the pages that it owns or has bound, by the books and by what stands in physical memory.
use Rattle.std.specs.Prelude.{◌≡◌, ◌≤◌, ℕ, Bool, ◌||◌, if◌then◌else◌, List, Option, Some, None}
use Rattle.page_book.specs.declared.row.PageRow.{PageRow}
use Rattle.page_book.specs.Row.{is_owned_by}
use Rattle.bind_book.specs.declared.binding.Binding.{Binding}
use Rattle.bind_book.specs.Stripe.{is_bound}
use Rattle.aegis_limits.specs.Limits.{most_stripe_rows}
use Rattle.world_model.specs.Solo.{Solo, Seen}

-- a page is seen if it is owned or bound
abbrev pub seen_if : Bool → Bool → List ℕ → Option Seen
seen_if owned bound bytes = if owned || bound then Some (record { owned = owned; bytes = bytes }) else None

-- what an environment sees of a page, by whose the pages are, by its stripe, and by the bytes of the pages
abbrev pub seen_in : ℕ → (ℕ → PageRow) → (ℕ → Option Binding) → (ℕ → List ℕ) → ℕ → Option Seen
seen_in e pages stripe bytes page = seen_if (is_owned_by e (pages page)) (is_bound page stripe) (bytes page)

-- a stripe has nothing behind its last row
abbrev pub IsStripe : (ℕ → Option Binding) → Type 0
IsStripe stripe = (row : ℕ) → most_stripe_rows ≤ row → stripe row ≡ None

-- an environment has just the bindings of its stripe, and sees just the pages that it owns or has bound
pub record Sees (e : ℕ) (pages : ℕ → PageRow) (stripe : ℕ → Option Binding) (bytes : ℕ → List ℕ)
    (s : Solo) : Type 0 where
  pub binds : (row : ℕ) → s.binds row ≡ stripe row
  pub seen : (page : ℕ) → s.seen page ≡ seen_in e pages stripe bytes page

-- Marks of pages, by which it is known where rows may stand that lead to a page.
use Rattle.std.specs.Prelude.{◌≡◌, ◌==◌, if◌then◌else◌, ℕ, Bool, false, true, List, Option, None, slice_index_or}
use Rattle.bind_book.specs.declared.binding.Binding.{Binding}
use Rattle.bind_book.specs.declared.mark.Mark.{Mark}
use Rattle.bind_book.specs.declared.mark.Mark.TheVariants.{Nowhere, At, Anywhere}
use Rattle.bind_book.specs.Stripe.{is_of_page}

-- a page's mark
abbrev pub mark_of : List Mark → ℕ → Mark
mark_of marks page = slice_index_or marks page Nowhere

-- whether a row that leads to a page of this mark may stand at a place
abbrev pub may_stand : Mark → ℕ → Bool
may_stand Nowhere place = false
may_stand (At at) place = at == place
may_stand Anywhere place = true

-- the mark once a row at one more place may lead to the page
abbrev pub marked_too : Mark → ℕ → Mark
marked_too Nowhere place = At place
marked_too (At at) place = if at == place then At at else Anywhere
marked_too Anywhere place = Anywhere

-- rows that lead to the page stand where this mark says
abbrev pub IsMarked : Mark → ℕ → List (Option Binding) → Type 0
IsMarked mark page rows =
    (place : ℕ) → is_of_page page (slice_index_or rows place None) ≡ true → may_stand mark place ≡ true

-- so it is for each page; a mark may say more places than there are such rows
abbrev pub AreMarked : List Mark → List (Option Binding) → Type 0
AreMarked marks rows = (page : ℕ) → IsMarked (mark_of marks page) page rows

-- What a page's row says of who may do what with it.
use Rattle.std.specs.Prelude.{ℕ, Bool, true, false, not, ◌==◌, ◌&&◌, ◌||◌, if◌then◌else◌, Option, Some, None, Result, Ok, Err}
use Rattle.page_book.specs.declared.row.Capabilities.{Capabilities}
use Rattle.page_book.specs.declared.row.PageRow.{PageRow}
use Rattle.page_book.specs.declared.row.PageRow.TheVariants.{Free, Guaranteed, Owned}
use Rattle.page_book.specs.declared.refusal.PageNo.{PageNo}
use Rattle.page_book.specs.declared.refusal.PageNo.TheVariants as no

abbrev pub is_free : PageRow → Bool
is_free Free = true
is_free (Guaranteed owner) = false
is_free (Owned owner words) = false

abbrev pub is_guaranteed : PageRow → Bool
is_guaranteed Free = false
is_guaranteed (Guaranteed owner) = true
is_guaranteed (Owned owner words) = false

abbrev pub owner_of : PageRow → Option ℕ
owner_of Free = None
owner_of (Guaranteed owner) = Some owner
owner_of (Owned owner words) = Some owner

-- whether the page is this environment's, guaranteed or not
abbrev pub belongs_to : ℕ → PageRow → Bool
belongs_to e Free = false
belongs_to e (Guaranteed owner) = owner == e
belongs_to e (Owned owner words) = owner == e

-- whether the environment owns the page, and may free it
abbrev pub is_owned_by : ℕ → PageRow → Bool
is_owned_by e Free = false
is_owned_by e (Guaranteed owner) = false
is_owned_by e (Owned owner words) = owner == e

-- a word gives the right to write if it is the write word, and the right to read if it is either; the word 0 gives none
abbrev pub gives_right : Capabilities → Bool → ℕ → Bool
gives_right words writable word = not (word == 0) && (word == words.write || (not writable && word == words.read))

-- why the page with this row, if there is one, can't be allocated
abbrev pub alloc_refusal : Option PageRow → Option PageNo
alloc_refusal None = Some no.NoPage
alloc_refusal (Some Free) = None
alloc_refusal (Some (Guaranteed owner)) = Some no.Taken
alloc_refusal (Some (Owned owner words)) = Some no.Taken

-- why an environment can't free the page, or give it other words
abbrev pub change_refusal : ℕ → Option PageRow → Option PageNo
change_refusal e None = Some no.NoPage
change_refusal e (Some Free) = Some no.NotOwner
change_refusal e (Some (Guaranteed owner)) = Some (if owner == e then no.Guaranteed else no.NotOwner)
change_refusal e (Some (Owned owner words)) = if owner == e then None else Some no.NotOwner

-- why an environment that presents a word can't bind the page: its own guaranteed pages it has already, and a free
-- page or another's guaranteed one has no words
abbrev pub bind_refusal : ℕ → Bool → ℕ → Option PageRow → Option PageNo
bind_refusal e writable word None = Some no.NoPage
bind_refusal e writable word (Some Free) = Some no.NoRight
bind_refusal e writable word (Some (Guaranteed owner)) = Some (if owner == e then no.Guaranteed else no.NoRight)
bind_refusal e writable word (Some (Owned owner words)) =
    if owner == e || gives_right words writable word then None else Some no.NoRight

-- the row once its owner is gone
abbrev pub released : ℕ → PageRow → PageRow
released e row = if belongs_to e row then Free else row

-- the answer of a call that is refused for this cause, if there is one
abbrev pub unless : Option PageNo → Result (Unit {0}) PageNo
unless None = Ok tt
unless (Some why) = Err why

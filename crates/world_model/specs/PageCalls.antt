-- The calls on pages: who may allocate, free and bind them, and what the others are given of it.
use Rattle.std.specs.Prelude.{ℕ, List, [], ◌∷◌, Bool, true, false, ◌==◌, nat_le, if◌then◌else◌, Option, Some, None, is_some}
use Rattle.std.specs.Option.{option_map, option_or}
use Rattle.aegis_limits.specs.Limits.{vpn_end}
use Rattle.aegis_limits.specs.declared.version.Version.{Version}
use Rattle.aegis_limits.specs.declared.version.Version.TheVariants.{One, Two}
use Rattle.frame_store.specs.Pages.{zero_page}
use Rattle.mips_exec.specs.declared.registers.Cpu.{Cpu}
use Rattle.mips_exec.specs.Cpu.{reg}
use Rattle.page_book.specs.declared.row.Capabilities.{Capabilities}
use Rattle.page_book.specs.declared.row.PageRow.{PageRow}
use Rattle.page_book.specs.declared.row.PageRow.TheVariants.{Free, Guaranteed, Owned}
use Rattle.page_book.specs.Row.{alloc_refusal, bind_refusal, change_refusal}
use Rattle.page_book.specs.Rows.{lowest_free}
use Rattle.bind_book.specs.declared.binding.Binding.{Binding}
use Rattle.bind_book.specs.Stripe.{binding_at, is_bound, row_of}
use Rattle.world_model.specs.declared.code.Code.{Code}
use Rattle.world_model.specs.declared.code.Code.TheVariants as code
use Rattle.world_model.specs.Table.{set_at}
use Rattle.world_model.specs.Code.{code_of}
use Rattle.filter_tree.specs.Claims.{is_into}
use Rattle.revocation_book.specs.Pending.{lowered}
use Rattle.revocation_book.specs.Backups.{unloaded}
use Rattle.revocation_book.specs.Richest.{richest}
use Rattle.revocation_book.specs.Takings.{Books}
use Rattle.world_model.specs.Book.{Book, withdrawn, without_bindings_of, page_row, sees}
use Rattle.world_model.specs.Call.{any, binding_of, presented}
use Rattle.world_model.specs.Solo.{Solo, Store, Key, Kept, Physical, bytes_seen, kept_at}
use Rattle.world_model.specs.Item.{Item, Gained, Lost, Left}
use Rattle.world_model.specs.World.{World, Reply, only, no_items}
use Rattle.world_model.specs.declared.verdict.Verdict.{Verdict}
use Rattle.world_model.specs.declared.verdict.Verdict.TheVariants.{Refuse, Again, Grant}
use Rattle.world_model.specs.Answer.{granted_unless}

-- Breaks. An environment that has bound a page loses it
abbrev pub lost_if : Bool → ℕ → List Item
lost_if true page = Lost page ∷ []
lost_if false page = []

-- what each environment but the owner is given where all bindings of a page are broken
abbrev pub lost_bindings : Book → ℕ → ℕ → List Item
lost_bindings b page e = lost_if (is_bound page (b.binds e)) page

-- what the book says of pages, of what is pending, and of backups
abbrev pub revocations : Book → Books
revocations b = record { pages = b.pages; page_count = b.page_count; pending = b.pending; backups = b.backups }

-- Allocation of any page: the lowest free one. Where none is free, version 2 asks the other environment with the most
-- revocable pages for one, if another has any.
abbrev pub pressed : Version → Option ℕ → Verdict
pressed One richest = Refuse code.NoneFree 0
pressed Two None = Refuse code.NoneFree 0
pressed Two (Some who) = Again who

abbrev pub any_page : Version → Option ℕ → Option ℕ → Verdict
any_page v None richest = pressed v richest
any_page v (Some page) richest = Grant page

-- Allocation: the named page, if it is free, or any; the value is its number.
abbrev pub alloc : World → ℕ → Verdict
alloc w e =
    let b = w.book in let page = reg (w.solos e).cpu 4 in
    if page == any then any_page b.version (lowest_free b.pages b.page_count) (richest (revocations b) e)
    else granted_unless (option_map code_of (alloc_refusal (page_row b page))) page

-- the caller owns the page, which holds zeros
abbrev pub allocates : World → ℕ → ℕ → Capabilities → Reply
allocates w e page words = record {
  book = record w.book { pages = set_at page (Owned e words) w.book.pages };
  items = only e (Gained page true zero_page ∷ []);
  rows = [];
}

-- Free and recap are for a page's owner.
abbrev pub refusal_of_change : World → ℕ → ℕ → Option Code
refusal_of_change w e page = option_map code_of (change_refusal e (page_row w.book page))

abbrev pub free : World → ℕ → Verdict
free w e = granted_unless (refusal_of_change w e (reg (w.solos e).cpu 4)) 0

-- the book once a page is nobody's: the bindings of it are broken, and the claims whose ring it is are withdrawn
abbrev pub freed : ℕ → Book → Book
freed page b = withdrawn (is_into page) (without_bindings_of page None (record b { pages = set_at page Free b.pages }))

-- the page is nobody's and no backup any more, whoever had it bound loses it, and one page fewer is outstanding
abbrev pub frees : World → ℕ → ℕ → Reply
frees w e page = record {
  book = record (freed page w.book) {
    pending = set_at e (lowered (w.book.pending e)) w.book.pending;
    backups = set_at e (unloaded page (w.book.backups e)) w.book.backups;
  };
  items = set_at e (Lost page ∷ []) (lost_bindings w.book page);
  rows = [];
}

abbrev pub recap : World → ℕ → Verdict
recap w e = granted_unless (refusal_of_change w e (reg (w.solos e).cpu 4)) 0

-- the page has other words, and whoever but its owner had it bound loses it
abbrev pub recaps : World → ℕ → ℕ → Capabilities → Reply
recaps w e page words = record {
  book = without_bindings_of page (Some e) (record w.book { pages = set_at page (Owned e words) w.book.pages });
  items = set_at e [] (lost_bindings w.book page);
  rows = [];
}

-- why nothing is bound or unbound at a VPN: it is none of a user's, or guaranteed
abbrev pub vpn_refusal : Bool → ℕ → Option Code
vpn_refusal guaranteed vpn =
    if nat_le vpn_end vpn then Some code.BadVpn else (if guaranteed then Some code.Guaranteed else None)

-- whether a page is guaranteed at a VPN
abbrev pub is_guaranteed_vpn : Solo → ℕ → Bool
is_guaranteed_vpn s vpn = is_some (kept_at s.kept vpn)

-- Bind: why it is refused, in the order of testing, to a caller to whom the VPN is guaranteed or not, where the page
-- has this row
abbrev pub refusal_of_bind : ℕ → Cpu → Bool → Option PageRow → Option Code
refusal_of_bind e cpu guaranteed row =
    option_or (vpn_refusal guaranteed (reg cpu 4))
    (option_map code_of (bind_refusal e (binding_of cpu).writable (presented cpu) row))

abbrev pub bind : World → ℕ → Verdict
bind w e =
    let s = w.solos e
    in granted_unless (refusal_of_bind e s.cpu (is_guaranteed_vpn s (reg s.cpu 4)) (page_row w.book (reg s.cpu 5))) 0

-- the bytes of a page, as its owner sees them
abbrev pub bytes_owned : World → ℕ → PageRow → List ℕ
bytes_owned w page Free = []
bytes_owned w page (Guaranteed owner) = []
bytes_owned w page (Owned owner words) = bytes_seen ((w.solos owner).seen page)

abbrev pub page_bytes : World → ℕ → List ℕ
page_bytes w page = bytes_owned w page (w.book.pages page)

-- the binding takes the place of the one in its row
abbrev pub with_binding : Version → ℕ → Binding → (ℕ → ℕ → Option Binding) → ℕ → ℕ → Option Binding
with_binding v e b binds = set_at e (set_at (row_of v b.vpn) (Some b) (binds e)) binds

abbrev pub binds_to : World → ℕ → Binding → Reply
binds_to w e b = record {
  book = record w.book { binds = with_binding (w.solos e).version e b w.book.binds };
  items = only e (Gained b.page b.writable (page_bytes w b.page) ∷ []);
  rows = [];
}

-- Unbind: the value is 1 if the VPN was bound.
abbrev pub unbind : Solo → Verdict
unbind s = granted_unless (vpn_refusal (is_guaranteed_vpn s (reg s.cpu 4)) (reg s.cpu 4))
    (if is_some (binding_at s.version s.binds (reg s.cpu 4)) then 1 else 0)

-- a stripe without the binding of a VPN, if there is one
abbrev pub without_number : Version → ℕ → (ℕ → Option Binding) → ℕ → Option Binding
without_number v vpn stripe = if is_some (binding_at v stripe vpn) then set_at (row_of v vpn) None stripe else stripe

abbrev pub unbinds : World → ℕ → ℕ → Reply
unbinds w e vpn = record {
  book = record w.book { binds = set_at e (without_number (w.solos e).version vpn (w.book.binds e)) w.book.binds };
  items = no_items;
  rows = [];
}

-- A store into a page that isn't guaranteed is left to every other that owns the page or has bound it.
abbrev pub left_if : Bool → ℕ → Store → List Item
left_if true page x = Left page x.offset x.bytes ∷ []
left_if false page x = []

abbrev pub left_at : Book → ℕ → Store → Key → ℕ → List Item
left_at b writer x (Kept vpn) e = []
left_at b writer x (Physical page) e = if e == writer then [] else left_if (sees b e page) page x

abbrev pub left_by : Book → ℕ → Store → ℕ → List Item
left_by b writer x e = left_at b writer x x.key e

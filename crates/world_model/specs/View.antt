-- What is lent of a world to be read.
use Rattle.std.specs.Prelude.{ℕ, List, if◌then◌else◌, Option, Some, None}
use Rattle.world_model.specs.declared.view.MappedView.{MappedView}
use Rattle.world_model.specs.declared.view.PageView.{PageView}
use Rattle.world_model.specs.Page.{KeptPage, Mapped}
use Rattle.world_model.specs.Solo.{Seen}

-- a page that is lent
abbrev pub view_seen : PageView → KeptPage
view_seen v = record { vpn = v.vpn; writable = v.writable; bytes = v.bytes.now }

-- a page at a VPN that is lent
abbrev pub mapped_seen : MappedView → Mapped
mapped_seen v = record { writable = v.writable; bytes = v.bytes.now }

-- the bytes of a page that an environment sees, if it owns the page
abbrev pub owned_bytes : Option Seen → Option (List ℕ)
owned_bytes None = None
owned_bytes (Some x) = if x.owned then Some x.bytes else None

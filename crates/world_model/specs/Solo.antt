-- One environment alone: a lonely flat machine.
use Rattle.std.specs.Prelude.{ℕ, ◌/◌, ◌%◌, List, [], find, map, Bool, true, false, ◌==◌, if◌then◌else◌, Option, Some, None}
use Rattle.std.specs.Option.{option_map, option_or}
use Rattle.aegis_limits.specs.Limits.{page_size}
use Rattle.aegis_limits.specs.declared.version.Version.{Version}
use Rattle.aegis_limits.specs.declared.version.Version.TheVariants as version
use Rattle.mips_exec.specs.declared.registers.Cpu.{Cpu}
use Rattle.mips_exec.specs.Cpu.{blank_cpu}
use Rattle.mips_exec.specs.Access.{Write}
use Rattle.frame_store.specs.Pages.{with_bytes}
use Rattle.env_frames.specs.declared.context.Handlers.{Handlers}
use Rattle.env_frames.specs.Context.{no_handlers}
use Rattle.bind_book.specs.declared.binding.Binding.{Binding}
use Rattle.packet_ring.specs.declared.buffer.Buffer.{Buffer}
use Rattle.bind_book.specs.Stripe.{binding_at}
use Rattle.world_model.specs.declared.life.Life.{Life}
use Rattle.world_model.specs.declared.life.Life.TheVariants.{Live, Dead}
use Rattle.world_model.specs.declared.life.Cause.{Cause}
use Rattle.world_model.specs.Page.{KeptPage, Mapped}

-- what an environment sees of a page that isn't guaranteed to it: whether it owns the page, and the bytes
pub record Seen : Type 0 where
  pub owned : Bool
  pub bytes : List ℕ

-- a claim of the environment's: its number, its ring, which is the page into which its packets go, the buffer of the
-- ring whose turn is next, and the words of its handler, if it has one
pub record Ring : Type 0 where
  pub claim : ℕ
  pub page : ℕ
  pub next : Buffer
  pub handler : Option (List ℕ)

-- The version of its image, number, name, life, registers, handlers, the mask of those from whom it accepts yields and transfers, guaranteed
-- pages by rising VPN, the binding in each row of its stripe, each other page that it owns or has bound by its number
-- in physical memory, its claims, console, and the packets that it sent.
pub record Solo : Type 0 where
  pub version : Version
  pub number : ℕ
  pub name : List ℕ
  pub life : Life
  pub cpu : Cpu
  pub handlers : Handlers
  pub mask : ℕ
  pub kept : List KeptPage
  pub binds : ℕ → Option Binding
  pub seen : ℕ → Option Seen
  pub rings : List Ring
  pub console : List ℕ
  pub sent : List (List ℕ)

abbrev pub nothing_bound : ℕ → Option Binding
nothing_bound row = None

abbrev pub nothing_seen : ℕ → Option Seen
nothing_seen page = None

-- an environment with this version, number, name, life, console and sent packets that has nothing else
abbrev pub bare_solo : Version → ℕ → List ℕ → Life → List ℕ → List (List ℕ) → Solo
bare_solo version number name life console sent = record {
  version = version;
  number = number;
  name = name;
  life = life;
  cpu = blank_cpu;
  handlers = no_handlers;
  mask = 0;
  kept = [];
  binds = nothing_bound;
  seen = nothing_seen;
  rings = [];
  console = console;
  sent = sent;
}

-- an environment that the image lacks, whose version tells nothing
abbrev pub absent : ℕ → Solo
absent e = bare_solo version.One e [] Live [] []

-- a dead environment keeps its version, number, name, console and sent packets, and has nothing else
abbrev pub dead : Cause → Solo → Solo
dead cause s = bare_solo s.version s.number s.name (Dead cause) s.console s.sent

abbrev pub is_dead : Life → Bool
is_dead Live = false
is_dead (Dead cause) = true

-- the name of a page among those of an environment: a guaranteed one goes by its VPN, each other by its number in
-- physical memory
pub data Key : Type 0 where
  Kept : (vpn : ℕ) → Key
  Physical : (page : ℕ) → Key

-- where a VPN leads: to a page of the environment's, which may be stored to or not
pub record Place : Type 0 where
  pub key : Key
  pub writable : Bool

-- the guaranteed page at a VPN
abbrev pub kept_at : List KeptPage → ℕ → Option KeptPage
kept_at kept vpn = find (λ p. p.vpn == vpn) kept

abbrev pub place_at : ℕ → KeptPage → Place
place_at vpn p = record { key = Kept vpn; writable = p.writable }

abbrev pub bound_place : Binding → Place
bound_place b = record { key = Physical b.page; writable = b.writable }

-- where a VPN leads: to the guaranteed page there, else to the page that is bound there
abbrev pub leads : Solo → ℕ → Option Place
leads s vpn =
    option_or (option_map (place_at vpn) (kept_at s.kept vpn))
    (option_map bound_place (binding_at s.version s.binds vpn))

abbrev pub bytes_in : Option KeptPage → List ℕ
bytes_in None = []
bytes_in (Some p) = p.bytes

abbrev pub bytes_seen : Option Seen → List ℕ
bytes_seen None = []
bytes_seen (Some x) = x.bytes

-- the bytes of a page
abbrev pub bytes_of : Solo → Key → List ℕ
bytes_of s (Kept vpn) = bytes_in (kept_at s.kept vpn)
bytes_of s (Physical page) = bytes_seen (s.seen page)

abbrev pub mapped : Solo → Place → Mapped
mapped s place = record { writable = place.writable; bytes = bytes_of s place.key }

-- what an environment sees at a VPN
abbrev pub sight : Solo → ℕ → Option Mapped
sight s vpn = option_map (mapped s) (leads s vpn)

-- a store: bytes at an offset of a page of the environment's
pub record Store : Type 0 where
  pub key : Key
  pub offset : ℕ
  pub bytes : List ℕ

abbrev pub store_through : Write → Place → Store
store_through w place = record { key = place.key; offset = w.address % page_size; bytes = w.bytes }

-- the store of what a step writes goes to where the VPN leads
abbrev pub store_of : Solo → Option Write → Option Store
store_of s None = None
store_of s (Some w) = option_map (store_through w) (leads s (w.address / page_size))

abbrev pub is_key_of : KeptPage → Key → Bool
is_key_of p (Kept vpn) = p.vpn == vpn
is_key_of p (Physical page) = false

-- a page with the bytes of a store in it
abbrev pub stored_page : Store → KeptPage → KeptPage
stored_page x p = record p { bytes = with_bytes p.bytes x.offset x.bytes }

-- a store changes the page that it names
abbrev pub kept_page_after : Store → KeptPage → KeptPage
kept_page_after x p = if is_key_of p x.key then stored_page x p else p

-- the guaranteed pages after a store
abbrev pub kept_after : List KeptPage → Store → List KeptPage
kept_after kept x = map (kept_page_after x) kept

abbrev pub is_physical : ℕ → Key → Bool
is_physical page (Kept vpn) = false
is_physical page (Physical named) = named == page

abbrev pub stored_sight : Store → Seen → Seen
stored_sight x s = record s { bytes = with_bytes s.bytes x.offset x.bytes }

-- what is seen of a page after a store
abbrev pub sight_after : Store → ℕ → Option Seen → Option Seen
sight_after x page seen = if is_physical page x.key then option_map (stored_sight x) seen else seen

-- the environment after a store
abbrev pub with_store : Store → Solo → Solo
with_store x s = record s { kept = kept_after s.kept x; seen = λ page. sight_after x page (s.seen page) }

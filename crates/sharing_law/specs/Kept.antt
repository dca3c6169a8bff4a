-- The book's guaranteed mappings are the environments' guaranteed pages.
use Rattle.std.specs.Prelude.{◌≡◌, ◌≤◌, ℕ, Bool, [], map, sum_by, Option, Some, slice_get}
use Rattle.std.specs.Option.{option_map, option_or}
use Rattle.boot_image.specs.ImageValue.{ImageValue, guaranteed_mappings}
use Rattle.env_frames.specs.declared.mapping.Mapping.{Mapping}
use Rattle.env_frames.specs.Frame.{mapping_at}
use Rattle.page_book.specs.declared.row.PageRow.TheVariants.{Guaranteed}
use Rattle.bind_book.specs.declared.binding.Binding.{Binding}
use Rattle.bind_book.specs.Stripe.{binding_at}
use Rattle.world_model.specs.declared.life.Cause.{Cause}
use Rattle.world_model.specs.declared.life.Life.TheVariants.{Dead}
use Rattle.world_model.specs.Book.{Book}
use Rattle.world_model.specs.Page.{KeptPage}
use Rattle.world_model.specs.Solo.{Kept, Place, bound_place, leads}
use Rattle.world_model.specs.World.{World}
use Rattle.run_model.specs.Run.{System, moment}

-- an image has the pages that it guarantees to its environments, as each image that is accepted
abbrev pub HasGuaranteedPages : ImageValue → Type 0
HasGuaranteedPages image = sum_by guaranteed_mappings image.programs ≤ image.pages

-- where a guaranteed page stands, and whether it may be stored to
pub record KeptAt : Type 0 where
  pub vpn : ℕ
  pub writable : Bool

abbrev pub mapping_place : Mapping → KeptAt
mapping_place m = record { vpn = m.vpn; writable = m.writable }

abbrev pub page_place : KeptPage → KeptAt
page_place p = record { vpn = p.vpn; writable = p.writable }

-- The book's mappings of an environment are its guaranteed pages, one by one, at the same VPNs and in the same modes;
-- each leads to a page that is guaranteed to it, and no other mapping, its own or another's, leads there; and the dead
-- have none.
pub record AreKept (w : World) : Type 0 where
  pub places : (e : ℕ) → map mapping_place (w.book.kept e) ≡ map page_place (w.solos e).kept
  pub rows : (e j : ℕ) (m : Mapping) → slice_get (w.book.kept e) j ≡ Some m → w.book.pages m.page ≡ Guaranteed e
  pub apart : (e f j k : ℕ) (m n : Mapping) → slice_get (w.book.kept e) j ≡ Some m
      → slice_get (w.book.kept f) k ≡ Some n
      → m.page ≡ n.page → (e ≡ f) × (j ≡ k)
  pub none : (e : ℕ) (cause : Cause) → (w.solos e).life ≡ Dead cause → w.book.kept e ≡ []

-- So it is at each moment.
abbrev pub KeptAgree : Type 0
KeptAgree = (system : System) (t k : ℕ) → HasGuaranteedPages system.image → AreKept (moment system t k)

-- Where a VPN of an environment leads by the book: to this page of physical memory, and to this place of the
-- environment's.
pub record BookPlace : Type 0 where
  pub page : ℕ
  pub place : Place

abbrev pub by_mapping : ℕ → Mapping → BookPlace
by_mapping vpn m = record { page = m.page; place = record { key = Kept vpn; writable = m.writable } }

abbrev pub by_binding : Binding → BookPlace
by_binding b = record { page = b.page; place = bound_place b }

abbrev pub leads_by_book : Book → ℕ → ℕ → Option BookPlace
leads_by_book b e vpn =
    option_or (option_map (by_mapping vpn) (mapping_at (b.kept e) vpn))
    (option_map by_binding (binding_at b.version (b.binds e) vpn))

-- That is where it leads by the environment alone.
abbrev pub LeadsAgree : Type 0
LeadsAgree = (system : System) (t k e vpn : ℕ) → HasGuaranteedPages system.image
    → (let w = moment system t k in option_map (λ (p : BookPlace). p.place) (leads_by_book w.book e vpn)
    ≡ leads (w.solos e) vpn)

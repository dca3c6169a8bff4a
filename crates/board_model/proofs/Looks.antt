-- Where VPNs lead is what an environment sees there.
use Rattle.std.proofs.Common.{◌≡◌, ℕ, ◌<◌, List, length, true, Option, Some, None, refl, sym, ◌∙◌, ap, rules}
use Rattle.std.specs.Option.{option_map, option_or}
use Rattle.frame_store.specs.Pages.{page_at}
use Rattle.page_book.specs.declared.row.PageRow.{PageRow}
use Rattle.aegis_limits.specs.declared.version.Version.{Version}
use Rattle.bind_book.specs.declared.binding.Binding.{Binding}
use Rattle.bind_book.specs.Stripe.{binding_at, is_bound}
use Rattle.env_frames.specs.declared.mapping.Mapping.{Mapping}
use Rattle.env_frames.specs.Frame.{mapping_at}
use Rattle.guest_memory.specs.Look.{bound_mapping, look, look_through, mapping_in}
use Rattle.world_model.specs.Solo.{Solo, place_at, bound_place, kept_at, leads, bytes_in, sight, mapped}
use Rattle.page_laws.specs.Sight.{seen_in}
use Rattle.board_model.specs.Showing.{page_seen, pages_seen}
use Rattle.board_model.proofs.Pages.{AreInside, page_there, seen_kept, placed}

module _ (v : Version) (frames : List (List ℕ)) (e : ℕ) (pages : ℕ → PageRow) (stripe : ℕ → Option Binding) (ms : List Mapping) (s : Solo)
    (kept : s.kept ≡ pages_seen frames ms) (binds : s.binds ≡ stripe) (seen : s.seen ≡ seen_in e pages stripe (page_at frames)) (version : s.version ≡ v) where
  kept_is : (vpn : ℕ) → kept_at s.kept vpn ≡ option_map (page_seen frames) (mapping_at ms vpn)
  kept_is vpn = ap (λ ps. kept_at ps vpn) kept ∙ seen_kept frames ms vpn

  pub leads_by : (vpn : ℕ) → leads s vpn ≡ option_or (option_map (place_at vpn) (option_map (page_seen frames) (mapping_at ms vpn))) (option_map bound_place (binding_at v stripe vpn))
  leads_by vpn = search (rules, kept_is)

  by_binding : (vpn : ℕ) (y : Option Binding) → ((x : Binding) → y ≡ Some x → (x.page < length frames) × (is_bound x.page stripe ≡ true)) →
      look_through frames (option_map bound_mapping y) ≡ option_map (mapped s) (option_map bound_place y)
  by_binding vpn y there = search (rules, page_there)

  by_mapping : (vpn : ℕ) (m : Option Mapping) → mapping_at ms vpn ≡ m → AreInside frames ms → ((x : Binding) → binding_at v stripe vpn ≡ Some x → (x.page < length frames) × (is_bound x.page stripe ≡ true)) →
      look_through frames (option_or m (option_map bound_mapping (binding_at v stripe vpn))) ≡ option_map (mapped s) (option_or (option_map (place_at vpn) (option_map (page_seen frames) m)) (option_map bound_place (binding_at v stripe vpn)))
  by_mapping vpn None is inside there = by_binding vpn (binding_at v stripe vpn) there
  by_mapping vpn (Some m) is inside there =
      let at = placed ms vpn m is in
      ap (option_map (λ bytes. record { writable = m.writable; bytes = bytes })) (page_there frames m.page (inside at.0 m at.1.place))
      ∙ ap (λ (bs : List ℕ). Some (record { writable = m.writable; bytes = bs })) (sym (ap bytes_in (kept_is vpn ∙ ap (option_map (page_seen frames)) is)))

  pub seen_look : (vpn : ℕ) → AreInside frames ms → ((x : Binding) → binding_at v stripe vpn ≡ Some x → (x.page < length frames) × (is_bound x.page stripe ≡ true)) →
      look frames (mapping_in v ms stripe) vpn ≡ sight s vpn
  seen_look vpn inside there = by_mapping vpn (mapping_at ms vpn) refl inside there ∙ ap (option_map (mapped s)) (sym (leads_by vpn))

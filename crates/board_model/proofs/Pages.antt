-- What a store does to the pages that environments see.
use Rattle.std.proofs.Common.{◌≡◌, ◌≢◌, ℕ, zero, suc, ◌/◌, ◌%◌, ◌<◌, List, [], ◌∷◌, length, Bool, true, false, Some, refl, sym, ◌∙◌, ap, arith, get_or-set_same, get_or-set_other, rules}
use Rattle.std.specs.Prelude.{◌==◌, if◌then◌else◌, slice_get, slice_index}
use Rattle.std.specs.Option.{option_map}
use Rattle.std.proofs.lemmas.Bool.{eqb-true, eqb-false}
use Rattle.mips_exec.specs.Access.{Write}
use Rattle.aegis_limits.specs.Limits.{page_size}
use Rattle.frame_store.specs.Pages.{page_at, after_put, with_bytes}
use Rattle.env_frames.specs.declared.mapping.Mapping.{Mapping}
use Rattle.env_frames.specs.Frame.{mapping_at, numbers, IsRising}
use Rattle.world_model.specs.Solo.{Kept, Store, kept_at, kept_after, stored_page}
use Rattle.board_model.specs.Showing.{page_seen, pages_seen}

-- each mapping leads to a page that physical memory has
abbrev pub AreInside : List (List ℕ) → List Mapping → Type 0
AreInside frames ms = (a : ℕ) (m : Mapping) → slice_get ms a ≡ Some m → m.page < length frames

-- a page within physical memory
pub page_there : (frames : List (List ℕ)) (n : ℕ) → n < length frames → slice_get frames n ≡ Some (page_at frames n)
page_there [] n within = absurd (omega arith)
page_there (x ∷ frames) zero within = refl
page_there (x ∷ frames) (suc n) within = page_there frames n (omega arith)

-- the page that an environment sees at a VPN is that of its mapping
pub seen_kept : (frames : List (List ℕ)) (ms : List Mapping) (v : ℕ) → kept_at (pages_seen frames ms) v ≡ option_map (page_seen frames) (mapping_at ms v)
seen_kept frames [] v = refl
seen_kept frames (m ∷ ms) v =
    elim (m.vpn == v) as (λ here. (if here then Some (page_seen frames m) else kept_at (pages_seen frames ms) v) ≡ option_map (page_seen frames) (if here then Some m else mapping_at ms v)) [
      | true ↦ refl
      | false ↦ seen_kept frames ms v
    ]

-- the store of a write, at the page that its VPN names
abbrev pub its_store : Write → Store
its_store w = record { key = Kept (w.address / page_size); offset = w.address % page_size; bytes = w.bytes }

-- Which pages a store changes: the one that its VPN leads to, and no other.
pub record IsStruck (v p : ℕ) (m : Mapping) : Type 0 where
  pub here : m.vpn ≡ v → m.page ≡ p
  pub elsewhere : m.vpn ≢ v → m.page ≢ p

module _ (frames : List (List ℕ)) (w : Write) (p : ℕ) (within : p < length frames) where
  head_by : (m : Mapping) (test : Bool) → (m.vpn == w.address / page_size) ≡ test → IsStruck (w.address / page_size) p m → page_seen (after_put frames p (w.address % page_size) w.bytes) m ≡ (if test then stored_page (its_store w) (page_seen frames m) else page_seen frames m)
  head_by m true is struck = search (rules, eqb-true, get_or-set_same)
  head_by m false is struck = search (rules, eqb-false, get_or-set_other)

  pub stored_own : (ms : List Mapping) → ((a : ℕ) (m : Mapping) → slice_get ms a ≡ Some m → IsStruck (w.address / page_size) p m) → pages_seen (after_put frames p (w.address % page_size) w.bytes) ms ≡ kept_after (pages_seen frames ms) (its_store w)
  stored_own [] struck = refl
  stored_own (m ∷ ms) struck =
      let head = head_by m (m.vpn == w.address / page_size) refl (struck 0 m refl) in
      let tail = stored_own ms (λ a n. struck (suc a) n) in
      cc

  pub stored_else : (ms : List Mapping) → ((a : ℕ) (m : Mapping) → slice_get ms a ≡ Some m → m.page ≢ p) → pages_seen (after_put frames p (w.address % page_size) w.bytes) ms ≡ pages_seen frames ms
  stored_else [] other = refl
  stored_else (m ∷ ms) other =
      let head : page_seen (after_put frames p (w.address % page_size) w.bytes) m ≡ page_seen frames m =
      ap (λ (bytes : List ℕ). record { vpn = m.vpn; writable = m.writable; bytes = bytes })
      (get_or-set_other frames p m.page (with_bytes (page_at frames p) (w.address % page_size) w.bytes) [] (other 0 m refl)) in
      let tail = stored_else ms (λ a n. other (suc a) n) in
      cc

-- the place of the mapping that a VPN has
pub record IsAt (ms : List Mapping) (v k : ℕ) (m : Mapping) : Type 0 where
  pub place : slice_get ms k ≡ Some m
  pub number : m.vpn ≡ v

pub placed : (ms : List Mapping) (v : ℕ) (m : Mapping) → mapping_at ms v ≡ Some m → (k : ℕ) × IsAt ms v k m
placed [] v m is = cc
placed (n ∷ ms) v m is = by_test (n.vpn == v) refl is (λ found. placed ms v m found)
  where
    by_test : (test : Bool) → (n.vpn == v) ≡ test → (if test then Some n else mapping_at ms v) ≡ Some m → (mapping_at ms v ≡ Some m → (k : ℕ) × IsAt ms v k m) → (k : ℕ) × IsAt (n ∷ ms) v k m
    by_test true here found further = let same : n ≡ m = cc in (0, record { place = ap Some same; number = ap (λ (x : Mapping). x.vpn) (sym same) ∙ eqb-true n.vpn v here })
    by_test false differs found further = let there = further found in (suc there.0, record { place = there.1.place; number = there.1.number })

-- the VPN of a mapping at a place
pub number_at : (ms : List Mapping) (a : ℕ) (m : Mapping) → slice_get ms a ≡ Some m → (a < length (numbers ms)) × (slice_index (numbers ms) a ≡ m.vpn)
number_at [] a m is = cc
number_at (n ∷ ms) zero m is = let same : n ≡ m = cc in (omega arith, ap (λ (x : Mapping). x.vpn) same)
number_at (n ∷ ms) (suc a) m is = let there = number_at ms a m is in (omega (arith, there.0), there.1)

-- where VPNs rise, a VPN has one place
pub one_place : (ms : List Mapping) (a b : ℕ) (m n : Mapping) → IsRising (numbers ms) → slice_get ms a ≡ Some m → slice_get ms b ≡ Some n → m.vpn ≡ n.vpn → a ≡ b
one_place ms a b m n rising at_a at_b same = search (rules, number_at)

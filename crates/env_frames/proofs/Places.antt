-- A VPN leads to the one mapping that has it.
use Rattle.std.proofs.Common.{◌≡◌, ◌≢◌, ℕ, zero, suc, ◌+◌, ◌<◌, ◌≤◌, List, [], ◌∷◌, length, Some, None, refl, ap, arith}
use Rattle.std.specs.Prelude.{false, slice_index, slice_index_or}
use Rattle.std.proofs.lemmas.Bool.{ne_eqb, eq-eqb}
use Rattle.env_frames.specs.declared.mapping.Mapping.{Mapping}
use Rattle.env_frames.specs.Frame.{mapping_at, numbers, IsRising}

-- any mapping will do where a list is read within its length
abbrev pub no_mapping : Mapping
no_mapping = record { vpn = 0; page = 0; writable = false }

-- the VPN of the mapping at a place
pub number_at : (ms : List Mapping) (i : ℕ) (d : Mapping) → i < length ms → (slice_index_or ms i d).vpn ≡ slice_index (numbers ms) i
number_at [] i d within = absurd (omega arith)
number_at (m ∷ ms) zero d within = refl
number_at (m ∷ ms) (suc i) d within = number_at ms i d (omega arith)

-- a VPN that no mapping has leads nowhere
pub leads_nowhere : (ms : List Mapping) (v : ℕ) → ((k : ℕ) → k < length ms → slice_index (numbers ms) k ≢ v) → mapping_at ms v ≡ None
leads_nowhere [] v differs = refl
leads_nowhere (m ∷ ms) v differs =
    rw (ne_eqb m.vpn v (differs 0 (omega arith))) (leads_nowhere ms v (λ k h. differs (suc k) (omega arith)))

-- the first mapping with a VPN is the one it leads to
first_leads : (ms : List Mapping) (v i : ℕ) (d : Mapping) → i < length ms → slice_index (numbers ms) i ≡ v → ((k : ℕ) → k < i → slice_index (numbers ms) k ≢ v) → mapping_at ms v ≡ Some (slice_index_or ms i d)
first_leads [] v i d within here before = absurd (omega arith)
first_leads (m ∷ ms) v zero d within here before = rw (eq-eqb m.vpn v here)
first_leads (m ∷ ms) v (suc i) d within here before =
    rw (ne_eqb m.vpn v (before 0 (omega arith))) (first_leads ms v i d (omega arith) here (λ k h. before (suc k) (omega arith)))

length-numbers : (ms : List Mapping) → length (numbers ms) ≡ length ms
length-numbers [] = refl
length-numbers (m ∷ ms) = ap suc (length-numbers ms)

-- where VPNs rise, a mapping with a VPN is the first
pub leads_to : (ms : List Mapping) (v i : ℕ) (d : Mapping) → IsRising (numbers ms) → i < length ms → slice_index (numbers ms) i ≡ v → mapping_at ms v ≡ Some (slice_index_or ms i d)
leads_to ms v i d rising within here =
    first_leads ms v i d within here (λ k before same. let below = rising k i before (omega (arith, length-numbers ms)) in omega arith)

-- where VPNs rise, those up to a mapping below a VPN are below it too
pub below_as_far : (ms : List Mapping) (v i : ℕ) (d : Mapping) → IsRising (numbers ms) → i < length ms → (slice_index_or ms i d).vpn < v → (k : ℕ) → k < i + 1 → slice_index (numbers ms) k < v
below_as_far ms v i d rising within below k so_far =
    let here = number_at ms i d within in
    let all = length-numbers ms in
    grind (arith, rising k i)

-- and those from a mapping above it on are above it
pub above_from : (ms : List Mapping) (v i : ℕ) (d : Mapping) → IsRising (numbers ms) → i < length ms → v < (slice_index_or ms i d).vpn → (k : ℕ) → i ≤ k → k < length ms → v < slice_index (numbers ms) k
above_from ms v i d rising within above k from k_within =
    let here = number_at ms i d within in
    let all = length-numbers ms in
    grind (arith, rising i k)

-- Where VPNs rise, a VPN leads to the mapping that has it.
use Rattle.std.proofs.Common.{◌≡◌, ◌≢◌, ℕ, zero, suc, ◌<◌, List, [], ◌∷◌, length, Some, refl, ap, arith}
use Rattle.std.specs.Prelude.{slice_index, slice_index_or}
use Rattle.std.proofs.lemmas.Bool.{ne_eqb, eq-eqb}
use Rattle.env_frames.specs.declared.mapping.Mapping.{Mapping}
use Rattle.env_frames.specs.Frame.{IsRising, mapping_at, numbers}

number_at : (ms : List Mapping) (i : ℕ) (d : Mapping) → i < length ms → (slice_index_or ms i d).vpn ≡ slice_index (numbers ms) i
number_at [] i d within = absurd (omega arith)
number_at (m ∷ ms) zero d within = refl
number_at (m ∷ ms) (suc i) d within = number_at ms i d (omega arith)

-- the first mapping with a VPN is the one it leads to
first_leads : (ms : List Mapping) (v i : ℕ) (d : Mapping) → i < length ms → slice_index (numbers ms) i ≡ v → ((k : ℕ) → k < i → slice_index (numbers ms) k ≢ v) → mapping_at ms v ≡ Some (slice_index_or ms i d)
first_leads [] v i d within here before = absurd (omega arith)
first_leads (m ∷ ms) v zero d within here before = rw (eq-eqb m.vpn v here)
first_leads (m ∷ ms) v (suc i) d within here before =
    rw (ne_eqb m.vpn v (before 0 (omega arith))) (first_leads ms v i d (omega arith) here (λ k h. before (suc k) (omega arith)))

length-numbers : (ms : List Mapping) → length (numbers ms) ≡ length ms
length-numbers [] = refl
length-numbers (m ∷ ms) = ap suc (length-numbers ms)

pub leads_to : (ms : List Mapping) (v i : ℕ) (d : Mapping) → IsRising (numbers ms) → i < length ms → (slice_index_or ms i d).vpn ≡ v → mapping_at ms v ≡ Some (slice_index_or ms i d)
leads_to ms v i d rising within here =
    let number = number_at ms i d within in
    first_leads ms v i d within (omega (arith, number, here)) (λ k before same. let below = rising k i before (omega (arith, length-numbers ms)) in omega arith)

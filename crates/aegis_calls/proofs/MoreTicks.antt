-- Plain ticks behind plain ticks.
use Rattle.std.proofs.Common.{◌≡◌, ◌<◌, ◌⊎◌, inl, inr, ℕ, zero, suc, ◌+◌, ◌-◌, Option, Some, None, refl, sym, ◌∙◌, ap, subst, arith, add-zero, add-suc}
use Rattle.std.specs.Option.{option_map}
use Rattle.mips_exec.specs.declared.exception.Outcome.TheVariants as outcome
use Rattle.mips_exec.specs.Step.{outcome_of}
use Rattle.env_frames.specs.declared.mapping.Mapping.{Mapping}
use Rattle.guest_memory.specs.Steps.{Machine, after_steps, next_step, stepped_by}
use Rattle.slot_vector.specs.Slices.{Slices, after_ticks}
use Rattle.tlb_model.specs.Cache.{Cache}
use Rattle.tlb_course.specs.Course.{cache_after_ticks}
use Rattle.tlb_course.specs.Further.{CachesGoOn}
use Rattle.world_model.specs.declared.slot.Runner.{Runner}
use Rattle.world_model.specs.World.{World}
use Rattle.board_model.specs.Doing.{lookup_of}
use Rattle.board_model.specs.Shown.{Shown}
use Rattle.board_model.specs.Showing.{world_of}
use Rattle.board_model.specs.Sound.{HasRunner}
use Rattle.board_model.specs.Stretch.{ArePlain, IsQuiet, StretchShowsModel, machine_of, stretched}
use Rattle.aegis_calls.specs.Cached.{AreCachedTicks, stretched_with}
use Rattle.aegis_calls.proofs.Stretched.{left_on}

steps_further : (lookup : ℕ → Option Mapping) (m : Machine) (j k : ℕ) → after_steps lookup (after_steps lookup m j) k ≡ after_steps lookup m (j + k)
steps_further lookup m j zero = ap (after_steps lookup m) (sym (add-zero j))
steps_further lookup m j (suc k) =
    ap (λ (n : Machine). stepped_by lookup n (next_step lookup n)) (steps_further lookup m j k) ∙ ap (after_steps lookup m) (sym (add-suc j k))

less_left : (left j k : ℕ) → (left - j) - k ≡ left - (j + k)
less_left left j k = omega arith

passed_further : (j k : ℕ) (o : Option Runner) → option_map (λ (r : Runner). record r { left = r.left - k }) (option_map (λ (r : Runner). record r { left = r.left - j }) o) ≡ option_map (λ (r : Runner). record r { left = r.left - (j + k) }) o
passed_further j k None = refl
passed_further j k (Some r) = ap (λ n. Some (record r { left = n })) (less_left r.left j k)

slots_further : (j k : ℕ) (v : Slices) → after_ticks k (after_ticks j v) ≡ after_ticks (j + k) v
slots_further j k v = ap (λ (o : Option Runner). record v { runner = o }) (passed_further j k v.runner)

time_further : (t j k : ℕ) → (t + j) + k ≡ t + (j + k)
time_further t j k = omega arith

pub ticks_further : (b : Shown) (e j k : ℕ) (c tlb : Cache) → stretched_with (stretched_with b e j c) e k tlb ≡ stretched_with b e (j + k) tlb
ticks_further b e j k c tlb =
    let steps = steps_further (lookup_of b e) (machine_of b) j k in
    let slots = slots_further j k b.slots in
    let time = time_further b.time j k in
    λ i. record b { frames = (steps i).frames; cpu = (steps i).cpu; slots = slots i; time = time i; tlb = tlb }

below_or_beyond : (i j k : ℕ) → i < j + k → (i < j) ⊎ ((i - j < k) × (j + (i - j) ≡ i))
below_or_beyond i j k h = grind arith

pub plain_further : (b : Shown) (e j k : ℕ) (c : Cache) → ArePlain b e j → ArePlain (stretched_with b e j c) e k → ArePlain b e (j + k)
plain_further b e j k c first then =
    let left = left_on j b.slots.runner in
    record {
      retire = record { each = λ i less. by_place i (below_or_beyond i j k less) };
      left = omega (arith, first.left, then.left, left);
      early = omega (arith, first.early, then.early);
    }
  where
    by_place : (i : ℕ) → (i < j) ⊎ ((i - j < k) × (j + (i - j) ≡ i)) → outcome_of (next_step (lookup_of b e) (after_steps (lookup_of b e) (machine_of b) i)) ≡ outcome.Retired
    by_place i (inl below) = first.retire.each i below
    by_place i (inr beyond) =
        ap (λ (m : Machine). outcome_of (next_step (lookup_of b e) m)) (ap (after_steps (lookup_of b e) (machine_of b)) (sym beyond.1) ∙ sym (steps_further (lookup_of b e) (machine_of b) j (i - j)))
        ∙ then.retire.each (i - j) beyond.0

-- what they make of the TLB
pub caches_further : StretchShowsModel → CachesGoOn → (b now : Shown) (e j k : ℕ) (c : Cache) → HasRunner b e → ArePlain b e j
    → AreCachedTicks b (stretched_with b e j c) j → AreCachedTicks (stretched_with b e j c) now k → AreCachedTicks b now (j + k)
caches_further world on b now e j k c has plain first then = λ schedule quiet.
    let early : IsQuiet schedule b.time (b.time + j) = record { nothing = λ t from until. quiet.nothing t from (omega arith) } in
    let late : IsQuiet schedule (b.time + j) ((b.time + j) + k) = record { nothing = λ t from until. quiet.nothing t (omega arith) (omega arith) } in
    then schedule late
    ∙ ap (λ (w : World). cache_after_ticks schedule w k c) (world b e j schedule has plain early)
    ∙ ap (cache_after_ticks schedule _ k) (first schedule early)
    ∙ on schedule (world_of b) j k b.tlb

-- ---- a board, one behind so many ticks, and one behind so many more

-- what is said with any TLB is said with its own
pub with_its_tlb : (b now : Shown) (e k : ℕ) → now ≡ stretched b e k → now ≡ stretched_with b e k now.tlb
with_its_tlb b now e k after = after ∙ ap (stretched_with b e k) (sym (ap (λ (s : Shown). s.tlb) after))

module _ (b v now : Shown) (e j k : ℕ) (first : v ≡ stretched_with b e j v.tlb) where
  pub board_further : now ≡ stretched_with v e k now.tlb → now ≡ stretched_with b e (j + k) now.tlb
  board_further then = then ∙ ap (λ (s : Shown). stretched_with s e k now.tlb) first ∙ ticks_further b e j k v.tlb now.tlb

  pub all_plain : ArePlain b e j → ArePlain v e k → ArePlain b e (j + k)
  all_plain early late = plain_further b e j k v.tlb early (subst (λ (s : Shown). ArePlain s e k) first late)

  pub all_cached : StretchShowsModel → CachesGoOn → HasRunner b e → ArePlain b e j → AreCachedTicks b v j → AreCachedTicks v now k → AreCachedTicks b now (j + k)
  all_cached world on has plain early late =
      caches_further world on b now e j k v.tlb has plain (subst (λ (s : Shown). AreCachedTicks b s j) first early) (subst (λ (s : Shown). AreCachedTicks s now k) first late)

-- no tick makes nothing of the TLB
pub none_cached : (b v now : Shown) (j k : ℕ) → k ≡ 0 → AreCachedTicks b v j → AreCachedTicks v now k → AreCachedTicks b now j
none_cached b v now j k none early late = λ schedule quiet.
    (subst (λ n. AreCachedTicks v now n) none late) schedule (record { nothing = λ t from until. absurd (omega arith) }) ∙ early schedule quiet

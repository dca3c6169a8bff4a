-- A row that is refilled for plain ticks, and one that was refilled in vain and is put back.
use Rattle.std.proofs.Common.{◌≡◌, ◌≢◌, ◌<◌, ℕ, zero, suc, ◌+◌, ◌-◌, ◌*◌, ◌/◌, ◌^◌, List, [], ◌∷◌, true, false, Option, Some, None, refl, sym, ◌∙◌, ap, subst, arith, rules, add-zero}
use Rattle.std.specs.Prelude.{is_some, slice_index_or, slice_set}
use Rattle.std.specs.Option.{option_map}
use Rattle.std.proofs.lemmas.List.{set-set}
use Rattle.aegis_limits.specs.Limits.{environment_numbers, page_size, vpn_end}
use Rattle.mips_exec.specs.Step.{Step, outcome_of}
use Rattle.mips_exec.specs.declared.exception.Outcome.TheVariants as outcome
use Rattle.mips_step.specs.WordStep.{has_retired}
use Rattle.env_frames.specs.declared.mapping.Mapping.{Mapping}
use Rattle.r3k_cp0.specs.declared.registers.Cp0.{Cp0}
use Rattle.r3k_cp0.specs.Random.{fallen, fallen_times}
use Rattle.r3k_cp0.specs.Registers.{blank_cp0, current_pid}
use Rattle.tlb_model.specs.Cache.{row_for, with_fills, with_random_fallen, with_refill}
use Rattle.tlb_model.specs.Lookups.{first_missing, mapping_of_miss}
use Rattle.tlb_course.specs.Course.{cache_after_ticks}
use Rattle.tlb_laws.specs.Laws.{MissesRefill, Refills, RightRefill}
use Rattle.world_model.specs.declared.slot.Runner.{Runner}
use Rattle.world_model.specs.Event.{Schedule}
use Rattle.board_model.specs.Doing.{lookup_of, step_seen}
use Rattle.board_model.specs.Refilling.{fills_after_refill, is_kept_by, refill_of, rows_after_miss, vpns_of, with_refilled}
use Rattle.board_model.specs.Shown.{Shown, mappings_of}
use Rattle.board_model.proofs.Refills.{lookup_number, refilled_rows, runs_for}
use Rattle.board_model.proofs.Staying.{sound_tlb}
use Rattle.board_acts.specs.Parts.{space_in}
use Rattle.guest_memory.specs.Space.{SpaceValue, lookup}
use Rattle.r3k_tlb.specs.declared.row.Row.{Row}
use Rattle.r3k_tlb.specs.Rows.{with_row_at}
use Rattle.tlb_model.specs.declared.fills.Fills.{Fills}
use Rattle.board_model.specs.Showing.{world_of}
use Rattle.board_model.specs.Sound.{HasRunner, IsSoundBoard, RowsAgree}
use Rattle.board_model.specs.Stretch.{ArePlain, IsQuiet, StretchIsSteady, StretchShowsModel, stretched}
use Rattle.aegis_calls.specs.Cached.{FindRows, EndsStretch, IsOfMiss, IsStuck}
use Rattle.aegis_calls.proofs.Plain.{refilled_falls}

-- Random falls behind the ticks as before them
fallen_first : (r k : ℕ) → fallen (fallen_times r k) ≡ fallen_times (fallen r) k
fallen_first r zero = refl
fallen_first r (suc k) = ap fallen (fallen_first r k)

no_retirement : (step : Step) → has_retired step ≡ false → outcome_of step ≡ outcome.Retired → ⊥
no_retirement step not is = search rules

-- the board once a row is refilled, and before Random falls
abbrev pub with_row : Shown → ℕ → Mapping → Shown
with_row b e m = record b { tlb = record (with_refilled b e m).tlb { random = b.tlb.random } }

-- If the next step was stuck, and the row lets it retire, it is the row of its miss.
pub refilled_ticks : StretchShowsModel → StretchIsSteady → RightRefill → (b : Shown) (e k : ℕ) (m : Mapping) (schedule : Schedule) → 0 < k → e < environment_numbers
    → HasRunner b e → IsSoundBoard (with_refilled b e m) → IsStuck b e → lookup_of b e m.vpn ≡ Some m → ArePlain (with_row b e m) e k → FindRows (with_row b e m) e k
    → IsQuiet schedule b.time (b.time + k) → with_random_fallen (stretched (with_row b e m) e k).tlb ≡ cache_after_ticks schedule (world_of b) k b.tlb
refilled_ticks world steady right b e zero m schedule some small has sound stuck leads plain finds quiet = absurd (omega (arith, some))
refilled_ticks world steady right b e (suc k) m schedule some small has sound stuck leads plain finds quiet =
    let missed : first_missing b.tlb.rows e (vpns_of b e) ≢ None = λ found. no_retirement (step_seen b e) (stuck found) (plain.retire.each 0 (omega arith)) in
    let next : refill_of b e ≡ Some m =
    ap (mapping_of_miss (lookup_of b e)) (right e (vpns_of b e) b.tlb.rows b.tlb.random m small missed (finds.each 0 (omega arith))) ∙ leads in
    let c = (stretched (with_row b e m) e (suc k)).tlb in
    (λ i. record c { random = fallen_first b.tlb.random (suc k) i })
    ∙ refilled_falls world steady b e k m schedule has (record { sound = sound; runs = has.runs }) (record { retire = plain.retire; left = plain.left; early = plain.early }) next
    (record { each = finds.each }) quiet

-- ---- no tick

less_none : (n : ℕ) → n - 0 ≡ n
less_none n = omega arith

all_left : (o : Option Runner) → option_map (λ (r : Runner). record r { left = r.left - 0 }) o ≡ o
all_left None = refl
all_left (Some r) = ap (λ n. Some (record r { left = n })) (less_none r.left)

pub no_ticks : (b : Shown) (e : ℕ) → stretched b e 0 ≡ b
no_ticks b e =
    let left = all_left b.slots.runner in
    let time = add-zero b.time in
    λ i. record b { slots = record b.slots { runner = left i }; time = time i }

put_back_by : {X : Type 0} (xs : List X) (i : ℕ) (d : X) → slice_set xs i (slice_index_or xs i d) ≡ xs
put_back_by [] i d = refl
put_back_by (x ∷ xs) zero d = refl
put_back_by (x ∷ xs) (suc i) d = ap (λ ys. x ∷ ys) (put_back_by xs i d)

-- what stood there is put back
pub put_back : {X : Type 0} (xs : List X) (i : ℕ) (y d : X) → slice_set (slice_set xs i y) i (slice_index_or xs i d) ≡ xs
put_back xs i y d = set-set xs i y (slice_index_or xs i d) ∙ put_back_by xs i d

-- ---- the row that is refilled

-- the mapping that it is for
pub record IsFor (b : Shown) (e vpn : ℕ) (now : Shown) : Type 0 where
  pub mapping : Mapping
  pub there : lookup_of b e vpn ≡ Some mapping
  pub leads : lookup_of b e mapping.vpn ≡ Some mapping
  pub board : now ≡ with_row b e mapping

some_of : (o : Option Mapping) → is_some o ≡ true → (x : Mapping) × (o ≡ Some x)
some_of None h = search rules
some_of (Some x) h = (x, refl)

none_of : (o : Option Mapping) → is_some o ≡ false → o ≡ None
none_of None h = refl
none_of (Some x) h = search rules

-- what is refilled of a VPN that leads somewhere, by the environment's space
module _ (b : Shown) (e vpn random : ℕ) (space : SpaceValue) (rows : List Row) (fills : List Fills) (is : space ≡ space_in b.binds b.roster.list e)
    (rows_are : rows ≡ rows_after_miss random space.number (lookup space vpn) b.tlb.rows)
    (fills_are : fills ≡ fills_after_refill (is_kept_by space.mappings vpn) space.number (lookup space vpn) b.tlb.fills) where
  rows_now : rows ≡ rows_after_miss random e (lookup_of b e vpn) b.tlb.rows
  rows_now = rows_are ∙ ap (λ (x : SpaceValue). rows_after_miss random x.number (lookup x vpn) b.tlb.rows) is

  fills_now : fills ≡ fills_after_refill (is_kept_by (mappings_of b.roster.list e) vpn) e (lookup_of b e vpn) b.tlb.fills
  fills_now = fills_are ∙ ap (λ (x : SpaceValue). fills_after_refill (is_kept_by x.mappings vpn) x.number (lookup x vpn) b.tlb.fills) is

  pub refilled_is_sound : IsSoundBoard b → e < environment_numbers → vpn < vpn_end → IsSoundBoard (record b { tlb = record { rows = rows; random = b.tlb.random; fills = fills } })
  refilled_is_sound sound small below =
      let agree = refilled_rows b e random vpn (lookup_of b e vpn) sound small below refl in
      sound_tlb (record { rows = rows; random = b.tlb.random; fills = fills }) (subst (RowsAgree b.frames b.roster.list b.binds) (sym rows_now) agree) sound

  pub is_for : random ≡ b.tlb.random → is_some (lookup space vpn) ≡ true → IsFor b e vpn (record b { tlb = record { rows = rows; random = b.tlb.random; fills = fills } })
  is_for named there =
      let x = some_of (lookup_of b e vpn) (sym (ap (λ (x : SpaceValue). is_some (lookup x vpn)) is) ∙ there) in
      let at : vpn ≡ x.0.vpn = sym (lookup_number b e vpn x.0 x.1) in
      let rows_with : rows ≡ with_row_at b.tlb.rows b.tlb.random (row_for e x.0) =
      rows_now ∙ ap (λ o. rows_after_miss random e o b.tlb.rows) x.1 ∙ ap (λ r. with_row_at b.tlb.rows r (row_for e x.0)) named in
      let fills_with : fills ≡ with_fills (with_refill (is_kept_by (mappings_of b.roster.list e) x.0.vpn)) e b.tlb.fills =
      fills_now ∙ ap (λ o. fills_after_refill (is_kept_by (mappings_of b.roster.list e) vpn) e o b.tlb.fills) x.1
      ∙ ap (λ v. with_fills (with_refill (is_kept_by (mappings_of b.roster.list e) v)) e b.tlb.fills) at in
      record {
        mapping = x.0;
        there = x.1;
        leads = ap (lookup_of b e) (sym at) ∙ x.1;
        board = λ i. record b { tlb = record { rows = rows_with i; random = b.tlb.random; fills = fills_with i } };
      }

  -- nothing is, of one that leads nowhere
  pub not_refilled : is_some (lookup space vpn) ≡ false
      → (lookup_of b e vpn ≡ None) × (record b { tlb = record { rows = rows; random = b.tlb.random; fills = fills } } ≡ b)
  not_refilled nowhere =
      let none = none_of (lookup_of b e vpn) (sym (ap (λ (x : SpaceValue). is_some (lookup x vpn)) is) ∙ nowhere) in
      let rows_kept = rows_now ∙ ap (λ o. rows_after_miss random e o b.tlb.rows) none in
      let fills_kept = fills_now ∙ ap (λ o. fills_after_refill (is_kept_by (mappings_of b.roster.list e) vpn) e o b.tlb.fills) none in
      (none, (λ i. record b { tlb = record b.tlb { rows = rows_kept i; fills = fills_kept i } }))

-- ---- a step that ends a stretch

-- coprocessor 0 in user mode, for an environment
abbrev for_user : ℕ → Cp0
for_user e = record blank_cp0 { entry_hi = e * 2 ^ 6; status = 2 }

has_pid : (e : ℕ) → e < environment_numbers → current_pid (for_user e) ≡ e
has_pid e small = omega (arith, small)

none_or_some : (o : Option ℕ) → (P : Type 0) → (o ≡ None → P) → ((vpn : ℕ) → o ≡ Some vpn → P) → P
none_or_some None P none some = none refl
none_or_some (Some vpn) P none some = some vpn refl

-- a step of a sound board that misses, and whose VPN leads nowhere, doesn't retire
module _ (misses : MissesRefill) (b : Shown) (e : ℕ) (sound : IsSoundBoard b) (small : e < environment_numbers) (vpn : ℕ) (missing : first_missing b.tlb.rows e (vpns_of b e) ≡ Some vpn) where
  refills : Refills (lookup_of b e) (for_user e) b.tlb.rows b.frames b.cpu vpn
  refills = misses (lookup_of b) e (for_user e) b.tlb.rows b.frames b.cpu vpn (runs_for b e (for_user e) sound small (has_pid e small) refl) missing

  pub missed_below : vpn < vpn_end
  missed_below = subst (λ n. n < vpn_end) refills.at (omega (arith, refills.user))

  pub missed_traps : lookup_of b e vpn ≡ None → has_retired (step_seen b e) ≡ false
  missed_traps none = ap has_retired (refills.flat none)

-- where the page of the address leads nowhere
pub ends_nowhere : MissesRefill → (b : Shown) (e address : ℕ) → IsSoundBoard b → e < environment_numbers → IsStuck b e → IsOfMiss b e (Some address)
    → (address / page_size < vpn_end → lookup_of b e (address / page_size) ≡ None) → EndsStretch b e
ends_nowhere misses b e address sound small stuck its nowhere =
    none_or_some (first_missing b.tlb.rows e (vpns_of b e)) (EndsStretch b e)
    (λ found. record { settled = λ none. stuck found; refilled = λ m some. absurd (none_is_some (sym (ap (mapping_of_miss (lookup_of b e)) found) ∙ some)) })
    (λ vpn missing.
    let at : address / page_size ≡ vpn = some_same (its vpn missing) in
    let none : lookup_of b e vpn ≡ None = ap (lookup_of b e) (sym at) ∙ nowhere (subst (λ n. n < vpn_end) (sym at) (missed_below misses b e sound small vpn missing)) in
    record {
      settled = λ no_refill. missed_traps misses b e sound small vpn missing none;
      refilled = λ m some. absurd (none_is_some (sym none ∙ sym (ap (mapping_of_miss (lookup_of b e)) missing) ∙ some));
    })
  where
    none_is_some : {m : Mapping} → None ≡ Some m → ⊥
    none_is_some is = cc

    some_same : {x y : ℕ} → Some x ≡ Some y → x ≡ y
    some_same is = cc

-- where nothing is wanted
pub ends_unwanted : (b : Shown) (e : ℕ) → IsStuck b e → IsOfMiss b e None → EndsStretch b e
ends_unwanted b e stuck its =
    none_or_some (first_missing b.tlb.rows e (vpns_of b e)) (EndsStretch b e)
    (λ found. record { settled = λ none. stuck found; refilled = λ m some. absurd (none_is_some (sym (ap (mapping_of_miss (lookup_of b e)) found) ∙ some)) })
    (λ vpn missing. absurd (none_is_number (its vpn missing)))
  where
    none_is_some : {m : Mapping} → None ≡ Some m → ⊥
    none_is_some is = cc

    none_is_number : {x : ℕ} → None ≡ Some x → ⊥
    none_is_number is = cc

-- where its row was refilled in vain
pub ends_in_vain : (b : Shown) (e address : ℕ) (m : Mapping) → IsStuck b e → IsOfMiss b e (Some address) → lookup_of b e (address / page_size) ≡ Some m
    → IsStuck (with_row b e m) e → EndsStretch b e
ends_in_vain b e address m stuck its leads vain =
    none_or_some (first_missing b.tlb.rows e (vpns_of b e)) (EndsStretch b e)
    (λ found. record { settled = λ none. stuck found; refilled = λ x some. absurd (none_is_some (sym (ap (mapping_of_miss (lookup_of b e)) found) ∙ some)) })
    (λ vpn missing.
    let at : address / page_size ≡ vpn = some_same (its vpn missing) in
    let next : refill_of b e ≡ Some m = ap (mapping_of_miss (lookup_of b e)) missing ∙ ap (lookup_of b e) (sym at) ∙ leads in
    record {
      settled = λ none. absurd (none_is_some (sym none ∙ next));
      refilled = λ x some. subst (λ (y : Mapping). IsStuck (with_refilled b e y) e) (mapping_same (sym next ∙ some)) vain;
    })
  where
    none_is_some : {x : Mapping} → None ≡ Some x → ⊥
    none_is_some is = cc

    some_same : {x y : ℕ} → Some x ≡ Some y → x ≡ y
    some_same is = cc

    mapping_same : {x y : Mapping} → Some x ≡ Some y → x ≡ y
    mapping_same is = cc

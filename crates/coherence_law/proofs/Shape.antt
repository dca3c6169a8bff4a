-- How many rows there are, which Random names, and that no two fit one pair: whatever is emptied and refilled.
use Rattle.std.proofs.Common.{◌≡◌, ◌≢◌, ◌/◌, ◌%◌, ◌^◌, ◌<◌, ◌≤◌, ℕ, zero, suc, List, [], ◌∷◌, length, replicate, Bool, true, false, Option, Some, None, is_none, find, inl, inr, refl, sym, ◌∙◌, ap, arith, rules, length-set, get_or-set_same, get_or-set_other}
use Rattle.std.proofs.lemmas.Bool.{cases_eq, eq-eqb}
use Rattle.std.proofs.lemmas.List.{length-map, length-replicate}
use Rattle.std.specs.Prelude.{◌-◌, ◌==◌, if◌then◌else◌, slice_index_or}
use Rattle.aegis_limits.specs.Limits.{environment_numbers, vpn_end}
use Rattle.env_frames.specs.declared.mapping.Mapping.{Mapping}
use Rattle.r3k_tlb.specs.declared.row.Row.{Row}
use Rattle.r3k_tlb.specs.Row.{emptied_row, fits, hi_word_of, lo_word_of}
use Rattle.r3k_tlb.specs.Rows.{emptied_if, emptied_where, row_at, row_count, with_row_at}
use Rattle.r3k_cp0.specs.Random.{fallen, first_random, random_end}
use Rattle.tlb_model.specs.Cache.{Cache, boot_cache, refilled, row_for, with_forwarded, with_random_fallen}
use Rattle.tlb_model.specs.Flushes.{Flush, all_flushed, flushed, flushed_all, is_flushed}
use Rattle.tlb_model.specs.Lookups.{attempted, has_no_row, is_missed, mapping_of_miss, next_refill, settled, settled_by}
use Rattle.mips_exec.specs.Step.{Step}

-- no two rows fit one pair
abbrev pub AreApart : List Row → Type 0
AreApart rows = (i j e vpn : ℕ) → vpn < vpn_end → fits vpn e (row_at rows i) ≡ true → fits vpn e (row_at rows j) ≡ true → i ≡ j

pub record IsShaped (c : Cache) : Type 0 where
  pub count : length c.rows ≡ row_count
  pub random : (first_random ≤ c.random) × (c.random < random_end)
  pub apart : AreApart c.rows

-- ---- what rows fit

vpn_in : (vpn e : ℕ) → e < 32 → hi_word_of vpn e / 2 ^ 12 ≡ vpn
vpn_in vpn e small = grind arith

pid_in : (vpn e : ℕ) → e < 32 → hi_word_of vpn e / 2 ^ 6 % 2 ^ 6 ≡ e
pid_in vpn e small = grind arith

local_low : (page : ℕ) (w : Bool) → lo_word_of page w / 2 ^ 8 % 2 ≡ 0
local_low page true = grind arith
local_low page false = grind arith

-- a row for a mapping fits its VPN and environment alone
fits_own : (vpn e f : ℕ) (m : Mapping) → f < 32 → fits vpn e (row_for f m) ≡ true → (m.vpn ≡ vpn) × (f ≡ e)
fits_own vpn e f m small h = search (rules, vpn_in, pid_in, local_low)

-- an emptied row fits no user's VPN
fits_none : (vpn e : ℕ) → vpn < vpn_end → fits vpn e emptied_row ≡ true → ⊥
fits_none vpn e below h = grind arith

-- ---- at boot

at_emptied : (n i : ℕ) → slice_index_or (replicate n emptied_row) i emptied_row ≡ emptied_row
at_emptied zero i = refl
at_emptied (suc n) zero = refl
at_emptied (suc n) (suc i) = at_emptied n i

pub boot_shape : IsShaped boot_cache
boot_shape = record {
  count = length-replicate row_count emptied_row;
  random = (omega arith, omega arith);
  apart = λ i j e vpn below first second. absurd (fits_none vpn e below (ap (fits vpn e) (sym (at_emptied row_count i)) ∙ first));
}

-- ---- rows are emptied

emptied_stays : (b : Bool) → (if b then emptied_row else emptied_row) ≡ emptied_row
emptied_stays true = refl
emptied_stays false = refl

at_where : (test : Row → Bool) (rows : List Row) (i : ℕ) → row_at (emptied_where test rows) i ≡ emptied_if test (row_at rows i)
at_where test [] i = sym (emptied_stays (test emptied_row))
at_where test (row ∷ rows) zero = refl
at_where test (row ∷ rows) (suc i) = at_where test rows i

fitted : (vpn e : ℕ) (row : Row) (b : Bool) → vpn < vpn_end → fits vpn e (if b then emptied_row else row) ≡ true → fits vpn e row ≡ true
fitted vpn e row true below is = absurd (fits_none vpn e below is)
fitted vpn e row false below is = is

apart_where : (test : Row → Bool) (rows : List Row) → AreApart rows → AreApart (emptied_where test rows)
apart_where test rows apart i j e vpn below first second =
    apart i j e vpn below
    (fitted vpn e (row_at rows i) (test (row_at rows i)) below (ap (fits vpn e) (sym (at_where test rows i)) ∙ first))
    (fitted vpn e (row_at rows j) (test (row_at rows j)) below (ap (fits vpn e) (sym (at_where test rows j)) ∙ second))

apart_flushed : (fs : List Flush) (rows : List Row) → AreApart rows → AreApart (all_flushed fs rows)
apart_flushed [] rows apart = apart
apart_flushed (f ∷ fs) rows apart = apart_flushed fs (flushed rows f) (apart_where (is_flushed f) rows apart)

length_flushed : (fs : List Flush) (rows : List Row) → length (all_flushed fs rows) ≡ length rows
length_flushed [] rows = refl
length_flushed (f ∷ fs) rows = length_flushed fs (flushed rows f) ∙ length-map rows (emptied_if (is_flushed f))

pub flushed_shape : (fs : List Flush) (c : Cache) → IsShaped c → IsShaped (flushed_all fs c)
flushed_shape fs c shaped = record { count = length_flushed fs c.rows ∙ shaped.count; random = shaped.random; apart = apart_flushed fs c.rows shaped.apart }

-- ---- Random falls

fallen_within : (r : ℕ) → first_random ≤ r → r < random_end → (first_random ≤ fallen r) × (fallen r < random_end)
fallen_within r least most = by_first (r == first_random) refl
  where
    by_first : (t : Bool) → (r == first_random) ≡ t → (first_random ≤ (if t then random_end - 1 else r - 1)) × ((if t then random_end - 1 else r - 1) < random_end)
    by_first true is = (omega arith, omega arith)
    by_first false isnt = let other : r ≢ first_random = λ same. let both : true ≡ false = sym (eq-eqb r first_random same) ∙ isnt in cc in (grind arith, omega (arith, most))

pub attempted_shape : (e : ℕ) (step : Step) (c : Cache) → IsShaped c → IsShaped (attempted e step c)
attempted_shape e step c shaped = by_miss (is_missed step)
  where
    by_miss : (b : Bool) → IsShaped (with_random_fallen (if b then with_forwarded e c else c))
    by_miss true = record { count = shaped.count; random = fallen_within c.random shaped.random.0 shaped.random.1; apart = shaped.apart }
    by_miss false = record { count = shaped.count; random = fallen_within c.random shaped.random.0 shaped.random.1; apart = shaped.apart }

-- ---- a row is refilled

-- where none is found, no row fits
none_fits : (p : Row → Bool) (rows : List Row) → p emptied_row ≡ false → find p rows ≡ None → (i : ℕ) → p (row_at rows i) ≡ false
none_fits p [] empty none i = empty
none_fits p (row ∷ rows) empty none i = by_head (p row) refl none i (λ rest. none_fits p rows empty rest)
  where
    by_head : (b : Bool) → p row ≡ b → (if b then Some row else find p rows) ≡ None → (i : ℕ) → (find p rows ≡ None → (i : ℕ) → p (row_at rows i) ≡ false) → p (row_at (row ∷ rows) i) ≡ false
    by_head true is none i rest = cc
    by_head false is none zero rest = is
    by_head false is none (suc i) rest = rest none i

apart_set : (rows : List Row) (r e : ℕ) (m : Mapping) → AreApart rows → r < length rows → e < environment_numbers → ((i : ℕ) → fits m.vpn e (row_at rows i) ≡ false)
    → AreApart (with_row_at rows r (row_for e m))
apart_set rows r e m apart there small none i j f vpn below first second = elim (cases_eq i r) [
  | inl same ↦ elim (cases_eq j r) [
    | inl alike ↦ same ∙ sym alike
    | inr other ↦ absurd (clash i j same other first second)
  ]
  | inr other ↦ elim (cases_eq j r) [
    | inl alike ↦ absurd (clash j i alike other second first)
    | inr another ↦ apart i j f vpn below (elsewhere i other first) (elsewhere j another second)
  ]
]
  where
    elsewhere : (k : ℕ) → k ≢ r → fits vpn f (row_at (with_row_at rows r (row_for e m)) k) ≡ true → fits vpn f (row_at rows k) ≡ true
    elsewhere k other is = ap (fits vpn f) (sym (get_or-set_other rows r k (row_for e m) emptied_row other)) ∙ is

    clash : (k l : ℕ) → k ≡ r → l ≢ r → fits vpn f (row_at (with_row_at rows r (row_for e m)) k) ≡ true → fits vpn f (row_at (with_row_at rows r (row_for e m)) l) ≡ true → ⊥
    clash k l same other first second =
        let here : fits vpn f (row_for e m) ≡ true = ap (fits vpn f) (sym (get_or-set_same rows r (row_for e m) emptied_row there)) ∙ ap (λ (n : ℕ). fits vpn f (row_at (with_row_at rows r (row_for e m)) n)) (sym same) ∙ first in
        let its = fits_own vpn f e m small here in
        let old : fits m.vpn e (row_at rows l) ≡ true = (λ k. fits (its.0 k) (its.1 k) (row_at rows l)) ∙ elsewhere l other second in
        let isnt = none l in
        cc

pub refilled_shape : (g : Bool) (e : ℕ) (m : Mapping) (c : Cache) → IsShaped c → e < environment_numbers → m.vpn < vpn_end → has_no_row c.rows e m.vpn ≡ true → IsShaped (refilled g e m c)
refilled_shape g e m c shaped small below missing = record {
  count = length-set c.rows c.random (row_for e m) ∙ shaped.count;
  random = fallen_within c.random shaped.random.0 shaped.random.1;
  apart = apart_set c.rows c.random e m shaped.apart (omega (arith, shaped.count, shaped.random.1)) small
      (none_fits (fits m.vpn e) c.rows (emptied_fits_not (fits m.vpn e emptied_row) refl) (no_row (find (fits m.vpn e) c.rows) missing));
}
  where
    emptied_fits_not : (b : Bool) → fits m.vpn e emptied_row ≡ b → fits m.vpn e emptied_row ≡ false
    emptied_fits_not true is = absurd (fits_none m.vpn e below is)
    emptied_fits_not false is = is

    no_row : (o : Option Row) → is_none o ≡ true → o ≡ None
    no_row None is = refl
    no_row (Some row) is = cc

-- ---- the look-ups of a step

-- what each refill keeps, all look-ups keep
pub settled_keeps : (P : Cache → Type 0) (kept : ℕ → Bool) (leads : ℕ → Option Mapping) (e : ℕ) (vpns : List ℕ)
    → ((c : Cache) (m : Mapping) → P c → next_refill leads e vpns c.rows ≡ Some m → P (refilled (kept m.vpn) e m c))
    → (n : ℕ) (c : Cache) → P c → P (settled n kept leads e vpns c)
settled_keeps P kept leads e vpns keeps zero c was = was
settled_keeps P kept leads e vpns keeps (suc n) c was = by_refill (next_refill leads e vpns c.rows) refl (settled_keeps P kept leads e vpns keeps n)
  where
    by_refill : (o : Option Mapping) → next_refill leads e vpns c.rows ≡ o → ((d : Cache) → P d → P (settled n kept leads e vpns d)) → P (settled_by (settled n kept leads e vpns) kept e o c)
    by_refill None is rest = was
    by_refill (Some m) is rest = rest (refilled (kept m.vpn) e m c) (keeps c m was is)

-- the VPN of a refill
pub missed_at : (leads : ℕ → Option Mapping) (o : Option ℕ) (m : Mapping) → mapping_of_miss leads o ≡ Some m → (v : ℕ) × (o ≡ Some v) × (leads v ≡ Some m)
missed_at leads None m is = cc
missed_at leads (Some v) m is = (v, refl, is)

pub found_true : (p : ℕ → Bool) (xs : List ℕ) (v : ℕ) → find p xs ≡ Some v → p v ≡ true
found_true p [] v is = cc
found_true p (x ∷ xs) v is = by_head (p x) refl is (found_true p xs v)
  where
    by_head : (b : Bool) → p x ≡ b → (if b then Some x else find p xs) ≡ Some v → (find p xs ≡ Some v → p v ≡ true) → p v ≡ true
    by_head true has at rest = let same : x ≡ v = cc in ap p (sym same) ∙ has
    by_head false hasnt at rest = rest at

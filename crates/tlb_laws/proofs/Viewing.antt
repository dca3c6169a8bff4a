-- What a step gets of memory, where its accesses find their rows.
use Rattle.std.proofs.Common.{◌≡◌, ℕ, ◌/◌, Bool, true, false, List, [], ◌∷◌, length, Option, Some, None, Ok, Err, refl, sym, ◌∙◌, ap, arith, rules}
use Rattle.std.specs.Prelude.{not, ◌&&◌, nat_le, nat_lt, if◌then◌else◌, is_none}
use Rattle.byteorder.specs.Endian.{little_number}
use Rattle.aegis_limits.specs.Limits.{page_size}
use Rattle.mips_exec.specs.declared.exception.Exc.{Exc}
use Rattle.mips_exec.specs.declared.exception.ExcCode.TheVariants as code
use Rattle.frame_store.specs.Pages.{page_at}
use Rattle.env_frames.specs.declared.mapping.Mapping.{Mapping}
use Rattle.guest_memory.specs.Look.{look}
use Rattle.world_model.specs.Page.{Mapped, answers_by, bytes_from, if_served, reach}
use Rattle.r3k_tlb.specs.declared.row.Row.{Row}
use Rattle.r3k_tlb.specs.Rows.{first_fitting}
use Rattle.r3k_cp0.specs.declared.registers.Cp0.{Cp0}
use Rattle.mips_exec.specs.declared.access_kind.AccessKind.{AccessKind}
use Rattle.mips_exec.specs.declared.access_kind.AccessKind.TheVariants as kind
use Rattle.r3k_machine.specs.Memory.{number_in, without_page}
use Rattle.mips_exec.specs.AccessKind.{address_error, is_store, raised, user_end}
use Rattle.mips_exec.specs.Exception.{at_address, is_miss, plain}
use Rattle.r3k_machine.specs.Translation.{reached_page}
use Rattle.tlb_model.specs.Lookups.{first_missing, has_no_row, user_vpn, vpn_if}
use Rattle.tlb_laws.specs.Laws.{RunsFor}
use Rattle.tlb_laws.proofs.Reaching.{found, refused, refused_flat}

error_plain : (k : AccessKind) → is_miss (address_error k) ≡ false
error_plain kind.Fetch = refl
error_plain kind.Load = refl
error_plain kind.Store = refl

-- a user's address, or none
pub below_end : (address : ℕ) → nat_lt address user_end ≡ true → nat_le user_end address ≡ false
below_end address h = grind arith

pub beyond_end : (address : ℕ) → nat_lt address user_end ≡ false → nat_le user_end address ≡ true
beyond_end address h = grind arith

-- whether the only VPN has a row
one_found : (rows : List Row) (e vpn : ℕ) (o : Option Row) → first_fitting vpn e rows ≡ o → first_missing rows e (vpn ∷ []) ≡ None → (row : Row) × (first_fitting vpn e rows ≡ Some row)
one_found rows e vpn None is h = let none : has_no_row rows e vpn ≡ true = ap is_none is in search (rules, none)
one_found rows e vpn (Some row) is h = (row, is)

one_missing : (rows : List Row) (e vpn v : ℕ) (o : Option Row) → first_fitting vpn e rows ≡ o → first_missing rows e (vpn ∷ []) ≡ Some v → (vpn ≡ v) × (first_fitting vpn e rows ≡ None)
one_missing rows e vpn v None is h = let none : has_no_row rows e vpn ≡ true = ap is_none is in (search (rules, none), is)
one_missing rows e vpn v (Some row) is h = let some : has_no_row rows e vpn ≡ false = ap is_none is in search (rules, some)

-- An access is served alike by the rows and by the mappings: it reaches the page of a mapping, or raises what is no miss.
pub data IsServed (leads : ℕ → Option Mapping) (cp0 : Cp0) (rows : List Row) (frames : List (List ℕ)) (k : AccessKind) (address : ℕ) : Type 0 where
  Reached : (m : Mapping) → leads (address / page_size) ≡ Some m → reached_page cp0 rows (length frames) k address ≡ Ok m.page
      → reach (look frames leads) k address ≡ Ok (record { writable = m.writable; bytes = page_at frames m.page })
      → IsServed leads cp0 rows frames k address
  Refused : (exc : Exc) → reached_page cp0 rows (length frames) k address ≡ Err exc → reach (look frames leads) k address ≡ Err exc
      → is_miss exc.code ≡ false → IsServed leads cp0 rows frames k address

module _ (leads : ℕ → ℕ → Option Mapping) (e : ℕ) (cp0 : Cp0) (rows : List Row) (frames : List (List ℕ)) (runs : RunsFor leads e cp0 rows frames) where
  by_right : (k : AccessKind) (address : ℕ) (m : Mapping) (b : Bool) → (is_store k && not m.writable) ≡ b → leads e (address / page_size) ≡ Some m
      → reached_page cp0 rows (length frames) k address ≡ (if b then raised code.Mod address else Ok m.page)
      → reach (look frames (leads e)) k address ≡ (if b then raised code.Mod address else Ok (record { writable = m.writable; bytes = page_at frames m.page }))
      → IsServed (leads e) cp0 rows frames k address
  by_right k address m true is at page mapped = Refused (at_address (plain code.Mod) address) page mapped refl
  by_right k address m false is at page mapped = Reached m at page mapped

  pub served_access : (k : AccessKind) (address : ℕ) → first_missing rows e (user_vpn address) ≡ None → IsServed (leads e) cp0 rows frames k address
  served_access k address all = by_end (nat_lt address user_end) refl all
    where
      by_end : (b : Bool) → nat_lt address user_end ≡ b → first_missing rows e (vpn_if b address) ≡ None → IsServed (leads e) cp0 rows frames k address
      by_end true h all =
          let row = one_found rows e (address / page_size) (first_fitting (address / page_size) e rows) refl all in
          let f = found leads e cp0 rows frames runs k address row.0 (below_end address h) row.1 in
          by_right k address f.0 (is_store k && not f.0.writable) refl f.1 f.2 f.3
      by_end false h all =
          Refused (at_address (plain (address_error k)) address)
          (refused leads e cp0 rows frames runs k address (beyond_end address h))
          (refused_flat leads e cp0 rows frames runs k address (beyond_end address h)) (error_plain k)

  -- the first access that finds no row
  pub missing_at : (address v : ℕ) → first_missing rows e (user_vpn address) ≡ Some v
      → (address / page_size ≡ v) × (nat_le user_end address ≡ false) × (first_fitting (address / page_size) e rows ≡ None)
  missing_at address v is = by_end (nat_lt address user_end) refl is
    where
      by_end : (b : Bool) → nat_lt address user_end ≡ b → first_missing rows e (vpn_if b address) ≡ Some v
          → (address / page_size ≡ v) × (nat_le user_end address ≡ false) × (first_fitting (address / page_size) e rows ≡ None)
      by_end true h is =
          let m = one_missing rows e (address / page_size) v (first_fitting (address / page_size) e rows) refl is in
          (m.0, below_end address h, m.1)
      by_end false h is = search rules

-- numbers and stores of an access that is served alike
module _ (leads : ℕ → Option Mapping) (cp0 : Cp0) (rows : List Row) (frames : List (List ℕ)) where
  pub number_same : (k : AccessKind) (address width : ℕ) → IsServed leads cp0 rows frames k address
      → number_in frames address width (reached_page cp0 rows (length frames) k address) ≡ if_served (λ (m : Mapped). little_number width (bytes_from address m)) (reach (look frames leads) k address)
  number_same k address width (Reached m at page mapped) =
      ap (number_in frames address width) page ∙ sym (ap (if_served (λ (m : Mapped). little_number width (bytes_from address m))) mapped)
  number_same k address width (Refused exc page mapped plain) =
      ap (number_in frames address width) page ∙ sym (ap (if_served (λ (m : Mapped). little_number width (bytes_from address m))) mapped)

  pub store_same : (k : AccessKind) (address : ℕ) → IsServed leads cp0 rows frames k address
      → without_page (reached_page cp0 rows (length frames) k address) ≡ if_served (λ (m : Mapped). tt) (reach (look frames leads) k address)
  store_same k address (Reached m at page mapped) = ap without_page page ∙ sym (ap (if_served (λ (m : Mapped). tt)) mapped)
  store_same k address (Refused exc page mapped plain) = ap without_page page ∙ sym (ap (if_served (λ (m : Mapped). tt)) mapped)

  -- what they raise is no miss
  pub some_err : {A : Type 0} (f : Mapped → A) (k : AccessKind) (address : ℕ) (exc : Exc) → IsServed leads cp0 rows frames k address
      → if_served f (reach (look frames leads) k address) ≡ Err exc → is_miss exc.code ≡ false
  some_err f k address exc (Reached m at page mapped) is = let ok = sym (ap (if_served f) mapped) ∙ is in search (rules, ok)
  some_err f k address exc (Refused x page mapped plain) is =
      let err : Err x ≡ Err exc = sym (ap (if_served f) mapped) ∙ is in
      let same : x ≡ exc = cc in
      ap (λ (y : Exc). is_miss y.code) (sym same) ∙ plain

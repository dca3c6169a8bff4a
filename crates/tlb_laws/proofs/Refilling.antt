-- Two refills suffice.
use Rattle.std.proofs.Common.{◌≡◌, ◌≢◌, ◌<◌, ℕ, zero, suc, ◌%◌, List, [], ◌∷◌, ◌++◌, length, Bool, true, false, Option, Some, None, Result, Ok, Err, refl, ◌∙◌, ap, subst, arith, rules}
use Rattle.std.specs.Prelude.{◌==◌, ◌≤◌, nat_lt, if◌then◌else◌, find, is_none, slice_set}
use Rattle.std.proofs.lemmas.Bool.{eq-eqb, ltb-true}
use Rattle.std.proofs.lemmas.List.{length-append, length-set}
use Rattle.aegis_limits.specs.Limits.{environment_numbers, vpn_end}
use Rattle.r3k_tlb.specs.Row.{fits, row_pid, row_vpn}
use Rattle.tlb_model.proofs.Fitting.{row_words}
use Rattle.mips_exec.specs.declared.registers.Cpu.{Cpu}
use Rattle.mips_isa.specs.Encoding.{insn_of}
use Rattle.mips_exec.specs.declared.reach.Access.{Access}
use Rattle.mips_exec.specs.declared.reach.Access.TheVariants.{Load, Store}
use Rattle.mips_exec.specs.declared.reach.Spot.{Spot}
use Rattle.mips_exec.specs.declared.exception.Exc.{Exc}
use Rattle.mips_exec.specs.Access.{access, is_aligned, place_of}
use Rattle.mips_exec.specs.Step.{fetched}
use Rattle.guest_memory.specs.Look.{look}
use Rattle.mips_exec.specs.AccessKind.{user_end}
use Rattle.world_model.specs.Page.{answers_by}
use Rattle.env_frames.specs.declared.mapping.Mapping.{Mapping}
use Rattle.r3k_tlb.specs.declared.row.Row.{Row}
use Rattle.r3k_tlb.specs.Rows.{with_row_at}
use Rattle.tlb_model.specs.Cache.{row_for}
use Rattle.tlb_model.specs.Lookups.{access_vpns, data_vpns, fetch_vpns, first_missing, has_no_row, mapping_of_miss, next_refill, spot_vpns, user_vpn, vpn_if}
use Rattle.tlb_laws.specs.Laws.{TwoRefillsSuffice, vpns_over}

by_head : (x : Row) (rest : Option Row) (b : Bool) → is_none rest ≡ false → is_none (if b then Some x else rest) ≡ false
by_head x rest true some = refl
by_head x rest false some = some

-- what was written into a row is found
some_after : (p : Row → Bool) (rows : List Row) (i : ℕ) (row : Row) → i < length rows → p row ≡ true → is_none (find p (slice_set rows i row)) ≡ false
some_after p [] i row there holds = absurd (omega (arith, there))
some_after p (x ∷ rows) zero row there holds = rw holds refl
some_after p (x ∷ rows) (suc i) row there holds = by_head x (find p (slice_set rows i row)) (p x) (some_after p rows i row (omega (arith, there)) holds)

-- so it is behind a write into another row
some_still : (p : Row → Bool) (rows : List Row) (i j : ℕ) (row other : Row) → i ≢ j → i < length rows → p row ≡ true
    → is_none (find p (slice_set (slice_set rows i row) j other)) ≡ false
some_still p [] i j row other apart there holds = absurd (omega (arith, there))
some_still p (x ∷ rows) zero zero row other apart there holds = absurd (apart refl)
some_still p (x ∷ rows) zero (suc j) row other apart there holds = rw holds refl
some_still p (x ∷ rows) (suc i) zero row other apart there holds =
    by_head other (find p (slice_set rows i row)) (p other) (some_after p rows i row (omega (arith, there)) holds)
some_still p (x ∷ rows) (suc i) (suc j) row other apart there holds =
    by_head x (find p (slice_set (slice_set rows i row) j other)) (p x) (some_still p rows i j row other (λ same. apart (ap suc same)) (omega (arith, there)) holds)

-- a mapping's row fits its VPN
fits_its : (e vpn : ℕ) (m : Mapping) → e < environment_numbers → m.vpn ≡ vpn → fits vpn e (row_for e m) ≡ true
fits_its e vpn m small at =
    let words = row_words e m small in
    let first : (row_vpn (row_for e m) == vpn) ≡ true = eq-eqb (row_vpn (row_for e m)) vpn (words.vpn ∙ at) in
    let second : (row_pid (row_for e m) == e) ≡ true = eq-eqb (row_pid (row_for e m)) e words.env in
    rw (first, second) refl

-- of two numbers, of which one fails a test and then the other another, none is left for a third
third_by : (a b v w : ℕ) (pa pb qa qb : Bool) (q r : ℕ → Bool) → (if pa then Some a else (if pb then Some b else None)) ≡ Some v → q v ≡ false → q a ≡ qa → q b ≡ qb
    → (if qa then Some a else (if qb then Some b else None)) ≡ Some w → r v ≡ false → r w ≡ false → (r a ≡ false) × (r b ≡ false)
third_by a b v w true pb true qb q r first here atest btest second gone went = search rules
third_by a b v w true pb false true q r first here atest btest second gone went = search rules
third_by a b v w true pb false false q r first here atest btest second gone went = search rules
third_by a b v w false true true qb q r first here atest btest second gone went = search rules
third_by a b v w false true false true q r first here atest btest second gone went = search rules
third_by a b v w false true false false q r first here atest btest second gone went = search rules
third_by a b v w false false qa qb q r first here atest btest second gone went = search rules

third_none : (p q r : ℕ → Bool) (xs : List ℕ) (v w : ℕ) → length xs ≤ 2 → find p xs ≡ Some v → q v ≡ false → find q xs ≡ Some w → r v ≡ false → r w ≡ false → find r xs ≡ None
third_none p q r [] v w few first here second gone went = refl
third_none p q r (a ∷ []) v w few first here second gone went = search (rules, few)
third_none p q r (a ∷ b ∷ []) v w few first here second gone went =
    let both = third_by a b v w (p a) (p b) (q a) (q b) q r first here refl refl second gone went in
    rw (both.0, both.1) refl
third_none p q r (a ∷ b ∷ c ∷ xs) v w few first here second gone went = absurd (omega (arith, few))

miss_of : (leads : ℕ → Option Mapping) (o : Option ℕ) (m : Mapping) → mapping_of_miss leads o ≡ Some m → (v : ℕ) × (o ≡ Some v) × (leads v ≡ Some m)
miss_of leads None m is = search rules
miss_of leads (Some v) m is = (v, refl, is)

one_vpn : (address : ℕ) → length (user_vpn address) ≤ 1
one_vpn address = by_end (nat_lt address user_end)
  where
    by_end : (b : Bool) → length (vpn_if b address) ≤ 1
    by_end true = omega arith
    by_end false = omega arith

one_fetch : (pc : ℕ) → length (fetch_vpns pc) ≤ 1
one_fetch pc = by_place (pc % 4 == 0)
  where
    by_place : (b : Bool) → length (if b then user_vpn pc else []) ≤ 1
    by_place true = one_vpn pc
    by_place false = omega arith

one_spot : (spot : Spot) → length (spot_vpns spot) ≤ 1
one_spot spot = by_place (is_aligned spot)
  where
    by_place : (b : Bool) → length (if b then user_vpn (place_of spot) else []) ≤ 1
    by_place true = one_vpn (place_of spot)
    by_place false = omega arith

one_access : (o : Option Access) → length (access_vpns o) ≤ 1
one_access None = omega arith
one_access (Some (Load spot)) = one_spot spot
one_access (Some (Store spot value)) = one_spot spot

one_data : (cpu : Cpu) (f : Result ℕ Exc) → length (data_vpns cpu f) ≤ 1
one_data cpu (Ok word) = one_access (access (insn_of word) cpu)
one_data cpu (Err exc) = omega arith

few_vpns : (frames : List (List ℕ)) (leads : ℕ → Option Mapping) (cpu : Cpu) → length (vpns_over frames leads cpu) ≤ 2
few_vpns frames leads cpu =
    let f = fetched (answers_by (look frames leads)) cpu.pc in
    omega (arith, length-append (fetch_vpns cpu.pc) (data_vpns cpu f), one_fetch cpu.pc, one_data cpu f)

pub two_suffice : TwoRefillsSuffice
two_suffice leads e frames cpu rows first second m n small size there other apart by_number one two =
    let vpns = vpns_over frames leads cpu in
    let rows1 = with_row_at rows first (row_for e m) in
    let rows2 = with_row_at rows1 second (row_for e n) in
    let v = miss_of leads (first_missing rows e vpns) m one in
    let w = miss_of leads (first_missing rows1 e vpns) n two in
    let v_fits = fits_its e v.0 m small (by_number v.0 m v.2) in
    let w_fits = fits_its e w.0 n small (by_number w.0 n w.2) in
    let here : has_no_row rows1 e v.0 ≡ false = some_after (fits v.0 e) rows first (row_for e m) (omega (arith, there, size)) v_fits in
    let gone : has_no_row rows2 e v.0 ≡ false = some_still (fits v.0 e) rows first second (row_for e m) (row_for e n) apart (omega (arith, there, size)) v_fits in
    let went : has_no_row rows2 e w.0 ≡ false = some_after (fits w.0 e) rows1 second (row_for e n) (omega (arith, other, size, length-set rows first (row_for e m))) w_fits in
    ap (mapping_of_miss leads) (third_none (has_no_row rows e) (has_no_row rows1 e) (has_no_row rows2 e) vpns v.0 w.0 (few_vpns frames leads cpu) v.1 here w.1 gone went)

-- ---- the VPNs of accesses are users'
abbrev AllSmall : List ℕ → Type 0
AllSmall [] = Unit {0}
AllSmall (v ∷ vs) = (v < vpn_end) × AllSmall vs

small_user : (address : ℕ) → AllSmall (user_vpn address)
small_user address = by_end (nat_lt address user_end) refl
  where
    by_end : (b : Bool) → nat_lt address user_end ≡ b → AllSmall (vpn_if b address)
    by_end true h = let less : address < user_end = ltb-true address user_end h in (omega (arith, less), tt)
    by_end false h = tt

small_fetch : (pc : ℕ) → AllSmall (fetch_vpns pc)
small_fetch pc = by_place (pc % 4 == 0)
  where
    by_place : (b : Bool) → AllSmall (if b then user_vpn pc else [])
    by_place true = small_user pc
    by_place false = tt

small_spot : (spot : Spot) → AllSmall (spot_vpns spot)
small_spot spot = by_place (is_aligned spot)
  where
    by_place : (b : Bool) → AllSmall (if b then user_vpn (place_of spot) else [])
    by_place true = small_user (place_of spot)
    by_place false = tt

small_access : (o : Option Access) → AllSmall (access_vpns o)
small_access None = tt
small_access (Some (Load spot)) = small_spot spot
small_access (Some (Store spot value)) = small_spot spot

small_data : (cpu : Cpu) (f : Result ℕ Exc) → AllSmall (data_vpns cpu f)
small_data cpu (Ok word) = small_access (access (insn_of word) cpu)
small_data cpu (Err exc) = tt

small_both : (xs ys : List ℕ) → AllSmall xs → AllSmall ys → AllSmall (xs ++ ys)
small_both [] ys first rest = rest
small_both (x ∷ xs) ys first rest = (first.0, small_both xs ys first.1 rest)

small_found : (p : ℕ → Bool) (xs : List ℕ) (v : ℕ) → AllSmall xs → find p xs ≡ Some v → v < vpn_end
small_found p [] v all is = search rules
small_found p (x ∷ xs) v all is = by_head x v (find p xs) (p x) all.0 (λ rest. small_found p xs v all.1 rest) is
  where
    by_head : (x v : ℕ) (rest : Option ℕ) (b : Bool) → x < vpn_end → (rest ≡ Some v → v < vpn_end) → (if b then Some x else rest) ≡ Some v → v < vpn_end
    by_head x v rest true less further is = let same : x ≡ v = cc in subst (λ n. n < vpn_end) same less
    by_head x v rest false less further is = further is

pub refill_small : (leads : ℕ → Option Mapping) (e : ℕ) (frames : List (List ℕ)) (cpu : Cpu) (rows : List Row) (m : Mapping)
    → next_refill leads e (vpns_over frames leads cpu) rows ≡ Some m → (v : ℕ) × (leads v ≡ Some m) × (v < vpn_end)
refill_small leads e frames cpu rows m is =
    let v = miss_of leads (first_missing rows e (vpns_over frames leads cpu)) m is in
    let f = fetched (answers_by (look frames leads)) cpu.pc in
    (v.0, v.2, small_found (has_no_row rows e) (vpns_over frames leads cpu) v.0 (small_both (fetch_vpns cpu.pc) (data_vpns cpu f) (small_fetch cpu.pc) (small_data cpu f)) v.1)

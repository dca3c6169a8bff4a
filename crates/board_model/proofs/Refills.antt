-- The runner's step over the rows of the TLB, and what is refilled, on a sound board.
use Rattle.std.proofs.Common.{◌≡◌, ◌≢◌, ◌<◌, ℕ, List, length, Bool, true, false, Option, Some, None, refl, sym, ◌∙◌, ap, subst, arith, rules}
use Rattle.std.specs.Prelude.{◌==◌, ◌≤◌, ◌-◌, if◌then◌else◌, IsSome, MatchOption}
use Rattle.std.specs.Option.{option_map, option_or}
use Rattle.std.proofs.lemmas.Bool.{eqb-true}
use Rattle.aegis_limits.specs.Limits.{environment_numbers, vpn_end}
use Rattle.aegis_limits.specs.declared.version.Version.{Version}
use Rattle.bind_book.specs.declared.binding.Binding.{Binding}
use Rattle.bind_book.specs.Stripe.{binding_at, of_number, stripes}
use Rattle.mips_exec.specs.declared.exception.Outcome.{Outcome}
use Rattle.env_frames.specs.declared.mapping.Mapping.{Mapping}
use Rattle.env_frames.specs.Frame.{mapping_at}
use Rattle.guest_memory.specs.Look.{bound_mapping}
use Rattle.guest_memory.specs.Space.{lookup}
use Rattle.r3k_cp0.specs.declared.registers.Cp0.{Cp0}
use Rattle.r3k_cp0.specs.Random.{fallen, first_random, random_end}
use Rattle.r3k_cp0.specs.Registers.{current_pid, is_user}
use Rattle.tlb_model.specs.Cache.{Cache, row_for, with_forwarded, with_random_fallen}
use Rattle.tlb_model.specs.Lookups.{attempted, is_missed, settled, settled_by}
use Rattle.tlb_model.specs.Coherence.{AreCoherent, Held, IsCoherent}
use Rattle.std.proofs.lemmas.List.Elements.{All-set}
use Rattle.tlb_laws.specs.Laws.{LeadByNumber, RunsFor}
use Rattle.tlb_laws.proofs.Refilling.{refill_small, two_suffice}
use Rattle.board_model.specs.Shown.{Shown, mappings_of}
use Rattle.board_model.specs.Sound.{IsSoundBoard, RowsAgree, leads_in}
use Rattle.board_model.specs.Doing.{lookup_of, step_seen}
use Rattle.board_model.specs.Refilling.{HasTlb, IsAttempted, IsRefilled, is_kept_by, refill_of, rows_after_miss, settled_of, vpns_of, with_lookups, with_refilled}
use Rattle.board_model.proofs.Pages.{placed}
use Rattle.board_model.proofs.Staying.{sound_tlb}
use Rattle.board_model.proofs.Seen.{bound_there, guaranteed_there}

leads_lookup : (b : Shown) (e vpn : ℕ) → leads_in b.roster.list b.binds e vpn ≡ lookup_of b e vpn
unfolding lookup
leads_lookup b e vpn = refl

-- the machine runs for the runner, over rows that hold everybody's mappings
pub runs_for : (b : Shown) (e : ℕ) (cp0 : Cp0) → IsSoundBoard b → e < environment_numbers → current_pid cp0 ≡ e → is_user cp0 ≡ true
    → RunsFor (lookup_of b) e cp0 b.tlb.rows b.frames
runs_for b e cp0 sound small pid user = record {
  numbered = small;
  pid = pid;
  user = user;
  coherent = subst (λ leads. AreCoherent leads (length b.frames) b.tlb.rows) (λ i f vpn. leads_lookup b f vpn i) sound.rows.coherent;
}

numbered : (vpn : ℕ) (o : Option Binding) (m : Mapping) → option_map bound_mapping (of_number vpn o) ≡ Some m → m.vpn ≡ vpn
numbered vpn None m is = search rules
numbered vpn (Some y) m is = by_number (y.vpn == vpn) refl is
  where
    by_number : (t : Bool) → (y.vpn == vpn) ≡ t → option_map bound_mapping (if t then Some y else None) ≡ Some m → m.vpn ≡ vpn
    by_number true h is = let same : bound_mapping y ≡ m = cc in ap (λ (n : Mapping). n.vpn) (sym same) ∙ eqb-true y.vpn vpn h
    by_number false h is = search rules

-- a VPN leads by a mapping of that VPN, to a page that is there
in_numbered : (v : Version) (ms : List Mapping) (stripe : ℕ → Option Binding) (vpn : ℕ) (m : Mapping) (o : Option Mapping) → mapping_at ms vpn ≡ o
    → option_or o (option_map bound_mapping (binding_at v stripe vpn)) ≡ Some m → m.vpn ≡ vpn
in_numbered v ms stripe vpn m None at is = numbered vpn (stripe _) m is
in_numbered v ms stripe vpn m (Some n) at is =
    let same : n ≡ m = cc in ap (λ (x : Mapping). x.vpn) (sym same) ∙ (placed ms vpn n at).1.number

pub lookup_number : (b : Shown) (e : ℕ) → LeadByNumber (lookup_of b e)
unfolding lookup
lookup_number b e vpn m is =
    in_numbered b.binds.version (mappings_of b.roster.list e) (stripes b.binds e) vpn m (mapping_at (mappings_of b.roster.list e) vpn) refl is

in_there : (b : Shown) (e vpn : ℕ) (m : Mapping) (o : Option Mapping) → IsSoundBoard b → mapping_at (mappings_of b.roster.list e) vpn ≡ o → (p : Option Binding)
    → binding_at b.binds.version (stripes b.binds e) vpn ≡ p → option_or o (option_map bound_mapping p) ≡ Some m → m.page < length b.frames
in_there b e vpn m (Some n) sound at p bound is =
    let same : n ≡ m = cc in
    let place = placed (mappings_of b.roster.list e) vpn n at in
    subst (λ (x : Mapping). x.page < length b.frames) same (guaranteed_there b.frames b.pages b.roster.list sound.memory e place.0 n place.1.place)
in_there b e vpn m None sound at None bound is = search rules
in_there b e vpn m None sound at (Some y) bound is =
    let same : bound_mapping y ≡ m = cc in
    subst (λ (x : Mapping). x.page < length b.frames) same (bound_there b e vpn y sound bound).0

pub lookup_there : (b : Shown) (e vpn : ℕ) (m : Mapping) → IsSoundBoard b → lookup_of b e vpn ≡ Some m → m.page < length b.frames
unfolding lookup
lookup_there b e vpn m sound is =
    in_there b e vpn m (mapping_at (mappings_of b.roster.list e) vpn) sound refl (binding_at b.binds.version (stripes b.binds e) vpn) refl is

-- a refill keeps the rows coherent
pub refilled_rows : (b : Shown) (e random vpn : ℕ) (o : Option Mapping) → IsSoundBoard b → e < environment_numbers → vpn < vpn_end → lookup_of b e vpn ≡ o
    → RowsAgree b.frames b.roster.list b.binds (rows_after_miss random e o b.tlb.rows)
refilled_rows b e random vpn None sound small below is = sound.rows
refilled_rows b e random vpn (Some m) sound small below is =
    let at = lookup_number b e vpn m is in
    record {
      coherent = All-set (IsCoherent (leads_in b.roster.list b.binds) (length b.frames)) b.tlb.rows random (row_for e m)
          (Held (record {
            env = e;
            numbered = small;
            mapping = m;
            below = subst (λ n. n < vpn_end) (sym at) below;
            there = lookup_there b e vpn m sound is;
            mapped = leads_lookup b e m.vpn ∙ ap (lookup_of b e) at ∙ is;
            words = refl;
          })) sound.rows.coherent;
    }

-- Random's row and the one that it falls to are two
apart : (r : ℕ) → first_random ≤ r → r < random_end → r ≢ fallen r
apart r least most = by_first (r == first_random) refl
  where
    by_first : (t : Bool) → (r == first_random) ≡ t → r ≢ (if t then random_end - 1 else r - 1)
    by_first true h same = let is : r ≡ first_random = eqb-true r first_random h in absurd (omega (arith, is, same))
    by_first false h same = absurd (omega (arith, least, same))

still_within : (r : ℕ) → first_random ≤ r → r < random_end → fallen r < random_end
still_within r least most = by_first (r == first_random)
  where
    by_first : (t : Bool) → (if t then random_end - 1 else r - 1) < random_end
    by_first true = omega arith
    by_first false = omega (arith, most)

-- a step has at most two refills
pub no_third : (b : Shown) (e : ℕ) (m n : Mapping) → e < environment_numbers → HasTlb b
    → refill_of b e ≡ Some m → refill_of (with_refilled b e m) e ≡ Some n → refill_of (with_refilled (with_refilled b e m) e n) e ≡ None
no_third b e m n small has one two =
    two_suffice (lookup_of b e) e b.frames b.cpu b.tlb.rows b.tlb.random (fallen b.tlb.random) m n small has.count (omega (arith, has.within))
    (omega (arith, still_within b.tlb.random has.least has.within)) (apart b.tlb.random has.least has.within) (lookup_number b e) one two

-- so a third attempt ends the step
pub third_ends : (b c d now : Shown) (e : ℕ) (o : Option Outcome) → e < environment_numbers → HasTlb b → IsRefilled b e c → IsRefilled c e d
    → MatchOption o (IsRefilled d e now) (IsAttempted d e now) → IsSome o
third_ends b c d now e (Some x) small has first second third = refl
third_ends b c d now e None small has first second third =
    let two : refill_of (with_refilled b e first.mapping) e ≡ Some second.mapping = ap (λ (s : Shown). refill_of s e) (sym first.board) ∙ second.next in
    let none = no_third b e first.mapping second.mapping small has first.next two in
    let same : d ≡ with_refilled (with_refilled b e first.mapping) e second.mapping = second.board ∙ ap (λ (s : Shown). with_refilled s e second.mapping) first.board in
    let some : None ≡ Some third.mapping = sym none ∙ ap (λ (s : Shown). refill_of s e) (sym same) ∙ third.next in
    cc

-- a board on which a row was refilled is sound
refilled_sound : (b : Shown) (e : ℕ) (m : Mapping) → IsSoundBoard b → e < environment_numbers → refill_of b e ≡ Some m → IsSoundBoard (with_refilled b e m)
refilled_sound b e m sound small is =
    let v = refill_small (lookup_of b e) e b.frames b.cpu b.tlb.rows m is in
    let agree = refilled_rows b e b.tlb.random v.0 (Some m) sound small v.2 v.1 in
    sound_tlb (with_refilled b e m).tlb agree sound

attempt_rows : (e : ℕ) (b : Bool) (c : Cache) → (with_random_fallen (if b then with_forwarded e c else c)).rows ≡ c.rows
attempt_rows e true c = refl
attempt_rows e false c = refl

attempted_sound : (b : Shown) (e : ℕ) (c : Cache) → IsSoundBoard (record b { tlb = c }) → IsSoundBoard (record b { tlb = attempted e (step_seen b e) c })
attempted_sound b e c sound =
    sound_tlb (attempted e (step_seen b e) c)
    (subst (RowsAgree b.frames b.roster.list b.binds) (sym (attempt_rows e (is_missed (step_seen b e)) c)) sound.rows) sound

settled_once : (b : Shown) (e n : ℕ) (o : Option Mapping) → refill_of b e ≡ o → IsSoundBoard b → e < environment_numbers
    → ((m : Mapping) → IsSoundBoard (with_refilled b e m) → IsSoundBoard (record (with_refilled b e m) { tlb = settled n (is_kept_by (mappings_of b.roster.list e)) (lookup_of b e) e (vpns_of b e) (with_refilled b e m).tlb }))
    → IsSoundBoard (record b { tlb = settled_by (settled n (is_kept_by (mappings_of b.roster.list e)) (lookup_of b e) e (vpns_of b e)) (is_kept_by (mappings_of b.roster.list e)) e o b.tlb })
settled_once b e n None is sound small rest = sound
settled_once b e n (Some m) is sound small rest = rest m (refilled_sound b e m sound small is)

-- the board on which all accesses of the runner's step were looked up
pub lookups_sound : (b : Shown) (e : ℕ) → IsSoundBoard b → e < environment_numbers → IsSoundBoard (with_lookups b e)
lookups_sound b e sound small =
    attempted_sound b e (settled_of b e)
    (settled_once b e 1 (refill_of b e) refl sound small
    (λ m once. settled_once (with_refilled b e m) e 0 (refill_of (with_refilled b e m) e) refl once small (λ n twice. twice)))

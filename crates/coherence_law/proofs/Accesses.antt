-- The VPNs of a step's accesses are users'.
use Rattle.std.proofs.Common.{◌≡◌, ◌<◌, ◌%◌, ℕ, List, [], ◌∷◌, ◌++◌, Bool, true, false, Option, Some, None, Result, Ok, Err, find, refl, subst, arith}
use Rattle.std.specs.Prelude.{◌==◌, nat_lt, if◌then◌else◌}
use Rattle.std.proofs.lemmas.Bool.{ltb-true}
use Rattle.aegis_limits.specs.Limits.{vpn_end}
use Rattle.mips_isa.specs.Encoding.{insn_of}
use Rattle.mips_exec.specs.declared.registers.Cpu.{Cpu}
use Rattle.mips_exec.specs.declared.reach.Access.{Access}
use Rattle.mips_exec.specs.declared.reach.Access.TheVariants.{Load, Store}
use Rattle.mips_exec.specs.declared.reach.Spot.{Spot}
use Rattle.mips_exec.specs.declared.exception.Exc.{Exc}
use Rattle.mips_exec.specs.Access.{access, is_aligned, place_of}
use Rattle.mips_exec.specs.AccessKind.{user_end}
use Rattle.mips_exec.specs.Step.{fetched}
use Rattle.tlb_model.specs.Lookups.{access_vpns, data_vpns, fetch_vpns, spot_vpns, user_vpn, vpn_if}
use Rattle.tlb_course.specs.Accesses.{step_vpns}
use Rattle.world_model.specs.Page.{answers_by}
use Rattle.world_model.specs.Solo.{Solo, sight}

abbrev pub AreUsers : List ℕ → Type 0
AreUsers [] = Unit {0}
AreUsers (v ∷ vs) = (v < vpn_end) × AreUsers vs

of_address : (address : ℕ) → AreUsers (user_vpn address)
of_address address = by_end (nat_lt address user_end) refl
  where
    by_end : (b : Bool) → nat_lt address user_end ≡ b → AreUsers (vpn_if b address)
    by_end true is = let less : address < user_end = ltb-true address user_end is in (omega (arith, less), tt)
    by_end false is = tt

either_users : (b : Bool) (vs : List ℕ) → AreUsers vs → AreUsers (if b then vs else [])
either_users true vs all = all
either_users false vs all = tt

of_spot : (spot : Spot) → AreUsers (spot_vpns spot)
of_spot spot = either_users (is_aligned spot) (user_vpn (place_of spot)) (of_address (place_of spot))

of_access : (o : Option Access) → AreUsers (access_vpns o)
of_access None = tt
of_access (Some (Load spot)) = of_spot spot
of_access (Some (Store spot value)) = of_spot spot

of_data : (cpu : Cpu) (f : Result ℕ Exc) → AreUsers (data_vpns cpu f)
of_data cpu (Ok word) = of_access (access (insn_of word) cpu)
of_data cpu (Err exc) = tt

both_users : (xs ys : List ℕ) → AreUsers xs → AreUsers ys → AreUsers (xs ++ ys)
both_users [] ys first rest = rest
both_users (x ∷ xs) ys first rest = (first.0, both_users xs ys first.1 rest)

pub step_users : (s : Solo) → AreUsers (step_vpns s)
step_users s =
    let f = fetched (answers_by (sight s)) s.cpu.pc in
    both_users (fetch_vpns s.cpu.pc) (data_vpns s.cpu f) (either_users (s.cpu.pc % 4 == 0) (user_vpn s.cpu.pc) (of_address s.cpu.pc)) (of_data s.cpu f)

-- so is each that is found among them
pub found_users : (p : ℕ → Bool) (xs : List ℕ) (v : ℕ) → AreUsers xs → find p xs ≡ Some v → v < vpn_end
found_users p [] v all is = cc
found_users p (x ∷ xs) v all is = by_head (p x) (λ rest. found_users p xs v all.1 rest) is
  where
    by_head : (b : Bool) → (find p xs ≡ Some v → v < vpn_end) → (if b then Some x else find p xs) ≡ Some v → v < vpn_end
    by_head true rest at = let same : x ≡ v = cc in subst (λ (n : ℕ). n < vpn_end) same all.0
    by_head false rest at = rest at

-- How a step over rows ended says which of its accesses found their rows.
use Rattle.std.proofs.Common.{◌≡◌, ◌<◌, ℕ, ◌/◌, List, true, Option, Some, None, refl, sym, ◌∙◌, ap, subst, rules}
use Rattle.aegis_limits.specs.Limits.{page_size}
use Rattle.mips_exec.specs.declared.registers.Cpu.{Cpu}
use Rattle.mips_exec.specs.declared.exception.Exc.{Exc}
use Rattle.mips_exec.specs.declared.exception.Outcome.{Outcome}
use Rattle.mips_exec.specs.declared.exception.Outcome.TheVariants as outcome
use Rattle.mips_exec.specs.Step.{Trapped, outcome_of}
use Rattle.env_frames.specs.declared.mapping.Mapping.{Mapping}
use Rattle.guest_memory.specs.Look.{guest_step}
use Rattle.mips_exec.specs.AccessKind.{user_end}
use Rattle.r3k_tlb.specs.declared.row.Row.{Row}
use Rattle.r3k_cp0.specs.declared.registers.Cp0.{Cp0}
use Rattle.r3k_machine.specs.declared.machine.MachineEnd.TheVariants as ends
use Rattle.r3k_machine.specs.Machine.{end_of}
use Rattle.r3k_machine.specs.Memory.{row_step}
use Rattle.tlb_model.specs.Lookups.{first_missing, is_missed}
use Rattle.tlb_laws.specs.Laws.{IsFlat, RunsFor, end_without_refill, vpns_over}
use Rattle.tlb_laws.proofs.Finding.{finds}
use Rattle.tlb_laws.proofs.Missing.{misses}

no_refill : (o : Outcome) (exc : Exc) → end_without_refill o ≡ ends.Refill exc → ⊥
no_refill outcome.Retired exc is = search rules
no_refill outcome.Call exc is = search rules
no_refill (outcome.Trap x) exc is = search rules

refill_same : (x y : Exc) → ends.Refill x ≡ ends.Refill y → x ≡ y
refill_same x y h = cc

module _ (leads : ℕ → ℕ → Option Mapping) (e : ℕ) (cp0 : Cp0) (rows : List Row) (frames : List (List ℕ)) (cpu : Cpu) (runs : RunsFor leads e cp0 rows frames) where
  -- it ended without a refill
  pub record Flat : Type 0 where
    pub found : first_missing rows e (vpns_over frames (leads e) cpu) ≡ None
    pub flat : IsFlat (leads e) cp0 rows frames cpu

  flat_by : (o : Option ℕ) → first_missing rows e (vpns_over frames (leads e) cpu) ≡ o
      → ((exc : Exc) → end_of cp0 rows (outcome_of (row_step cp0 rows frames cpu)) ≡ ends.Refill exc → ⊥) → Flat
  flat_by None is without = record { found = is; flat = finds leads e cp0 rows frames cpu runs is }
  flat_by (Some vpn) is without =
      let r = misses leads e cp0 rows frames cpu vpn runs is in
      absurd (without r.exc (ap (λ st. end_of cp0 rows (outcome_of st)) r.step ∙ r.end))

  pub flat_end : ((exc : Exc) → end_of cp0 rows (outcome_of (row_step cp0 rows frames cpu)) ≡ ends.Refill exc → ⊥) → Flat
  flat_end without = flat_by (first_missing rows e (vpns_over frames (leads e) cpu)) refl without

  -- it ended as a refill
  pub record Missed (exc : Exc) : Type 0 where
    pub missing : first_missing rows e (vpns_over frames (leads e) cpu) ≡ Some (exc.bad / page_size)
    pub step : row_step cp0 rows frames cpu ≡ Trapped exc
    pub flat : leads e (exc.bad / page_size) ≡ None → guest_step frames (leads e) cpu ≡ Trapped exc
    pub missed : is_missed (Trapped exc) ≡ true
    pub user : exc.bad < user_end

  missed_by : (exc : Exc) (o : Option ℕ) → first_missing rows e (vpns_over frames (leads e) cpu) ≡ o
      → end_of cp0 rows (outcome_of (row_step cp0 rows frames cpu)) ≡ ends.Refill exc → Missed exc
  missed_by exc None is end =
      let f = finds leads e cp0 rows frames cpu runs is in
      absurd (no_refill (outcome_of (guest_step frames (leads e) cpu)) exc
      (sym f.end ∙ ap (λ st. end_of cp0 rows (outcome_of st)) (sym f.step) ∙ end))
  missed_by exc (Some vpn) is end =
      let r = misses leads e cp0 rows frames cpu vpn runs is in
      let same : r.exc ≡ exc = refill_same r.exc exc (sym (ap (λ st. end_of cp0 rows (outcome_of st)) r.step ∙ r.end) ∙ end) in
      let at : vpn ≡ exc.bad / page_size = sym r.at ∙ ap (λ (x : Exc). x.bad / page_size) same in
      record {
        missing = is ∙ ap Some at;
        step = r.step ∙ ap Trapped same;
        flat = λ none. r.flat (ap (leads e) at ∙ none) ∙ ap Trapped same;
        missed = ap (λ (x : Exc). is_missed (Trapped x)) (sym same) ∙ r.missed;
        user = subst (λ (x : Exc). x.bad < user_end) same r.user;
      }

  pub missed_end : (exc : Exc) → end_of cp0 rows (outcome_of (row_step cp0 rows frames cpu)) ≡ ends.Refill exc → Missed exc
  missed_end exc end = missed_by exc (first_missing rows e (vpns_over frames (leads e) cpu)) refl end

-- What an environment is told, and that a call leaves it as it is until it is answered.
use Rattle.std.proofs.Common.{◌≡◌, ◌≢◌, ℕ, [], ◌∷◌, Bool, true, false, Option, refl, sym, ◌∙◌, ap, subst, rules}
use Rattle.std.specs.Prelude.{◌==◌, if◌then◌else◌}
use Rattle.std.proofs.lemmas.Bool.{cond_both, eq-eqb, eqb-true, ne_eqb}
use Rattle.std.proofs.lemmas.List.{append-nil}
use Rattle.mips_exec.specs.declared.registers.Cpu.{Cpu}
use Rattle.mips_exec.specs.declared.exception.Exc.{Exc}
use Rattle.mips_exec.specs.Step.{Step as MachineStep, cpu_after}
use Rattle.world_model.specs.declared.call.Call.{Call}
use Rattle.world_model.specs.declared.life.Cause.TheVariants as cause
use Rattle.world_model.specs.declared.verdict.Verdict.TheVariants.{Grant}
use Rattle.world_model.specs.Call.{deed_of}
use Rattle.world_model.specs.Item.{Item, Step, absorb, absorb_all, deed_at}
use Rattle.world_model.specs.May.{May}
use Rattle.world_model.specs.Verdict.{verdict}
use Rattle.call_verdicts.specs.Granted.{GrantedMay}
use Rattle.run_model.specs.Acting.{Acts, Does}
use Rattle.world_model.specs.Solo.{Solo, Store, is_dead}
use Rattle.world_model.specs.Call.{called}
use Rattle.world_model.specs.Step.{Act, Calls, Raises, Dies, act_at_call, act_of, step_alone, stepped, store_act, trap_act}
use Rattle.world_model.specs.Tick.{act_now}
use Rattle.world_model.specs.World.{World, after, tells}

-- who is given an item absorbs it, and all others stay as they are
pub told_own : (w : World) (e : ℕ) (item : Item) → (after w (tells e item w)).solos e ≡ absorb (w.solos e) item
told_own w e item = ap (λ (mine : Bool). absorb_all (w.solos e) (if mine then item ∷ [] else [])) (eq-eqb e e refl)

pub told_other : (w : World) (e : ℕ) (item : Item) (i : ℕ) → i ≢ e → (after w (tells e item w)).solos i ≡ w.solos i
told_other w e item i other = ap (λ (mine : Bool). absorb_all (w.solos i) (if mine then item ∷ [] else [])) (ne_eqb i e other)

-- neither a store nor a trap is a call
pub store_calls_not : (x : Option Store) (c : Option Call) → store_act x ≡ Calls c → ⊥
store_calls_not x c is = search rules

pub trap_calls_not : (handler : ℕ) (exc : Exc) (c : Option Call) → trap_act handler exc ≡ Calls c → ⊥
trap_calls_not handler exc c = cond_both (handler == 0) (Dies (cause.Trapped exc.code)) (Raises exc) (λ (act : Act). act ≡ Calls c → ⊥) (λ none is. cc) (λ handles is. cc)

-- a call is that which the registers name
call_names : (cpu : Cpu) (c : Option Call) (exits : Bool) → act_at_call cpu exits ≡ Calls c → called cpu ≡ c
call_names cpu c exits is = search rules

step_names : (s : Solo) (st : MachineStep) (c : Option Call) → act_of s st ≡ Calls c → called s.cpu ≡ c
step_names s st c is = search (rules, store_calls_not, call_names, trap_calls_not)

pub call_named : (w : World) (e : ℕ) (c : Option Call) → act_now w e ≡ Calls c → called (w.solos e).cpu ≡ c
call_named w e c is = let s = w.solos e in step_names s (step_alone s) c is

-- a call leaves its caller's registers
call_cpu : (s : Solo) (st : MachineStep) (c : Option Call) → act_of s st ≡ Calls c → cpu_after s.cpu st ≡ s.cpu
call_cpu s st c is = search (rules, store_calls_not)

call_stepped : (s : Solo) (c : Option Call) → act_of s (step_alone s) ≡ Calls c → stepped s (step_alone s) ≡ s
call_stepped s c is = search (rules, call_cpu)

call_absorbed : (s : Solo) (c : Option Call) → act_of s (step_alone s) ≡ Calls c → absorb s Step ≡ s
call_absorbed s c is = cond_both (is_dead s.life) s (stepped s (step_alone s)) (λ (t : Solo). t ≡ s) (λ gone. refl) (λ lives. call_stepped s c is)

-- and so the whole world
pub call_stands : (w : World) (e : ℕ) (c : Option Call) → act_now w e ≡ Calls c → after w (tells e Step w) ≡ w
call_stands w e c is = λ k. record { book = w.book; count = w.count; solos = λ i. by_test i (i == e) refl k; rows = append-nil w.rows k }
  where
    by_test : (i : ℕ) (mine : Bool) → (i == e) ≡ mine → absorb_all (w.solos i) (if mine then Step ∷ [] else []) ≡ w.solos i
    by_test i true own = call_absorbed (w.solos i) c (ap (λ (n : ℕ). act_now w n) (eqb-true i e own) ∙ is)
    by_test i false other = refl

pub told_named : (w : World) (e : ℕ) (c : Option Call) → act_now w e ≡ Calls c → called ((after w (tells e Step w)).solos e).cpu ≡ c
told_named w e c is = ap (λ (v : World). called (v.solos e).cpu) (call_stands w e c is) ∙ call_named w e c is

-- what the deed of a granted call presupposes the world has
pub deed_may : GrantedMay → (w : World) (e : ℕ) (c : Option Call) → called (w.solos e).cpu ≡ c → (value : ℕ) → verdict w e c ≡ Grant value → May w e (deed_at (w.solos e) value)
deed_may granted w e c named value is = subst (λ (call : Option Call). May w e (deed_of call value (w.solos e).cpu)) (sym named) (granted w e c value is)

-- and it is done
pub call_does : (w : World) (e : ℕ) (c : Option Call) → Acts w e (Calls c) → (value : ℕ) → verdict w e c ≡ Grant value → Does w e (deed_at (w.solos e) value)
call_does w e c acts value is = record { call = c; acts = acts; value = value; granted = is; done = ap (λ (call : Option Call). deed_of call value (w.solos e).cpu) (sym (call_named w e c acts.comes)) }

-- Whether an environment is quiet is decided tick by tick.
use Rattle.std.proofs.Common.{◌≡◌, ◌<◌, ℕ, zero, suc, Bool, true, false, Option, None, Some, inl, inr, refl, sym, ◌∙◌, ap, subst, arith, eq-eqb}
use Rattle.std.specs.Prelude.{◌||◌, not}
use Rattle.std.specs.List.{list_any}
use Rattle.std.proofs.lemmas.Bool.{and_from, and_parts, cases_lt, eqb-true, not-true, not_from_false, or_left, or_right}
use Rattle.mips_exec.specs.declared.registers.Cpu.{Cpu}
use Rattle.world_model.specs.declared.call.Call.{Call}
use Rattle.world_model.specs.declared.slot.Runner.{Runner}
use Rattle.world_model.specs.Book.{is_runner, running}
use Rattle.world_model.specs.Step.{Act, Nothing, Stores, Calls, Raises, Dies}
use Rattle.world_model.specs.Tick.{act_now}
use Rattle.world_model.specs.World.{World}
use Rattle.run_model.specs.Acting.{Acts}
use Rattle.run_model.specs.Boot.{boot_world}
use Rattle.run_model.specs.Run.{System, at_step}
use Rattle.quiet_law.specs.Alone.{is_quiet_call}
use Rattle.quiet_law.specs.Decided.{QuietIsDecided, acts_quietly, is_quiet_act, is_quiet_in, is_quiet_so_far}
use Rattle.quiet_law.specs.Quiet.{IsQuiet, is_asking}

-- who runs
runs_then : (e : ℕ) (o : Option Runner) → running o ≡ Some e → is_runner e o ≡ true
runs_then e None is = cc
runs_then e (Some r) is = let same : r.env ≡ e = cc in eq-eqb r.env e same

runner_is : (e : ℕ) (o : Option Runner) → is_runner e o ≡ true → running o ≡ Some e
runner_is e None is = cc
runner_is e (Some r) is = ap (λ (n : ℕ). Some n) (eqb-true r.env e is)

module _ (e : ℕ) (w : World) where
  abbrev cpu : Cpu
  cpu = (w.solos e).cpu

  -- the calls of who acts quietly are quiet,
  pub calls_quiet : acts_quietly e w ≡ true → (c : Option Call) → Acts w e (Calls c) → is_quiet_call cpu c ≡ true
  calls_quiet quiet c acts =
      let act : is_quiet_act cpu (act_now w e) ≡ true =
      ap (λ (runs : Bool). not runs || is_quiet_act cpu (act_now w e)) (sym (runs_then e w.book.runner acts.runs)) ∙ quiet in
      ap (is_quiet_act cpu) (sym acts.comes) ∙ act

  -- and who makes quiet calls alone acts quietly
  act_quiet : (act : Act) → ((c : Option Call) → act ≡ Calls c → is_quiet_call cpu c ≡ true) → is_quiet_act cpu act ≡ true
  act_quiet Nothing calls = refl
  act_quiet (Stores x) calls = refl
  act_quiet (Calls c) calls = calls c refl
  act_quiet (Raises exc) calls = refl
  act_quiet (Dies cause) calls = refl

  by_runs : (runs : Bool) → is_runner e w.book.runner ≡ runs → ((c : Option Call) → Acts w e (Calls c) → is_quiet_call cpu c ≡ true) → acts_quietly e w ≡ true
  by_runs true on calls =
      or_right (not (is_runner e w.book.runner)) (is_quiet_act cpu (act_now w e))
      (act_quiet (act_now w e) (λ c comes. calls c (record { runs = runner_is e w.book.runner on; comes = comes })))
  by_runs false off calls = or_left (not (is_runner e w.book.runner)) (is_quiet_act cpu (act_now w e)) (not_from_false (is_runner e w.book.runner) off)

  pub quiet_acts : ((c : Option Call) → Acts w e (Calls c) → is_quiet_call cpu c ≡ true) → acts_quietly e w ≡ true
  quiet_acts calls = by_runs (is_runner e w.book.runner) refl calls

module _ (system : System) (e : ℕ) where
  found : (t : ℕ) → is_quiet_so_far system e t ≡ true → IsQuiet system e t
  found zero is = record {
    calls = λ u c below acts. absurd (omega (arith, below));
    accepts_nobody = eqb-true ((boot_world system.image).solos e).mask 0 is;
    unasked = λ u below. absurd (omega (arith, below));
  }
  found (suc t) is =
      let asked = list_any (is_asking e) (system.schedule t) in
      let parts = and_parts (is_quiet_so_far system e t) (is_quiet_in system e t) is in
      let now = and_parts (acts_quietly e (at_step system t)) (not asked) parts.1 in
      let before = found t parts.0 in
      record {
        calls = λ u c below acts. by_tick u (omega (arith, below)) before.calls now.0 c acts;
        accepts_nobody = before.accepts_nobody;
        unasked = λ u below. elim (cases_lt u t) [
          | inl less ↦ before.unasked u less
          | inr past ↦ (let last : t ≡ u = omega (arith, past, below) in subst (λ n. list_any (is_asking e) (system.schedule n) ≡ false) last (not-true asked now.1))
        ];
      }
    where
      by_tick : (u : ℕ) → u < suc t → ((v : ℕ) (c : Option Call) → v < t → Acts (at_step system v) e (Calls c) → is_quiet_call ((at_step system v).solos e).cpu c ≡ true)
          → acts_quietly e (at_step system t) ≡ true → (c : Option Call) → Acts (at_step system u) e (Calls c) → is_quiet_call ((at_step system u).solos e).cpu c ≡ true
      by_tick u below before now = elim (cases_lt u t) as (λ x. (c : Option Call) → Acts (at_step system u) e (Calls c) → is_quiet_call ((at_step system u).solos e).cpu c ≡ true) [
        | inl less ↦ λ c acts. before u c less acts
        | inr past ↦
            let last : t ≡ u = omega (arith, past, below) in
            subst (λ n. (c : Option Call) → Acts (at_step system n) e (Calls c) → is_quiet_call ((at_step system n).solos e).cpu c ≡ true) last (calls_quiet e (at_step system t) now)
      ]

  shown : (t : ℕ) → IsQuiet system e t → is_quiet_so_far system e t ≡ true
  shown zero quiet = eq-eqb ((boot_world system.image).solos e).mask 0 quiet.accepts_nobody
  shown (suc t) quiet =
      and_from (is_quiet_so_far system e t) (is_quiet_in system e t)
      (shown t (record { calls = λ u c below acts. quiet.calls u c (omega (arith, below)) acts; accepts_nobody = quiet.accepts_nobody; unasked = λ u below. quiet.unasked u (omega (arith, below)) }))
      (and_from (acts_quietly e (at_step system t)) (not (list_any (is_asking e) (system.schedule t)))
      (quiet_acts e (at_step system t) (λ c acts. quiet.calls t c (omega arith) acts))
      (not_from_false (list_any (is_asking e) (system.schedule t)) (quiet.unasked t (omega arith))))

pub quiet_is_decided : QuietIsDecided
quiet_is_decided system e t = (found system e t, shown system e t)

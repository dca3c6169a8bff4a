-- What a step's look-ups count, and that nothing else counts.
use Rattle.std.proofs.Common.{◌≡◌, ◌∙◌, ℕ, zero, suc, length, Bool, true, false, List, [], ◌∷◌, Option, Some, None, refl, ap, arith}
use Rattle.std.specs.Prelude.{◌≤◌, if◌then◌else◌}
use Rattle.env_frames.specs.declared.mapping.Mapping.{Mapping}
use Rattle.tlb_model.specs.declared.fills.Fills.{Fills}
use Rattle.tlb_model.specs.Cache.{Cache, refilled, with_forwarded, with_random_fallen}
use Rattle.tlb_model.specs.Lookups.{is_missed, next_refill, settled, settled_by}
use Rattle.tlb_course.specs.Accesses.{is_kept, mapping_for, step_vpns}
use Rattle.tlb_course.specs.Course.{cache_served, cache_stepped_by}
use Rattle.run_model.specs.Run.{after_phase}
use Rattle.world_model.specs.declared.slot.Runner.{Runner}
use Rattle.world_model.specs.Solo.{Solo}
use Rattle.world_model.specs.Step.{step_alone}
use Rattle.world_model.specs.Tick.{served, turn}
use Rattle.world_model.specs.World.{World}
use Rattle.tlb_course.specs.Fills.{AreFew, TicksFillFew, miss_counted, refills_counted}

-- at most so many refills are counted
record Counts (n e : ℕ) (before after : List Fills) : Type 0 where
  guaranteed : List Bool
  few : length guaranteed ≤ n
  counted : after ≡ refills_counted e guaranteed before

none_counted : (n e : ℕ) (fills : List Fills) → Counts n e fills fills
none_counted n e fills = record { guaranteed = []; few = omega arith; counted = refl }

by_refill : (n : ℕ) (again : Cache → Cache) (kept : ℕ → Bool) (e : ℕ) (o : Option Mapping) (c : Cache) → ((d : Cache) → Counts n e d.fills (again d).fills)
    → Counts (suc n) e c.fills (settled_by again kept e o c).fills
by_refill n again kept e None c rest = none_counted (suc n) e c.fills
by_refill n again kept e (Some m) c rest =
    let more = rest (refilled (kept m.vpn) e m c) in
    record { guaranteed = kept m.vpn ∷ more.guaranteed; few = omega (arith, more.few); counted = more.counted }

settled_counts : (n : ℕ) (kept : ℕ → Bool) (leads : ℕ → Option Mapping) (e : ℕ) (vpns : List ℕ) (c : Cache) → Counts n e c.fills (settled n kept leads e vpns c).fills
settled_counts zero kept leads e vpns c = none_counted 0 e c.fills
settled_counts (suc n) kept leads e vpns c =
    by_refill n (settled n kept leads e vpns) kept e (next_refill leads e vpns c.rows) c (settled_counts n kept leads e vpns)

attempt_counts : (e : ℕ) (b : Bool) (c : Cache) → (with_random_fallen (if b then with_forwarded e c else c)).fills ≡ miss_counted e b c.fills
attempt_counts e true c = refl
attempt_counts e false c = refl

step_counts : (w : World) (o : Option Runner) (c : Cache) → AreFew c.fills (cache_stepped_by w o c).fills
step_counts w None c = record { env = 0; guaranteed = []; few = omega arith; forwarded = false; counted = refl }
step_counts w (Some r) c =
    let s : Solo = w.solos r.env in
    let looked = settled_counts 2 (is_kept w.book r.env) (mapping_for w.book r.env) r.env (step_vpns s) c in
    let d : Cache = settled 2 (is_kept w.book r.env) (mapping_for w.book r.env) r.env (step_vpns s) c in
    record {
      env = r.env;
      guaranteed = looked.guaranteed;
      few = looked.few;
      forwarded = is_missed (step_alone s);
      counted = attempt_counts r.env (is_missed (step_alone s)) d ∙ ap (miss_counted r.env (is_missed (step_alone s))) looked.counted;
    }

pub ticks_fill_few : TicksFillFew
ticks_fill_few w c = let v = after_phase turn (served w) in step_counts v v.book.runner (cache_served w c)

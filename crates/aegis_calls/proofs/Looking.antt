-- The accesses of the runner's step are looked up on the board as the model says, and the step is the model's.
use Rattle.std.proofs.Common.{◌≡◌, ℕ, ◌++◌, Option, Some, None, refl, sym, ◌∙◌, ap, rules}
use Rattle.mips_exec.specs.Step.{view_of}
use Rattle.guest_memory.specs.Space.{lookup}
use Rattle.world_model.specs.declared.slot.Runner.{Runner}
use Rattle.world_model.specs.Book.{running}
use Rattle.world_model.specs.Page.{Mapped, answers_by}
use Rattle.world_model.specs.Solo.{Solo}
use Rattle.world_model.specs.Step.{act_of, step_alone}
use Rattle.board_model.specs.Doing.{after_runner_step, lookup_of, step_seen}
use Rattle.board_model.specs.Refilling.{vpns_of, with_lookups}
use Rattle.board_model.specs.Shown.{Shown}
use Rattle.board_model.specs.Showing.{book_of, solo_of, world_of}
use Rattle.board_model.specs.Sound.{HasRunner, IsSoundBoard}
use Rattle.board_model.specs.declared.roster.Environment.{Environment}
use Rattle.board_model.proofs.Seen.{Runs, its_look, its_step, runner_runs, runner_seen, runner_solo}
use Rattle.tlb_model.specs.Lookups.{attempted, data_vpns, fetch_vpns, settled}
use Rattle.tlb_course.specs.Accesses.{is_kept, mapping_for, step_vpns}
use Rattle.tlb_course.specs.Course.{cache_acted, cache_looked, cache_stepped_by}
use Rattle.aegis_calls.proofs.Emptying.{step_empties}

-- where VPNs lead by the board, they lead by its book
pub leads_by_book : (b : Shown) (e : ℕ) → lookup_of b e ≡ mapping_for (book_of b) e
unfolding lookup
leads_by_book b e = refl

module _ (b : Shown) (e : ℕ) (x : Environment) (r : Runs b e x) (sound : IsSoundBoard b) where
  -- the accesses of the runner's step are those of the environment alone
  pub vpns_are : vpns_of b e ≡ step_vpns (solo_of b e)
  vpns_are =
      ap (λ (l : ℕ → Option Mapped). fetch_vpns b.cpu.pc ++ data_vpns b.cpu (view_of (answers_by l) b.cpu).fetch) (λ k v. its_look b e x r sound v k)
      ∙ ap step_vpns (sym (runner_seen b e x r))

  pub step_is : step_seen b e ≡ step_alone (solo_of b e)
  step_is = its_step b e x r sound ∙ ap step_alone (sym (runner_seen b e x r))

  looked : (with_lookups b e).tlb ≡ cache_looked (world_of b) e b.tlb
  looked =
      ap (λ st. attempted e st (settled 2 (is_kept (book_of b) e) (lookup_of b e) e (vpns_of b e) b.tlb)) step_is
      ∙ ap (λ vpns. attempted e (step_alone (solo_of b e)) (settled 2 (is_kept (book_of b) e) (lookup_of b e) e vpns b.tlb)) vpns_are
      ∙ ap (λ leads. attempted e (step_alone (solo_of b e)) (settled 2 (is_kept (book_of b) e) leads e (step_vpns (solo_of b e)) b.tlb)) (leads_by_book b e)

  -- the runner's step, with its call or death
  pub runner_stepped : (after_runner_step (with_lookups b e) e (step_seen b e)).tlb ≡ cache_acted (world_of b) e (act_of (solo_of b e) (step_alone (solo_of b e))) (cache_looked (world_of b) e b.tlb)
  runner_stepped =
      step_empties (with_lookups b e) e x (record { at = r.at; lives = r.lives; runs = r.runs }) (step_seen b e)
      ∙ ap (λ st. cache_acted (world_of b) e (act_of (runner_solo b e x) st) (with_lookups b e).tlb) step_is
      ∙ ap (λ (s : Solo). cache_acted (world_of b) e (act_of s (step_alone (solo_of b e))) (with_lookups b e).tlb) (sym (runner_seen b e x r))
      ∙ ap (cache_acted (world_of b) e (act_of (solo_of b e) (step_alone (solo_of b e)))) looked

pub stepped_course : (b : Shown) (e : ℕ) → HasRunner b e → (o : Option Runner) → running o ≡ Some e → (after_runner_step (with_lookups b e) e (step_seen b e)).tlb ≡ cache_stepped_by (world_of b) o b.tlb
stepped_course b e has None is = search rules
stepped_course b e has (Some runner) is =
    let x = runner_runs b e has.sound has.runs in
    let same : e ≡ runner.env = cc in
    runner_stepped b e x.0 x.1 has.sound ∙ ap (λ n. cache_stepped_by (world_of b) (Some (record runner { env = n })) b.tlb) same

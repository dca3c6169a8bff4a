-- A step by which the program is known to enter the kernel lowers Random, and changes nothing else.
use Rattle.std.proofs.Common.{◌≡◌, ℕ, ap, sym, ◌∙◌, refl}
use Rattle.mips_exec.specs.Step.{outcome_of}
use Rattle.r3k_machine.specs.declared.entry.Entry.{Entry}
use Rattle.r3k_machine.specs.declared.entry.Entry.TheVariants.{Break, Call}
use Rattle.r3k_machine.specs.Entry.{came_by}
use Rattle.tlb_model.specs.Cache.{Cache, with_random_fallen}
use Rattle.tlb_model.specs.Lookups.{attempted, settled, settled_by}
use Rattle.board_model.specs.Doing.{after_machine_step, lookup_of, step_seen}
use Rattle.board_model.specs.Refilling.{is_kept_by, settled_of, vpns_of, with_lookups}
use Rattle.board_model.specs.Shown.{Shown, mappings_of}
use Rattle.aegis_calls.specs.Entering.{StandsAt}
use Rattle.aegis_calls.proofs.board.Board.make_known.Goals as goal

-- nothing is refilled
settled_still : (b : Shown) (e : ℕ) (entry : Entry) → StandsAt b e entry → settled_of b e ≡ b.tlb
settled_still b e entry stands =
    ap (λ o. settled_by (settled 1 (is_kept_by (mappings_of b.roster.list e)) (lookup_of b e) e (vpns_of b e)) (is_kept_by (mappings_of b.roster.list e)) e o b.tlb) stands.found

-- what a step that came so leaves, over any rows
left_by : (b : Shown) (e : ℕ) (entry : Entry) (c : Cache) → after_machine_step (record b { tlb = attempted e (came_by entry) c }) e (came_by entry) ≡ record b { tlb = with_random_fallen c }
left_by b e Call c = refl
left_by b e Break c = refl

known : (b : Shown) (e : ℕ) (entry : Entry) → StandsAt b e entry → record b { tlb = with_random_fallen b.tlb } ≡ after_machine_step (with_lookups b e) e (step_seen b e)
known b e entry stands =
    ap (λ c. record b { tlb = with_random_fallen c }) (sym (settled_still b e entry stands))
    ∙ sym (left_by b e entry (settled_of b e))
    ∙ ap (λ st. after_machine_step (record b { tlb = attempted e st (settled_of b e) }) e st) (sym stands.step)

pub returns-clause-outcome : goal.returns-clause-outcome
returns-clause-outcome c = sym (ap outcome_of c.requires.step)

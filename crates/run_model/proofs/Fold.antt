-- Each environment is the fold of its feed.
use Rattle.std.proofs.lemmas.Grind.{common_steps}
use Rattle.std.proofs.Common.{◌≡◌, ℕ, zero, suc, List, [], Bool, refl, sym, ap, rules, arith}
use Rattle.std.specs.Prelude.{if◌then◌else◌}
use Rattle.world_model.specs.Solo.{absent}
use Rattle.world_model.specs.Item.{absorb_all}
use Rattle.world_model.specs.World.{World, Reply, in_turn, run_phases}
use Rattle.run_model.specs.Run.{System, world_after, feed, IsFoldOfFeed}
use Rattle.run_model.proofs.Phases.{absorb-append, in_turn_is_each}

-- after phases each environment is what it makes of what it is given in them
pub fold_of_phases : (phases : List (World → Reply)) (w : World) (e : ℕ) → (run_phases w phases).solos e ≡ absorb_all (w.solos e) ((in_turn phases w).items e)
fold_of_phases phases w e = ap (λ (v : World). v.solos e) (sym (in_turn_is_each w phases))

next_when : (phases : List (World → Reply)) (w : World) (e : ℕ) (idle : Bool)
    → (if idle then w else run_phases w phases).solos e ≡ absorb_all (w.solos e) (if idle then [] else (in_turn phases w).items e)
next_when phases w e idle = search (rules, fold_of_phases)

pub fold_of_feed : (system : System) (t e : ℕ) → (world_after system t).solos e ≡ absorb_all (absent e) (feed system e t)
fold_of_feed system zero e = refl
fold_of_feed system (suc t) e = grind (arith, common_steps, next_when, absorb-append, (fold_of_feed system t e))

pub is_fold_of_feed : IsFoldOfFeed
is_fold_of_feed = fold_of_feed

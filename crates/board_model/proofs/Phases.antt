-- Phases in turn are phases one after another, and what an environment does after it was told something.
use Rattle.std.proofs.Common.{◌≡◌, ℕ, [], ◌∷◌, Option, refl, sym, ◌∙◌, ap}
use Rattle.std.proofs.lemmas.List.{append-nil}
use Rattle.world_model.specs.declared.call.Call.{Call}
use Rattle.world_model.specs.Item.{Item, absorb, absorb_all}
use Rattle.world_model.specs.Step.{Act, Nothing, Stores, Calls, Raises, Dies, acted}
use Rattle.world_model.specs.Table.{set_at}
use Rattle.world_model.specs.Tick as tick
use Rattle.world_model.specs.World.{World, after, in_turn, no_change, only, tells}
use Rattle.run_model.proofs.Phases.{after_no_change, in_turn_is_each}
use Rattle.board_model.proofs.Parts.{by_env, only_here, only_else, set_here, set_else, worlds}
use Rattle.page_laws.proofs.Tables.{set_same}

-- a world in which nothing happens
pub quiet_world : (w : World) → w ≡ after w (no_change w)
quiet_world w = sym (after_no_change w)

-- the world in which an environment has done its act
abbrev pub acted_world : World → ℕ → Act → World
acted_world w e act = record w { solos = set_at e (acted act (w.solos e)) w.solos }

-- a call does nothing itself
pub called_still : (w : World) (e : ℕ) (c : Option Call) → acted_world w e (Calls c) ≡ w
called_still w e c = worlds (acted_world w e (Calls c)) w refl refl (set_same e w.solos) refl

-- what an act brings doesn't hang on what the environment did itself
pub acted_brings : (w : World) (e : ℕ) (act : Act) → tick.act_reply e act (acted_world w e act) ≡ tick.act_reply e act w
acted_brings w e Nothing = refl
acted_brings w e (Stores x) = refl
acted_brings w e (Calls c) = ap (tick.act_reply e (Calls c)) (called_still w e c)
acted_brings w e (Raises exc) = refl
acted_brings w e (Dies cause) = refl

-- where what it is told makes it do the act
pub told_acted : (w : World) (e : ℕ) (item : Item) (act : Act) → absorb (w.solos e) item ≡ acted act (w.solos e) → after w (tells e item w) ≡ acted_world w e act
told_acted w e item act acts =
    worlds (after w (tells e item w)) (acted_world w e act) refl refl
    (by_env (λ i. absorb_all (w.solos i) (only e (item ∷ []) i)) (set_at e (acted act (w.solos e)) w.solos) e
    (ap (absorb_all (w.solos e)) (only_here e (item ∷ [])) ∙ acts ∙ sym (set_here e (acted act (w.solos e)) w.solos))
    (λ i ne. ap (absorb_all (w.solos i)) (only_else e i (item ∷ []) ne) ∙ sym (set_else e i (acted act (w.solos e)) w.solos ne)))
    (append-nil w.rows)

-- it is told, and then comes what the act brings
pub told_first : (w : World) (e : ℕ) (item : Item) (act : Act) → absorb (w.solos e) item ≡ acted act (w.solos e) → after w (in_turn (tells e item ∷ tick.act_reply e act ∷ []) w) ≡ tick.act_world w e act
told_first w e item act acts =
    in_turn_is_each w (tells e item ∷ tick.act_reply e act ∷ [])
    ∙ ap (λ v. after v (tick.act_reply e act v)) (told_acted w e item act acts)

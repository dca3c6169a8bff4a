-- Phases that are told, one after another.
use Rattle.std.proofs.Common.{◌≡◌, ◌<◌, ◌+◌, ℕ, List, [], ◌∷◌, ◌++◌, length, map, take, get_or, refl, sym, ◌∙◌, ap}
use Rattle.std.proofs.lemmas.List.{append-nil, append_assoc, map-append, take_more}
use Rattle.external_event.specs.EventValue.{EventValue}
use Rattle.feed_log.specs.Views.{ItemSeen}
use Rattle.revocation_book.specs.declared.revocation.Taking.{Taking}
use Rattle.world_model.specs.Deadlines.{settles, takes}
use Rattle.world_model.specs.Event.{happen}
use Rattle.world_model.specs.Item.{Item}
use Rattle.world_model.specs.Tick.{serve_phases, step, tick_phases, timer, turn}
use Rattle.world_model.specs.World.{World, Reply, after, in_turn, run_phases}
use Rattle.run_model.proofs.Phases.{run_append}
use Rattle.aegis_tick.specs.Agenda.{occurrences}
use Rattle.feed_telling.specs.Tell.{AreTold}
use Rattle.feed_telling.proofs.Telling.{told_as, told_both}
use Rattle.feed_run.specs.Phases.{PhaseTold, PhasesTold}

-- what phases give in two parts
items_append : (ps qs : List (World → Reply)) (w : World) (e : ℕ)
    → (in_turn ps w).items e ++ (in_turn qs (run_phases w ps)).items e ≡ (in_turn (ps ++ qs) w).items e
items_append [] qs w e = refl
items_append (p ∷ ps) qs w e =
    let v = after w (p w) in
    append_assoc ((p w).items e) ((in_turn ps v).items e) ((in_turn qs (run_phases v ps)).items e)
    ∙ ap (λ (xs : List Item). (p w).items e ++ xs) (items_append ps qs v e)

pub nothing_told : (log : List ItemSeen) → AreTold log log []
nothing_told log = record { log = sym (append-nil log); fit = tt }

pub one_told : (e : ℕ) (phase : World → Reply) (w v : World) (old new : List ItemSeen) → v ≡ after w (phase w)
    → AreTold old new ((phase w).items e) → PhaseTold e phase w v old new
one_told e phase w v old new world told = record {
  world = world;
  told = told_as old new _ _ (sym (append-nil ((phase w).items e))) told;
}

pub both_told : (e : ℕ) (ps qs : List (World → Reply)) (w v u : World) (a b c : List ItemSeen) → PhasesTold e ps w v a b
    → PhasesTold e qs v u b c → PhasesTold e (ps ++ qs) w u a c
both_told e ps qs w v u a b c first second =
    let xs = (in_turn ps w).items e in
    let all : xs ++ (in_turn qs v).items e ≡ (in_turn (ps ++ qs) w).items e =
    ap (λ (x : World). xs ++ (in_turn qs x).items e) first.world ∙ items_append ps qs w e in
    record {
      world = second.world ∙ ap (λ (x : World). run_phases x qs) first.world ∙ sym (run_append w ps qs);
      told = told_as a c _ _ all (told_both a b c xs ((in_turn qs v).items e) first.told second.told);
    }

-- the events so far, and one more
pub one_event_more : (es : List EventValue) (i : ℕ) (x : EventValue) → i < length es → x ≡ get_or es i x
    → map happen (occurrences (take i es)) ++ happen x.what ∷ [] ≡ map happen (occurrences (take (i + 1) es))
one_event_more es i x within is =
    sym (map-append happen (occurrences (take i es)) (x.what ∷ []))
    ∙ ap (map happen) (sym (map-append (λ (y : EventValue). y.what) (take i es) (x ∷ [])))
    ∙ ap (λ (xs : List EventValue). map happen (occurrences (take i es ++ xs))) (ap (λ (y : EventValue). y ∷ []) is)
    ∙ ap (λ (xs : List EventValue). map happen (occurrences xs)) (sym (take_more es i x within))

-- a tick once its events are over
pub tick_joined : (xs : List Taking) → serve_phases xs ++ turn ∷ step ∷ timer ∷ [] ≡ tick_phases xs
tick_joined xs = append_assoc (map takes xs) (settles ∷ []) (turn ∷ step ∷ timer ∷ [])

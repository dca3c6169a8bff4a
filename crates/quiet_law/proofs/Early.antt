-- What comes in a tick before its turn: events, takings and the end of deadlines.
use Rattle.std.proofs.Common.{◌≡◌, ℕ, List, [], ◌∷◌, ◌++◌, map, false, refl, sym, ◌∙◌, ap, subst}
use Rattle.std.specs.List.{list_any}
use Rattle.std.proofs.lemmas.Bool.{or_parts}
use Rattle.external_event.specs.declared.event.Occurrence.{Occurrence}
use Rattle.revocation_book.specs.declared.revocation.Taking.{Taking}
use Rattle.revocation_book.specs.Takings.{AreTakable}
use Rattle.world_model.specs.Deadlines.{settles, takes}
use Rattle.world_model.specs.Event.{happen}
use Rattle.world_model.specs.Item.{Item, absorb_all}
use Rattle.world_model.specs.PageCalls.{revocations}
use Rattle.world_model.specs.World.{World, Reply, after, in_turn, run_phases}
use Rattle.quiet_law.specs.Quiet.{is_asking}
use Rattle.quiet_law.proofs.Clear.{IsClear}
use Rattle.quiet_law.proofs.Others.{Waits, event_waits, taking_waits}

-- A world is an earlier one, as far as the environment is concerned.
pub record IsAsBefore (e : ℕ) (w v : World) : Type 0 where
  pub clear : IsClear e v.book
  pub solo : v.solos e ≡ w.solos e
  pub excess : v.book.excess e ≡ w.book.excess e
  pub quantum : v.book.quantum ≡ w.book.quantum
  pub runner : v.book.runner ≡ w.book.runner

-- Phases bring it so, and give the environment nothing: what it is given in them and others behind them, it is given in
-- the others.
pub record Leads (e : ℕ) (w : World) (phases : List (World → Reply)) : Type 0 where
  pub before : IsAsBefore e w (run_phases w phases)
  pub items : (more : List (World → Reply)) → (in_turn (phases ++ more) w).items e ≡ (in_turn more (run_phases w phases)).items e

leads_none : (e : ℕ) (w : World) → IsClear e w.book → Leads e w []
leads_none e w clear = record { before = record { clear = clear; solo = refl; excess = refl; quantum = refl; runner = refl }; items = λ more. refl }

leads_on : (e : ℕ) (w : World) (phase : World → Reply) (phases : List (World → Reply)) → Waits e w (phase w) → Leads e (after w (phase w)) phases → Leads e w (phase ∷ phases)
leads_on e w phase phases waits rest =
    let b = rest.before in
    let a = waits.aside in
    record {
      before = record {
        clear = b.clear;
        solo = b.solo ∙ ap (absorb_all (w.solos e)) a.nothing;
        excess = b.excess ∙ a.excess;
        quantum = b.quantum ∙ a.quantum;
        runner = b.runner ∙ waits.runner;
      };
      items = λ more. ap (λ (xs : List Item). xs ++ (in_turn (phases ++ more) (after w (phase w))).items e) a.nothing ∙ rest.items more;
    }

pub leads_both : (e : ℕ) (xs ys : List (World → Reply)) (w : World) → Leads e w xs → Leads e (run_phases w xs) ys → (run_phases w (xs ++ ys) ≡ run_phases (run_phases w xs) ys) → ((zs : List (World → Reply)) → (xs ++ ys) ++ zs ≡ xs ++ (ys ++ zs)) → Leads e w (xs ++ ys)
leads_both e xs ys w first next two regroup =
    let f = first.before in
    let n = next.before in
    let whole : IsAsBefore e w (run_phases (run_phases w xs) ys) = record {
      clear = n.clear;
      solo = n.solo ∙ f.solo;
      excess = n.excess ∙ f.excess;
      quantum = n.quantum ∙ f.quantum;
      runner = n.runner ∙ f.runner;
    } in
    record {
      before = subst (IsAsBefore e w) (sym two) whole;
      items = λ more. ap (λ phases. (in_turn phases w).items e) (regroup more) ∙ first.items (ys ++ more) ∙ next.items more ∙ ap (λ (v : World). (in_turn more v).items e) (sym two);
    }

-- what happens, where nobody asks the environment
pub events_lead : (e : ℕ) (happens : List Occurrence) (w : World) → IsClear e w.book → list_any (is_asking e) happens ≡ false → Leads e w (map happen happens)
events_lead e [] w clear unasked = leads_none e w clear
events_lead e (what ∷ happens) w clear unasked =
    let parts = or_parts (is_asking e what) (list_any (is_asking e) happens) unasked in
    let waits = event_waits e w clear what parts.0 in
    leads_on e w (happen what) (map happen happens) waits (events_lead e happens (after w (happen what w)) waits.aside.clear parts.1)

-- what is taken, where it may be, and the end of deadlines
settles_waits : (e : ℕ) (w : World) → IsClear e w.book → Waits e w (settles w)
settles_waits e w clear = record {
  aside = record { nothing = refl; clear = record { owned = clear.owned; bound = clear.bound; claims = clear.claims; lines = clear.lines }; excess = refl; quantum = refl };
  runner = refl;
}

pub takings_lead : (e : ℕ) (xs : List Taking) (w : World) → IsClear e w.book → AreTakable (revocations w.book) w.book.time xs → Leads e w (map takes xs ++ settles ∷ [])
takings_lead e [] w clear may = let waits = settles_waits e w clear in leads_on e w settles [] waits (leads_none e (after w (settles w)) waits.aside.clear)
takings_lead e (x ∷ xs) w clear (may, rest) =
    let waits = taking_waits e w clear x may.owned in
    leads_on e w (takes x) (map takes xs ++ settles ∷ []) waits (takings_lead e xs (after w (takes x w)) waits.aside.clear rest)

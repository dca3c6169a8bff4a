-- The turn: who starts in it lives, and owes nothing.
use Rattle.std.proofs.Common.{◌≡◌, ◌≢◌, ◌+◌, ◌%◌, ℕ, zero, suc, [], ◌∷◌, Bool, true, false, Option, None, Some, inl, inr, refl, sym, ◌∙◌, ap, subst}
use Rattle.std.specs.Prelude.{◌==◌, if◌then◌else◌}
use Rattle.std.proofs.lemmas.Bool.{cases_eq, eqb-true, ne_eqb}
use Rattle.world_model.specs.declared.hold.Hold.{Hold}
use Rattle.world_model.specs.declared.slot.Phase.TheVariants as phase
use Rattle.world_model.specs.declared.slot.Runner.{Runner}
use Rattle.world_model.specs.declared.slot.Turn.{Turn}
use Rattle.world_model.specs.Book.{WholeTurn, excess_after_forfeit, first_turn, is_runner, owed, pays_first, turn_from, turn_or, turn_within, whole_turn}
use Rattle.world_model.specs.Item.{Start}
use Rattle.world_model.specs.Tick.{take_turn, turn_when}
use Rattle.world_model.specs.World.{World, Reply, no_change, only}
use Rattle.world_model.proofs.Slots.{holder_in}
use Rattle.run_model.specs.Excess.{AreSlotsLive, Lives}
use Rattle.quiet_law.proofs.Clear.{IsClear}
use Rattle.quiet_law.proofs.Others.{Waits, only_other}
use Rattle.quiet_law.proofs.Own.{only_own}

-- the next turn is a holder's
module _ (slots : ℕ → Option Hold) (count : ℕ) where
  held_or : (slot : ℕ) (hold : Option Hold) (later : Option Turn) (t : Turn) → slots slot ≡ hold → (later ≡ Some t → holder_in (slots t.slot) ≡ Some t.env) → turn_or slot hold later ≡ Some t → holder_in (slots t.slot) ≡ Some t.env
  held_or slot None later t is further found = further found
  held_or slot (Some hold) later t is further found =
      let its : record { slot = slot; env = hold.holder } ≡ t = cc in
      subst (λ (u : Turn). holder_in (slots u.slot) ≡ Some u.env) its (ap holder_in is)

  first_held : (place tries : ℕ) (t : Turn) → first_turn slots count place tries ≡ Some t → holder_in (slots t.slot) ≡ Some t.env
  first_held place zero t is = cc
  first_held place (suc tries) t is =
      let next = (place + 1) % count in
      held_or next (slots next) (first_turn slots count next tries) t refl (first_held next tries t) is

  -- who runs at last holds its slot and owes nothing
  abbrev IsFree : Turn → (ℕ → ℕ) → Type 0
  IsFree t excess = (holder_in (slots t.slot) ≡ Some t.env) × (excess t.env ≡ 0)

  within_free : (n cursor : ℕ) (excess : ℕ → ℕ) (t : Turn) → ((c : ℕ) (x : ℕ → ℕ) → (turn_from slots count n c x).runs ≡ Some t → IsFree t (turn_from slots count n c x).excess)
      → (o : Option Turn) → ((u : Turn) → o ≡ Some u → holder_in (slots u.slot) ≡ Some u.env) → (turn_within (turn_from slots count n) cursor excess o).runs ≡ Some t → IsFree t (turn_within (turn_from slots count n) cursor excess o).excess
  within_free n cursor excess t further None held is = cc
  within_free n cursor excess t further (Some u) held is = by_test (excess u.env == 0) refl is
    where
      by_test : (free : Bool) → (excess u.env == 0) ≡ free
          → (if free then record { pays = []; runs = Some u; excess = excess; cursor = u.slot } else pays_first u (turn_from slots count n u.slot (excess_after_forfeit u.env excess))).runs ≡ Some t
          → IsFree t (if free then record { pays = []; runs = Some u; excess = excess; cursor = u.slot } else pays_first u (turn_from slots count n u.slot (excess_after_forfeit u.env excess))).excess
      by_test true free is = let same : u ≡ t = cc in subst (λ (x : Turn). IsFree x excess) same (held u refl, eqb-true (excess u.env) 0 free)
      by_test false owes is = further u.slot (excess_after_forfeit u.env excess) is

  runs_free : (n cursor : ℕ) (excess : ℕ → ℕ) (t : Turn) → (turn_from slots count n cursor excess).runs ≡ Some t → IsFree t (turn_from slots count n cursor excess).excess
  runs_free zero cursor excess t is = cc
  runs_free (suc n) cursor excess t is =
      within_free n cursor excess t (λ c x runs. runs_free n c x t runs) (first_turn slots count cursor count) (first_held cursor count) is

-- and lives
holder_lives : (w : World) (e : ℕ) (hold : Option Hold) → ((h : Hold) → hold ≡ Some h → Lives w h.owner × Lives w h.holder) → holder_in hold ≡ Some e → Lives w e
holder_lives w e None live is = cc
holder_lives w e (Some hold) live is = let same : hold.holder ≡ e = cc in subst (λ (n : ℕ). Lives w n) same (live hold refl).1

-- The environment starts.
pub record Starts (e : ℕ) (w : World) (r : Reply) : Type 0 where
  pub items : r.items e ≡ Start ∷ []
  pub runs : r.book.runner ≡ Some (record { env = e; left = w.book.quantum; phase = phase.Own })
  pub free : r.book.excess e ≡ 0
  pub lives : Lives w e
  pub clear : IsClear e r.book
  pub quantum : r.book.quantum ≡ w.book.quantum

-- Another starts: slots of the environment may be forfeited on the way.
pub record StartsOther (e : ℕ) (w : World) (r : Reply) : Type 0 where
  pub items : r.items e ≡ []
  pub out : is_runner e r.book.runner ≡ false
  pub clear : IsClear e r.book
  pub quantum : r.book.quantum ≡ w.book.quantum

-- It is as it was; or nobody runs, and the environment starts, or another.
pub data Turns (e : ℕ) (w : World) (r : Reply) : Type 0 where
  RunsOn : Waits e w r → Turns e w r
  Itself : w.book.runner ≡ None → Starts e w r → Turns e w r
  Another : w.book.runner ≡ None → StartsOther e w r → Turns e w r

module _ (e : ℕ) (w : World) (clear : IsClear e w.book) (live : AreSlotsLive w w.book.slots) where
  abbrev told : WholeTurn
  told = whole_turn w.book

  turned_clear : (t : Turn) → IsClear e (take_turn w told (Some t)).book
  turned_clear t = record { owned = clear.owned; bound = clear.bound; claims = clear.claims; lines = clear.lines }

  starts : (t : Turn) → told.runs ≡ Some t → t.env ≡ e → Starts e w (take_turn w told (Some t))
  starts t runs its =
      let b = w.book in
      let free = runs_free b.slots b.slot_count (suc (owed b.excess b.slots b.slot_count)) b.cursor b.excess t runs in
      record {
        items = ap (λ n. only n (Start ∷ []) e) its ∙ only_own e (Start ∷ []);
        runs = ap (λ n. Some (record { env = n; left = b.quantum; phase = phase.Own })) its;
        free = subst (λ n. told.excess n ≡ 0) its free.1;
        lives = holder_lives w e (b.slots t.slot) (live t.slot) (free.0 ∙ ap (λ n. Some n) its);
        clear = turned_clear t;
        quantum = refl;
      }

  starts_other : (t : Turn) → e ≢ t.env → StartsOther e w (take_turn w told (Some t))
  starts_other t other = record {
    items = only_other e t.env (Start ∷ []) other;
    out = ne_eqb t.env e (λ same. other (sym same));
    clear = turned_clear t;
    quantum = refl;
  }

  as_it_was : Turns e w (no_change w)
  as_it_was = RunsOn (record { aside = record { nothing = refl; clear = clear; excess = refl; quantum = refl }; runner = refl })

  taken : w.book.runner ≡ None → (o : Option Turn) → told.runs ≡ o → Turns e w (take_turn w told o)
  taken nobody None runs = as_it_was
  taken nobody (Some t) runs = elim (cases_eq t.env e) [ inl same ↦ Itself nobody (starts t runs same) | inr ne ↦ Another nobody (starts_other t (λ same. ne (sym same))) ]

  pub turn_told : (o : Option Runner) → w.book.runner ≡ o → Turns e w (turn_when w o)
  turn_told None nobody = taken nobody told.runs refl
  turn_told (Some r) runs = as_it_was

-- What the runner does with its slice, on the world that is shown.
use Rattle.std.proofs.Common.{◌≡◌, ◌≢◌, ℕ, List, [], ◌∷◌, true, false, Option, Some, refl, sym, ◌∙◌, ap, arith, rules}
use Rattle.std.specs.Prelude.{slice_get}
use Rattle.std.proofs.lemmas.Bool.{and_parts, cases_eq, eq-eqb, ne_eqb, not_from_true, and_from}
use Rattle.world_model.specs.declared.call.Deed.TheVariants.{Gives, Stops}
use Rattle.world_model.specs.declared.verdict.Verdict.TheVariants.{Grant}
use Rattle.world_model.specs.declared.life.Life.TheVariants.{Live}
use Rattle.world_model.specs.declared.slot.Runner.{Runner}
use Rattle.world_model.specs.Book.{is_runner}
use Rattle.world_model.specs.Item.{Item, Start, absorb_all}
use Rattle.world_model.specs.May.{MayReach}
use Rattle.world_model.specs.SlotCalls.{handed, is_other}
use Rattle.world_model.specs.Solo.{Solo}
use Rattle.world_model.specs.Table.{set_at}
use Rattle.world_model.specs.Verdict.{done}
use Rattle.world_model.specs.World.{only}
use Rattle.board_model.specs.declared.roster.Environment.{Environment}
use Rattle.board_model.specs.Shown.{Shown, mappings_in}
use Rattle.board_model.specs.Showing.{world_of, book_of, solo_of, pages_seen}
use Rattle.board_model.specs.Sound.{IsSoundBoard}
use Rattle.board_model.specs.Doing as doing
use Rattle.board_model.proofs.Contexts.{start_others, start_seen, start_sights, waiting}
use Rattle.board_model.proofs.Lists.{changed_here, changed_else, length-changed}
use Rattle.board_model.proofs.Mappings.{kept_mappings}
use Rattle.board_model.proofs.Parts.{one_absorbed, one_changed, set_here, set_else}
use Rattle.board_model.proofs.Replying.{Serves, answered_others, answered_seen, deeded, deeded_seen}
use Rattle.board_model.proofs.Seen.{same_solo, IsNamed, Runs, runner_seen, runner_solo, living_record}
use Rattle.board_model.proofs.Sound.{keeps_registers}
use Rattle.board_model.proofs.Turning.{stopped_solo, stopped_others, stopped_count, stopped_mappings}

-- who has the slice runs
pub handed_named : (e t : ℕ) (o : Option Runner) → is_runner e o ≡ true → IsNamed t (handed t o)
handed_named e t o is = search (rules, eq-eqb, ne_eqb)

-- where one is another, and another one is given something
pub other_given : (old new : ℕ → Solo) (e t : ℕ) (first : Solo) (theirs : List Item) → t ≢ e → new e ≡ first → new t ≡ absorb_all (old t) theirs → ((i : ℕ) → i ≢ e → i ≢ t → new i ≡ old i) →
    (i : ℕ) → new i ≡ absorb_all (set_at e first old i) (only t theirs i)
other_given old new e t first theirs other here there else_same = search (rules, one_absorbed, set_else, cases_eq, set_here)

-- an environment of the list that lives
pub record IsThere (list : List Environment) (t : ℕ) (y : Environment) : Type 0 where
  pub at : slice_get list t ≡ Some y
  pub lives : y.life ≡ Live

-- another environment that lives
pub record IsOther (list : List Environment) (e t : ℕ) : Type 0 where
  pub its : Environment
  pub there : IsThere list t its
  pub other : t ≢ e

pub other_in : (b : Shown) (e t : ℕ) → is_other (world_of b) e t ≡ true → IsOther b.roster.list e t
other_in b e t is = search (rules, and_parts, living_record, and_from, not_from_true, eq-eqb)

module _ (b : Shown) (e : ℕ) (x : Environment) (r : Runs b e x) (sound : IsSoundBoard b) where
  -- The target is started.
  module _ (t : ℕ) (y : Environment) (there : IsThere b.roster.list t y) (other : t ≢ e) (v : ℕ) where
    abbrev now : Shown
    now = doing.after_answer b (Grant v)

    abbrev new : Shown
    new = doing.after_gift now e t

    runs_next : Runs new t y
    runs_next = record { at = changed_else (doing.with_registers now.cpu) b.roster.list e t other ∙ there.at; lives = there.lives; runs = handed_named e t b.slots.runner r.runs.its }

    pub waiting_seen : solo_of b t ≡ waiting b t y
    waiting_seen = search rules

    target_solo : solo_of new t ≡ absorb_all (solo_of b t) (Start ∷ [])
    target_solo =
        runner_seen new t y runs_next
        ∙ (λ k. record (runner_solo new t y) { seen = λ p. start_sights b sound t t p k })
        ∙ start_seen b sound t y there.at
        ∙ ap (λ s. absorb_all s (Start ∷ [])) (sym waiting_seen)

    -- The caller keeps its registers, and its pages are as they were.
    caller_pages : pages_seen (doing.start_frames b t) x.env.mappings ≡ pages_seen b.frames x.env.mappings
    caller_pages =
        (λ k. pages_seen (doing.start_frames b t) (mappings_in (sym r.at k)))
        ∙ start_others b sound t e (λ same. other (sym same))
        ∙ (λ k. pages_seen b.frames (mappings_in (r.at k)))

    caller_solo : solo_of new e ≡ solo_of now e
    caller_solo = search (rules, changed_here, start_sights, runs_next, caller_pages)

    others : (i : ℕ) → i ≢ e → i ≢ t → solo_of new i ≡ solo_of b i
    others i ne ne_t =
        same_solo i new b (search (rules, (changed_else (doing.with_registers now.cpu) b.roster.list e i ne), (runs_next.runs.others i ne_t), (r.runs.others i ne), (start_others b sound t i ne_t), (start_sights b sound t i)))

    gives_to : Serves b e (deeded (Gives t) v (solo_of b e)) (done (world_of b) e (Gives t)) new
    gives_to = record {
      book = λ k. record (book_of new) { kept = λ i. kept_mappings (doing.with_registers now.cpu) (keeps_registers now.cpu) b.roster.list e i k };
      count = length-changed (doing.with_registers now.cpu) b.roster.list e;
      solos = other_given (solo_of b) (solo_of new) e t (deeded (Gives t) v (solo_of b e)) (Start ∷ []) other
          (caller_solo ∙ answered_seen b e x r (Grant v) ∙ deeded_seen b e x r (Gives t) v)
          target_solo
          others;
      rows = refl;
      room = omega arith;
      spare = refl;
      time = refl;
    }

  pub gives : (t v : ℕ) → MayReach (world_of b) e t false → Serves b e (deeded (Gives t) v (solo_of b e)) (done (world_of b) e (Gives t)) (doing.after_grant b e v (Gives t))
  gives t v may = let target = other_in b e t may.other in gives_to t target.its target.there target.other v

  -- Yield without a target.
  pub stops_itself : (v : ℕ) → Serves b e (deeded Stops v (solo_of b e)) (done (world_of b) e Stops) (doing.after_grant b e v Stops)
  stops_itself v =
      let now = doing.after_answer b (Grant v) in
      let still : Runs now e x = record { at = r.at; lives = r.lives; runs = r.runs } in
      record {
        book = λ k. record (book_of (doing.after_stop now e)) { kept = λ i. stopped_mappings now e x still i k };
        count = stopped_count now e x still;
        solos = one_changed (solo_of b) (solo_of (doing.after_stop now e)) e (deeded Stops v (solo_of b e))
            (stopped_solo now e x still ∙ answered_seen b e x r (Grant v) ∙ deeded_seen b e x r Stops v)
            (λ i ne. stopped_others now e x still i ne ∙ answered_others b e x r (Grant v) i ne);
        rows = refl;
        room = omega arith;
        spare = refl;
        time = refl;
      }

-- What the runner does to interrupt lines and to its backups, on the world that is shown.
use Rattle.std.proofs.Common.{◌≡◌, ◌<◌, ℕ, length, Option, Some, None, refl, arith, rules}
use Rattle.std.proofs.lemmas.Option.{slice_get_within}
use Rattle.world_model.specs.declared.call.Deed.{Deed}
use Rattle.world_model.specs.declared.call.Deed.TheVariants.{TakesLine, DropsLine, Loads}
use Rattle.world_model.specs.declared.verdict.Verdict.TheVariants.{Grant}
use Rattle.world_model.specs.Item.{own_part}
use Rattle.world_model.specs.LineCalls.{with_line}
use Rattle.world_model.specs.May.{MayDropLine, MayTakeLine}
use Rattle.world_model.specs.Verdict.{done}
use Rattle.board_model.specs.declared.roster.Environment.{Environment}
use Rattle.board_model.specs.Shown.{Shown}
use Rattle.board_model.specs.Showing.{world_of, book_of, solo_of}
use Rattle.board_model.specs.Sound.{IsSoundBoard}
use Rattle.board_model.specs.Doing as doing
use Rattle.board_model.proofs.Asked.{backups_set}
use Rattle.board_model.proofs.Replying.{Serves, answered_others, answered_seen, deeded, deeded_seen, changes_one}
use Rattle.board_model.proofs.Seen.{Runs, runner_solo}
use Rattle.board_model.proofs.Tables.{table_set}

module _ (b : Shown) (e : ℕ) (x : Environment) (r : Runs b e x) (sound : IsSoundBoard b) where
  -- a line has another owner, and the runner does nothing to itself
  sets_line : (d : Deed) (v line : ℕ) (owner : Option ℕ) → line < length b.lines → own_part d (runner_solo b e x) ≡ runner_solo b e x →
      Serves b e (deeded d v (solo_of b e)) (with_line (world_of b) line owner) (doing.after_answer (doing.board_with_line b line owner) (Grant v))
  sets_line d v line owner within own = search (rules, changes_one, table_set, answered_seen, deeded_seen, answered_others)

  -- a page is the last of the runner's backups
  pub loads_page : (page v : ℕ) → Serves b e (deeded (Loads page) v (solo_of b e)) (done (world_of b) e (Loads page)) (doing.after_grant b e v (Loads page))
  loads_page page v = search (rules, changes_one, backups_set, slice_get_within, answered_seen, deeded_seen, answered_others)

  pub takes_line : (line v : ℕ) → MayTakeLine (book_of b) e line → Serves b e (deeded (TakesLine line) v (solo_of b e)) (done (world_of b) e (TakesLine line)) (doing.after_grant b e v (TakesLine line))
  takes_line line v may = sets_line (TakesLine line) v line (Some e) (omega (arith, may.there, sound.lines.count)) refl

  pub drops_line : (line v : ℕ) → MayDropLine (book_of b) e line → Serves b e (deeded (DropsLine line) v (solo_of b e)) (done (world_of b) e (DropsLine line)) (doing.after_grant b e v (DropsLine line))
  drops_line line v may = sets_line (DropsLine line) v line None (omega (arith, may.there, sound.lines.count)) refl

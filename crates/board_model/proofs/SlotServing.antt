-- What the runner does to slots, on the world that is shown.
use Rattle.std.proofs.Common.{◌≡◌, ◌<◌, ℕ, length, Option, Some, refl, rules}
use Rattle.std.proofs.lemmas.List.{length-set}
use Rattle.slot_vector.specs.Slices.{hold_at}
use Rattle.world_model.specs.declared.call.Deed.{Deed}
use Rattle.world_model.specs.declared.call.Deed.TheVariants.{TakesSlot, DropsSlot}
use Rattle.world_model.specs.declared.verdict.Verdict.TheVariants.{Grant}
use Rattle.world_model.specs.declared.hold.Hold.{Hold}
use Rattle.world_model.specs.Book.{own_hold}
use Rattle.world_model.specs.Item.{own_part}
use Rattle.world_model.specs.May.{MayDrop, MayTake}
use Rattle.world_model.specs.SlotCalls.{dropped, with_slot}
use Rattle.world_model.specs.Verdict.{done}
use Rattle.board_model.specs.declared.roster.Environment.{Environment}
use Rattle.board_model.specs.Shown.{Shown}
use Rattle.board_model.specs.Showing.{world_of, book_of, solo_of}
use Rattle.board_model.specs.Doing as doing
use Rattle.board_model.proofs.Parts.{one_changed}
use Rattle.board_model.proofs.Replying.{Serves, answered_others, answered_seen, deeded, deeded_seen}
use Rattle.board_model.proofs.Seen.{Runs, runner_solo}
use Rattle.board_model.proofs.Slots.{hold_set}

module _ (b : Shown) (e : ℕ) (x : Environment) (r : Runs b e x) where
  -- a slot has another hold, and the runner does nothing to itself
  sets_slot : (d : Deed) (v k : ℕ) (hold : Option Hold) → k < length b.slots.slots → own_part d (runner_solo b e x) ≡ runner_solo b e x →
      Serves b e (deeded d v (solo_of b e)) (with_slot (world_of b) k hold) (doing.after_answer (doing.board_with_slot b k hold) (Grant v))
  sets_slot d v k hold within own = search (rules, length-set, hold_set, one_changed, answered_seen, deeded_seen, answered_others)

  pub takes : (k v : ℕ) → MayTake (book_of b) k → Serves b e (deeded (TakesSlot k) v (solo_of b e)) (done (world_of b) e (TakesSlot k)) (doing.after_grant b e v (TakesSlot k))
  takes k v may = sets_slot (TakesSlot k) v k (Some (own_hold e)) may.there refl

  pub drops : (k v : ℕ) → MayDrop (book_of b) e k → Serves b e (deeded (DropsSlot k) v (solo_of b e)) (done (world_of b) e (DropsSlot k)) (doing.after_grant b e v (DropsSlot k))
  drops k v may = sets_slot (DropsSlot k) v k (dropped e (hold_at b.slots.slots k)) may.there refl

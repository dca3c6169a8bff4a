-- What the parts of a board's tick do shows what the model says.
use Rattle.std.specs.Prelude.{◌≡◌, ℕ, Some}
use Rattle.external_event.specs.declared.event.Occurrence.{Occurrence}
use Rattle.revocation_book.specs.declared.revocation.Taking.{Taking}
use Rattle.revocation_book.specs.RevocationBook.{books_of}
use Rattle.revocation_book.specs.Takings.{IsTakable}
use Rattle.slot_vector.specs.Slices.{is_idle}
use Rattle.world_model.specs.declared.code.Code.{Code}
use Rattle.world_model.specs.declared.life.Cause.{Cause}
use Rattle.world_model.specs.Book.{is_idle_book}
use Rattle.world_model.specs.declared.verdict.Verdict.TheVariants.{Again, Refuse}
use Rattle.world_model.specs.Verdict.{verdict_now}
use Rattle.world_model.specs.World.{after}
use Rattle.world_model.specs.Deadlines.{settles, takes}
use Rattle.world_model.specs.Event.{happen}
use Rattle.world_model.specs.Tick as tick
use Rattle.board_model.specs.Shown.{Shown}
use Rattle.board_model.specs.Showing.{book_of, world_of}
use Rattle.board_model.specs.Sound.{HasClaimNumbers, HasRunner, IsSoundBoard}
use Rattle.board_model.specs.Doing.{after_deadlines, after_event, after_taking, with_deadlines_over, after_turn_phase, step_seen, after_runner_step, after_timer_phase, after_runner_call, after_death}

abbrev pub IdleShowsModel : Type 0
IdleShowsModel = (b : Shown) → is_idle b.slots ≡ is_idle_book (book_of b)

abbrev pub EventShowsModel : Type 0
EventShowsModel =
    (b : Shown) (what : Occurrence) → IsSoundBoard b → HasClaimNumbers b
    → world_of (after_event what b) ≡ after (world_of b) (happen what (world_of b))

abbrev pub ServingShowsModel : Type 0
ServingShowsModel = (b : Shown) → IsSoundBoard b → world_of (after_deadlines b) ≡ tick.served (world_of b)

-- a page that may be taken, and the end of the deadlines that have come
abbrev pub TakingShowsModel : Type 0
TakingShowsModel =
    (b : Shown) (x : Taking) → IsSoundBoard b → IsTakable (books_of b.pages b.revocations) b.time x
    → world_of (after_taking b x) ≡ after (world_of b) (takes x (world_of b))

abbrev pub DeadlinesEndAsModel : Type 0
DeadlinesEndAsModel = (b : Shown) → world_of (with_deadlines_over b) ≡ after (world_of b) (settles (world_of b))

-- a turn that is taken where all environments are there
abbrev pub TurnShowsModel : Type 0
TurnShowsModel =
    (b : Shown) → IsSoundBoard b → b.roster.spare ≡ 0
    → world_of (after_turn_phase b) ≡ after (world_of b) (tick.turn (world_of b))

abbrev pub StepShowsModel : Type 0
StepShowsModel =
    (b : Shown) (e : ℕ) → HasRunner b e → HasClaimNumbers b
    → world_of (after_runner_step b e (step_seen b e)) ≡ after (world_of b) (tick.step (world_of b))

abbrev pub TimerShowsModel : Type 0
TimerShowsModel =
    (b : Shown) → IsSoundBoard b → world_of (after_timer_phase b) ≡ after (world_of b) (tick.timer (world_of b))

abbrev pub CallShowsModel : Type 0
CallShowsModel =
    (b : Shown) (e : ℕ) → HasRunner b e → HasClaimNumbers b
    → world_of (after_runner_call b e) ≡ tick.called_world (world_of b) e

-- a call that the rule refuses is answered so, and nothing else happens
abbrev pub RefusalShowsModel : Type 0
RefusalShowsModel =
    (b : Shown) (e : ℕ) (why : Code) (v : ℕ) → HasRunner b e → HasClaimNumbers b
    → verdict_now (world_of b) e ≡ Some (Refuse why v)
    → world_of (after_runner_call b e) ≡ tick.refused_world (world_of b) e why v

-- a call that is to be made again is answered so, and another environment is asked
abbrev pub AgainShowsModel : Type 0
AgainShowsModel =
    (b : Shown) (e who : ℕ) → HasRunner b e → HasClaimNumbers b → verdict_now (world_of b) e ≡ Some (Again who)
    → world_of (after_runner_call b e) ≡ tick.again_world (world_of b) e who

abbrev pub DeathShowsModel : Type 0
DeathShowsModel =
    (b : Shown) (e : ℕ) (cause : Cause) → HasRunner b e
    → world_of (after_death b e cause) ≡ tick.died (world_of b) e cause

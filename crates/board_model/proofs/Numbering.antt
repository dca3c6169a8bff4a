-- A turn and the timer make no claim.
use Rattle.std.proofs.Common.{◌≡◌, Option, rules}
use Rattle.world_model.specs.declared.slot.Runner.{Runner}
use Rattle.world_model.specs.declared.slot.Turn.{Turn}
use Rattle.world_model.specs.Book.{WholeTurn}
use Rattle.world_model.specs.declared.timer.Timer.{Timer}
use Rattle.world_model.specs.Tick.{take_turn, timer, timer_reply, turn}
use Rattle.world_model.specs.World.{World}

taken : (w : World) (told : WholeTurn) (o : Option Turn) → (take_turn w told o).book.next_claim ≡ w.book.next_claim
taken w told o = search rules

pub turn_claims : (w : World) → (turn w).book.next_claim ≡ w.book.next_claim
turn_claims w = search (rules, taken)

answer_claims : (w : World) (r : Runner) (what : Timer) → (timer_reply r what w).book.next_claim ≡ w.book.next_claim
answer_claims w r what = search rules

pub timer_claims : (w : World) → (timer w).book.next_claim ≡ w.book.next_claim
timer_claims w = search (rules, answer_claims)

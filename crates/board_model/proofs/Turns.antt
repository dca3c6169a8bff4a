-- A turn, step by step.
use Rattle.std.proofs.Common.{◌≡◌, ap, sym}
use Rattle.slot_vector.specs.declared.turn.NextTurn.TheVariants as next
use Rattle.slot_vector.specs.Slices.{next_turn, whole_turn_of}
use Rattle.slot_vector.proofs.Whole.{pay_step}
use Rattle.world_model.specs.declared.slot.Turn.{Turn}
use Rattle.board_model.specs.Shown.{Shown}
use Rattle.board_model.specs.Sound.{IsSoundBoard}
use Rattle.board_model.specs.Doing.{after_forfeit, after_told}
use Rattle.board_model.proofs.Sound.{pay_manned}

-- a forfeit leaves a board sound
pub paid_sound : (b : Shown) (t : Turn) → IsSoundBoard b → IsSoundBoard (after_forfeit b t)
paid_sound b t sound = record { few = sound.few; book = pay_manned b.slots b.roster t sound.book; memory = sound.memory; books = sound.books; lines = sound.lines; claims = sound.claims; revocations = sound.revocations; rows = sound.rows }

-- a forfeit comes first, and then the rest of the turn
pub pay_turned : (b : Shown) (t : Turn) → next_turn b.slots ≡ next.Pay t → after_told (after_forfeit b t) (whole_turn_of (after_forfeit b t).slots) ≡ after_told b (whole_turn_of b.slots)
pay_turned b t is = sym (ap (after_told b) (pay_step b.slots t is))

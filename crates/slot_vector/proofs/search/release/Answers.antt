use Rattle.std.proofs.Common.{arith, ◌≡◌, ◌∙◌, None, map}
use Rattle.std.proofs.lemmas.Grind.{common_steps}
use Rattle.world_model.specs.Book.{hold_without}
use Rattle.slot_vector.proofs.Numbered.{slots_numbered}
use Rattle.slot_vector.proofs.Release.{mapped_further}
use Rattle.slot_vector.proofs.search.release.Goals as goal

pub loop-slot-preserved : goal.loop-slot-preserved
loop-slot-preserved c = rw c.hold_without.ensures (mapped_further (hold_without c.args.env) c.loop-slot.slots c.loop-slot.slot-index None (omega arith) ∙ c.loop-slot.invariant)

pub returns-clause-numbered : goal.returns-clause-numbered
returns-clause-numbered c =
    let all : c.loop-slot.slots ≡ map (hold_without c.args.env) c.args.slots.now = grind (arith, common_steps) in
    rw all (slots_numbered c.args.env c.args.slots.now)

use Rattle.std.proofs.Common.{arith, ◌≡◌, map}
use Rattle.std.specs.Option.{option_map}
use Rattle.std.proofs.lemmas.Grind.{common_steps}
use Rattle.world_model.specs.Book.{own_hold}
use Rattle.slot_vector.proofs.Numbered.{owners_numbered}
use Rattle.slot_vector.proofs.search.own_holds.Goals as goal

pub returns-clause-numbered : goal.returns-clause-numbered
returns-clause-numbered c =
    let whole : c.loop-owner.slots.items ≡ map (option_map own_hold) c.args.owners.now = grind (arith, common_steps) in
    rw whole (owners_numbered c.args.owners.now c.requires.owners)

-- The environments that slots name have numbers below environment_numbers, and keep them.
use Rattle.std.proofs.Common.{◌<◌, ℕ, List, Option, None, Some, IfSome, map, get_or, All, arith}
use Rattle.std.specs.Option.{option_map}
use Rattle.std.proofs.lemmas.Grind.{common_steps}
use Rattle.std.proofs.lemmas.List.Elements.{All-map}
use Rattle.world_model.specs.declared.hold.Hold.{Hold}
use Rattle.world_model.specs.Book.{own_hold, hold_without}
use Rattle.slot_vector.specs.Slices.{IsNumbered}
use Rattle.aegis_limits.specs.Limits.{environment_numbers}

own_numbered : (owner : Option ℕ) → IfSome owner (λ e. e < environment_numbers) → IsNumbered (option_map own_hold owner)
own_numbered None below = tt
own_numbered (Some e) below = (below, below)

pub owners_numbered : (owners : List (Option ℕ)) → All (λ owner. IfSome owner (λ e. e < environment_numbers)) owners → All IsNumbered (map (option_map own_hold) owners)
owners_numbered owners below = All-map IsNumbered (option_map own_hold) owners (λ k d within. own_numbered (get_or owners k d) (below k d within))

released_numbered : (e : ℕ) (slot : Option Hold) → IsNumbered slot → IsNumbered (hold_without e slot)
released_numbered e None numbered = tt
released_numbered e (Some hold) numbered = grind (arith, common_steps)

pub slots_numbered : (e : ℕ) (slots : List (Option Hold)) → All IsNumbered slots → All IsNumbered (map (hold_without e) slots)
slots_numbered e slots numbered = All-map IsNumbered (hold_without e) slots (λ k d within. released_numbered e (get_or slots k d) (numbered k d within))

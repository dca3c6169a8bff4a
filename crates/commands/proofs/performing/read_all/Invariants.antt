-- The files so far were read: first those that the words name, and then those that follow from them.
use Rattle.std.proofs.Common.{◌≡◌, ◌++◌, List, ℕ, map, take}
use Rattle.std.specs.Prelude.{string_bytes}
use Rattle.commands.specs.Command.{names_of}
use Rattle.commands.proofs.ReadingOn.{Reached}
use Rattle.commands.proofs.performing.read_all.Given as goal

abbrev pub invariant-loop-name : goal.invariant-loop-name
invariant-loop-name g l = (contents : List (List ℕ)) × Reached g.S.Shelf l.fn.shelf l.shelf (take l.name-index (map string_bytes l.name-items)) contents

abbrev pub invariant-loop-name-2 : goal.invariant-loop-name-2
invariant-loop-name-2 g l =
    let command = g.C.Command.value l.command in
    (contents : List (List ℕ)) × Reached g.S.Shelf l.fn.shelf l.shelf (command.names ++ take l.name-index (map string_bytes l.name-items)) contents
    × (names_of command contents ≡ command.names ++ map string_bytes l.name-items)

use Rattle.std.proofs.Common.{◌≡◌, ◌++◌, take}
use Rattle.std.specs.List.{flat_map}
use Rattle.exos_text.specs.LoadImage.{named_text}
use Rattle.exos_text.proofs.image.push_programs.Given as goal

-- the programs so far
abbrev pub invariant-loop-name : goal.invariant-loop-name
invariant-loop-name l = l.file.items ≡ l.fn.file.items ++ flat_map named_text (take l.name-index l.names)

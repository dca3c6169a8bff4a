use Rattle.std.proofs.Common.{◌≡◌, ◌++◌, drop}
use Rattle.std.specs.List.{flat_map}
use Rattle.mips_asm.specs.Number.{number_bytes}
use Rattle.mips_asm.proofs.emission.push_all.Given as goal

-- the bytes so far and those to come are all of them
abbrev pub invariant-loop-value : goal.invariant-loop-value
invariant-loop-value l =
    l.out.items ++ flat_map (number_bytes l.size) (drop l.value-index l.values) ≡ l.fn.out.items ++ flat_map (number_bytes l.size) l.values

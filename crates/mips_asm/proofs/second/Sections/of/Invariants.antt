use Rattle.std.proofs.Common.{◌≡◌, [], drop}
use Rattle.asm_layout.specs.Seen.{all_placed_seen}
use Rattle.mips_asm.specs.Second.{filled_from}
use Rattle.mips_asm.specs.Seen.{sections_seen}
use Rattle.mips_asm.proofs.second.Sections.of.Given as goal

-- the sections so far, with what is to come, are those of all statements
abbrev pub invariant-loop-placed : goal.invariant-loop-placed
invariant-loop-placed l =
    filled_from l.layout.names l.layout.text (sections_seen l.sections) (all_placed_seen (drop l.placed-index l.placed-items))
    ≡ filled_from l.layout.names l.layout.text (record { text = []; data_bytes = [] }) (all_placed_seen l.placed-items)

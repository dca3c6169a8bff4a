use Rattle.std.proofs.Common.{◌≡◌, ◌++◌, drop, map, take}
use Rattle.boot_image.specs.Spelling.{header_in, header_text, image_text, programs_text, slot_byte}
use Rattle.boot_manifest.specs.ManifestValue.{entries_in, plan_in}
use Rattle.boot_manifest.specs.Layout.{bodies_seen}
use Rattle.boot_manifest.proofs.writing.write_image.Given as goal

-- the bytes of the slots so far stand behind the header
abbrev pub invariant-loop-slot : goal.invariant-loop-slot
invariant-loop-slot l = l.file.items ≡ header_text (header_in (plan_in l.manifest)) ++ map slot_byte (take l.slot-index l.slot-items)

-- the programs that stand, and those that are left, are all of them
abbrev pub invariant-loop-i : goal.invariant-loop-i
invariant-loop-i l =
    l.file.items ++ programs_text (entries_in (drop l.i l.manifest.entries)) (bodies_seen (drop l.i l.bodies))
    ≡ image_text (plan_in l.manifest) (bodies_seen l.bodies)

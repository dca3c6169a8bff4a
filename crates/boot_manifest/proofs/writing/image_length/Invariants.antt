use Rattle.std.proofs.Common.{◌≡◌, ◌+◌, ◌*◌, ◌≤◌, ◌^◌, length, take}
use Rattle.std.specs.Prelude.{sum_by}
use Rattle.boot_manifest.specs.Layout.{bodies_seen}
use Rattle.boot_manifest.proofs.Bodies.{program_size}
use Rattle.boot_manifest.proofs.writing.image_length.Given as goal
use Rattle.boot_image.specs.ImageValue.{header_size}

-- the bytes of the header, of the slots and of the programs so far
abbrev pub invariant-loop-body : goal.invariant-loop-body
invariant-loop-body l = record {
  counted : l.length ≡ header_size + length l.manifest.slots + sum_by program_size (bodies_seen (take l.body-index l.bodies));
  most : l.length ≤ 80 + l.body-index * 2 ^ 33;
}

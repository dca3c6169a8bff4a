-- The owners so far are those of the slot bytes so far.
use Rattle.std.proofs.Common.{◌≡◌, ◌+◌, length, map, take, drop}
use Rattle.boot_image.specs.ImageValue.{owner_of, header_size}
use Rattle.boot_image.specs.ImageFaults.{owners_fault}
use Rattle.boot_image.proofs.header.read_owners.Given as goal

abbrev pub invariant-loop-i : goal.invariant-loop-i
invariant-loop-i l = record {
  owners : l.owners.items ≡ map owner_of (take l.i l.bytes);
  count : length l.owners.items ≡ l.i;
  rest : owners_fault l.environments (header_size + l.i) (drop l.i l.bytes) ≡ owners_fault l.environments header_size l.bytes;
}

use Rattle.std.proofs.Common.{◌≡◌, ◌*◌, take, drop}
use Rattle.hex.specs.Hex.{decode_pairs}
use Rattle.hex.proofs.Pairs.{prepend}
use Rattle.boot_schedule.proofs.digits.decode_into.Given as goal

-- the pairs so far are the bytes so far
abbrev pub invariant-pairs : goal.invariant-pairs
invariant-pairs l = decode_pairs 0 l.digits ≡ prepend (take l.i l.bytes) (decode_pairs (2 * l.i) (drop (2 * l.i) l.digits))

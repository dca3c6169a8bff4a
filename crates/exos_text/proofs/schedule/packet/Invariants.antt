use Rattle.std.proofs.Common.{◌≡◌, ◌+◌, length}
use Rattle.exos_text.specs.Draws.{drawn}
use Rattle.exos_text.proofs.Drawing.{bytes_of}
use Rattle.exos_text.proofs.schedule.packet.Given as goal

-- the first byte and so many others, of as many draws
abbrev pub invariant-loop : goal.invariant-loop
invariant-loop l = record {
  length : length l.bytes.items ≡ l.counter + 1;
  bytes : l.bytes.items ≡ bytes_of l.fn.draws.number l.counter;
  number : l.draws.number ≡ drawn (l.counter + 1) l.fn.draws.number;
}

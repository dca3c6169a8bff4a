use Rattle.std.proofs.Common.{◌≡◌, ◌++◌, take}
use Rattle.line_text.specs.WrittenLine.{bytes_text}
use Rattle.line_text.proofs.line_writing.push_bytes.Given as goal

abbrev pub invariant-loop-byte : goal.invariant-loop-byte
invariant-loop-byte l = l.out.items ≡ l.fn.out.items ++ bytes_text (take l.byte-index l.bytes)

use Rattle.std.proofs.Common.{◌≡◌, ◌+◌, ◌-◌, ◌++◌, drop, length}
use Rattle.line_text.specs.Text.{hex_text}
use Rattle.line_text.proofs.print.push_hex.Given as goal

-- the digits to come and those that stand already are all of them
abbrev pub invariant-loop : goal.invariant-loop
invariant-loop l = record {
  room : length l.text ≡ 8;
  placed : l.place + l.counter ≡ 8;
  digits : hex_text l.digits l.n ≡ hex_text (l.digits - l.counter) l.rest ++ drop l.place l.text;
}

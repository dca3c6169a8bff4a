use Rattle.std.proofs.Common.{arith, lt-ltb, sym, ◌≡◌, ◌+◌, ◌*◌, take}
use Rattle.std.proofs.lemmas.Int.Digits.{digits_value_more}
use Rattle.std.proofs.lemmas.List.Folds.{list_all_more}
use Rattle.std.specs.Char.{is_digit}
use Rattle.std.specs.Str.Parse.{digits_value}
use Rattle.line_text.proofs.NumeralLemmas.{too_large}
use Rattle.line_text.proofs.numbers.numeral.Goals as goal

pub returns-then-next-from-clause-value : goal.returns-then-next-from-clause-value
returns-then-next-from-clause-value c =
    let more = digits_value_more c.args.base c.args.digits.now c.loop-byte.byte-index c.loop-byte-test.true in
    let digit = c.in_ok-digit.ensures.value in
    let total : c.loop-byte.value * c.args.base + c.in_ok-digit.digit ≡ digits_value c.args.base (take (c.loop-byte.byte-index + 1) c.args.digits.now) = cc in
    let over = rw (c.with_digit-next.ensures, c.from-in-loop-byte.ensures) at c.if-next-from.true in
    sym (too_large c.args.base c.args.most (c.loop-byte.byte-index + 1) c.args.digits.now (omega arith) (rw (← total) over))

pub loop-byte-preserved : goal.loop-byte-preserved
loop-byte-preserved c =
    let digit = c.in_ok-digit.ensures.value in
    record {
      value = let more = digits_value_more c.args.base c.args.digits.now c.loop-byte.byte-index c.loop-byte-test.true in cc;
      digits = rw (list_all_more (λ x. is_digit x c.args.base) c.args.digits.now c.loop-byte.byte-index 0 c.loop-byte-test.true, c.loop-byte.invariant.digits)
          (rw (← c.from.ensures) (lt-ltb _ _ digit.0));
      small = omega arith;
    }

use Rattle.std.proofs.Common.{◌+◌, ◌*◌, slice_index, arith, sym, ◌∙◌}
use Rattle.hex.proofs.HexLemmas.{decode_of-even}
use Rattle.hex.proofs.Pairs.{decode_done, decode_step}
use Rattle.boot_schedule.proofs.DigitLemmas.{pair_read}
use Rattle.boot_schedule.proofs.digits.decode_into.Goals as goal

pub pairs-preserved : goal.pairs-preserved
pairs-preserved c =
    let digits = c.args.digits.now in
    let place = 2 * c.pairs.i in
    let read = pair_read (slice_index digits place) (slice_index digits (place + 1)) place c.in_ok-bytes.field-0 (sym c.byte_of.ensures ∙ c.in_ok-bytes.was) in
    decode_step digits c.pairs.bytes c.pairs.i c.in_ok-bytes.field-0 (omega arith) (omega arith) read c.pairs.invariant

pub returns : goal.returns
returns c =
    decode_of-even c.args.digits.now (omega arith) ∙ decode_done c.args.digits.now c.pairs.bytes c.pairs.i (omega arith) (omega arith) c.pairs.invariant

-- A flat body is within the limits of a program.
use Rattle.boot_image.proofs.Acceptance.{flat_accepted}
use Rattle.boot_image.proofs.program.flat_body.Goals as goal

pub invariant_of-result : goal.invariant_of-result
invariant_of-result c = rw (c.push.ensures.items, c.new-segments.ensures) (flat_accepted c.args.base c.args.bytes.now c.requires.base c.requires.filled)

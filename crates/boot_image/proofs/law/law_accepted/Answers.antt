-- An image of bytes that has no fault is within the limits.
use Rattle.boot_image.proofs.Acceptance.{accepted}
use Rattle.boot_image.proofs.law.law_accepted.Goals as goal

pub returns : goal.returns
returns c = accepted

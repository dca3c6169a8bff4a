-- What is spelled within the limits is read again.
use Rattle.boot_image.proofs.Read.{read_again}
use Rattle.boot_image.proofs.law.law_reads_what_is_spelled.Goals as goal

pub returns : goal.returns
returns c = read_again

-- An image within the limits of its version is within those of all versions.
use Rattle.boot_image.proofs.Within.{few_pages, few_programs}
use Rattle.boot_image.proofs.law.law_accepted_is_within.Goals as goal

pub returns-clause-pages : goal.returns-clause-pages
returns-clause-pages c = few_pages

pub returns-clause-programs : goal.returns-clause-programs
returns-clause-programs c = few_programs

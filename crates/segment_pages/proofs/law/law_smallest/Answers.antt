use Rattle.segment_pages.proofs.Smallest.{page_of_smallest}
use Rattle.segment_pages.proofs.law.law_smallest.Goals as goal

pub returns : goal.returns
returns c = page_of_smallest

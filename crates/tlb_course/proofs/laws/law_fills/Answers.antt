use Rattle.tlb_course.proofs.Counting.{ticks_fill_few}
use Rattle.tlb_course.proofs.laws.law_fills.Goals as goal

pub returns : goal.returns
returns c = ticks_fill_few

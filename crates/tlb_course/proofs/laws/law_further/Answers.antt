use Rattle.tlb_course.proofs.Further.{caches_go_on, worlds_go_on}
use Rattle.tlb_course.proofs.laws.law_further.Goals as goal

pub returns-clause-worlds : goal.returns-clause-worlds
returns-clause-worlds c = worlds_go_on

pub returns-clause-caches : goal.returns-clause-caches
returns-clause-caches c = caches_go_on

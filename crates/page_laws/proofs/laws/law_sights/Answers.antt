-- Each law is its lemma.
use Rattle.page_laws.proofs.Sights.{allocator_sees, binder_sees, freer_loses, others_dont, others_lose, readers_see, recapper_keeps, unbinder_loses, writer_sees}
use Rattle.page_laws.proofs.Mourning.{mourners_lose}
use Rattle.page_laws.proofs.laws.law_sights.Goals as goal

pub returns-clause-allocator : goal.returns-clause-allocator
returns-clause-allocator c = allocator_sees

pub returns-clause-others : goal.returns-clause-others
returns-clause-others c = others_dont

pub returns-clause-freer : goal.returns-clause-freer
returns-clause-freer c = freer_loses

pub returns-clause-recapper : goal.returns-clause-recapper
returns-clause-recapper c = recapper_keeps

pub returns-clause-losers : goal.returns-clause-losers
returns-clause-losers c = others_lose

pub returns-clause-binder : goal.returns-clause-binder
returns-clause-binder c = binder_sees

pub returns-clause-unbinder : goal.returns-clause-unbinder
returns-clause-unbinder c = unbinder_loses

pub returns-clause-mourners : goal.returns-clause-mourners
returns-clause-mourners c = mourners_lose

pub returns-clause-writer : goal.returns-clause-writer
returns-clause-writer c = writer_sees

pub returns-clause-readers : goal.returns-clause-readers
returns-clause-readers c = readers_see

use Rattle.std.proofs.Common.{rules}
use Rattle.std.proofs.lemmas.List.{set-set}
use Rattle.mips_step.proofs.live.Live.settle.Goals as goal

pub returns-clause-kept : goal.returns-clause-kept
returns-clause-kept c = search (rules, set-set)

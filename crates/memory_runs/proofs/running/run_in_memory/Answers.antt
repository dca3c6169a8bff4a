-- What holds in memory follows from the clauses of the top call.
use Rattle.std.proofs.Common.{refl}
use Rattle.aegis_command.specs.Words.{asked_by}
use Rattle.memory_runs.proofs.Sureness.{refused, sure}
use Rattle.memory_runs.proofs.running.run_in_memory.Goals as goal

pub returns-clause-sure : goal.returns-clause-sure
returns-clause-sure c =
    sure (asked_by c.args.words.now) _ _ c.args.shelf.now c.args.out.now c.aegis.new.out c.aegis.result
    refl refl refl refl refl c.aegis.ensures.outcome c.aegis.ensures.served c.aegis.ensures.taken

pub returns-clause-refused : goal.returns-clause-refused
returns-clause-refused c =
    refused (asked_by c.args.words.now) _ _ c.args.shelf.now c.args.out.now c.aegis.new.out c.aegis.result
    (λ set. set) refl refl c.aegis.ensures.outcome c.aegis.ensures.refused

-- The clauses of the top call, of what this call met.
use Rattle.std.proofs.Common.{ap}
use Rattle.edge_io.specs.Reads.{readings_seen}
use Rattle.commands.specs.Outcome.{IsOutcome, IsUsage}
use Rattle.aegis_command.specs.Headline.{IsHeadline}
use Rattle.aegis_command.specs.Words.{asked_by, texts_of}
use Rattle.aegis_program.proofs.Edges.{at_edges}
use Rattle.aegis_program.proofs.program.program_over.Goals as goal

pub returns-clause-headline : goal.returns-clause-headline
returns-clause-headline g c =
    at_edges (λ s k. IsHeadline (texts_of c.args.words.now) s k c.aegis-status.result)
    (g.D.Folder.told c.args.folder) (g.D.Folder.told c.new-shelf.result.folder)
    (readings_seen c.new-shelf.result.kept) (readings_seen c.aegis-status.new.shelf.kept)
    (g.W.Write.contents c.args.out) (g.W.Write.contents c.new-sink.result.out) (g.W.Write.contents c.aegis-status.new.out.out)
    c.new-sink.result.faults c.aegis-status.new.out.faults
    (ap g.D.Folder.told c.new-shelf.ensures.folder) c.new-shelf.ensures.nothing_read
    (ap g.W.Write.contents c.new-sink.ensures.out) c.new-sink.ensures.no_faults
    c.aegis-status.ensures.headline

pub returns-clause-outcome : goal.returns-clause-outcome
returns-clause-outcome g c =
    at_edges (λ s k. IsOutcome (asked_by c.args.words.now) s k c.aegis-status.result)
    (g.D.Folder.told c.args.folder) (g.D.Folder.told c.new-shelf.result.folder)
    (readings_seen c.new-shelf.result.kept) (readings_seen c.aegis-status.new.shelf.kept)
    (g.W.Write.contents c.args.out) (g.W.Write.contents c.new-sink.result.out) (g.W.Write.contents c.aegis-status.new.out.out)
    c.new-sink.result.faults c.aegis-status.new.out.faults
    (ap g.D.Folder.told c.new-shelf.ensures.folder) c.new-shelf.ensures.nothing_read
    (ap g.W.Write.contents c.new-sink.ensures.out) c.new-sink.ensures.no_faults
    c.aegis-status.ensures.outcome

pub returns-clause-usage : goal.returns-clause-usage
returns-clause-usage g c =
    at_edges (λ s k. IsUsage (asked_by c.args.words.now) k c.aegis-status.result)
    (g.D.Folder.told c.args.folder) (g.D.Folder.told c.new-shelf.result.folder)
    (readings_seen c.new-shelf.result.kept) (readings_seen c.aegis-status.new.shelf.kept)
    (g.W.Write.contents c.args.out) (g.W.Write.contents c.new-sink.result.out) (g.W.Write.contents c.aegis-status.new.out.out)
    c.new-sink.result.faults c.aegis-status.new.out.faults
    (ap g.D.Folder.told c.new-shelf.ensures.folder) c.new-shelf.ensures.nothing_read
    (ap g.W.Write.contents c.new-sink.ensures.out) c.new-sink.ensures.no_faults
    c.aegis-status.ensures.usage

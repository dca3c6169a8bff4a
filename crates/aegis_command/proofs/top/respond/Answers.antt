-- What is written is what is due, and a sink that takes that gives no fault.
use Rattle.std.proofs.Common.{Option, IfSome, subst}
use Rattle.commands.specs.Command.{CommandValue}
use Rattle.commands.specs.Edges.{ShelfEdge, SinkEdge, shelf_edge, sink_edge}
use Rattle.commands.specs.Outcome.{Outcome}
use Rattle.aegis_command.specs.Headline.{TakesAll}
use Rattle.aegis_command.specs.Words.{command_seen}
use Rattle.aegis_command.proofs.Completeness.{is_taken, is_outcome}
use Rattle.aegis_command.proofs.top.respond.Goals as goal

pub returns-in-Ok-clause-taken : goal.returns-in-Ok-clause-taken
returns-in-Ok-clause-taken g c =
    let s : ShelfEdge = shelf_edge g.S.Shelf c.args.shelf.now c.perform_words.new.shelf in
    let k : SinkEdge = sink_edge g.K.Sink c.args.out.now c.finish-in-Ok.new.out in
    subst (λ (o : Option CommandValue). TakesAll o s k c.finish-in-Ok.result) c.in-Some.ensures
    (is_taken (command_seen c.in-Some.words) s k c.in-Ok.answer c.deref.result.now c.finish-in-Ok.result
    c.in-Ok.ensures.ok c.deref.ensures.value c.finish-in-Ok.ensures.sure)

pub returns-in-Ok-clause-outcome : goal.returns-in-Ok-clause-outcome
returns-in-Ok-clause-outcome g c =
    let s : ShelfEdge = shelf_edge g.S.Shelf c.args.shelf.now c.perform_words.new.shelf in
    let k : SinkEdge = sink_edge g.K.Sink c.args.out.now c.finish-in-Ok.new.out in
    subst (λ (o : Option CommandValue). IfSome o (λ command. Outcome command s k c.finish-in-Ok.result)) c.in-Some.ensures
    (is_outcome (command_seen c.in-Some.words) s k c.in-Ok.answer c.deref.result.now c.finish-in-Ok.result c.in-Ok.ensures.ok c.deref.ensures.value c.finish-in-Ok.ensures.finished)

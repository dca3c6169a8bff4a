-- Completeness and the headline follow from what holds by the status.
use Rattle.std.specs.Prelude.{map, string_bytes}
use Rattle.aegis_command.specs.Words.{asked_by}
use Rattle.aegis_command.proofs.Completeness.{is_complete, is_headline, is_load}
use Rattle.aegis_command.proofs.top.aegis.Goals as goal

pub returns-clause-complete : goal.returns-clause-complete
returns-clause-complete g c = is_complete (asked_by c.args.words.now) _ _ c.respond.result c.respond.ensures.outcome

pub returns-clause-headline : goal.returns-clause-headline
returns-clause-headline g c = is_headline (map string_bytes c.args.words.now) _ _ c.respond.result c.respond.ensures.outcome

pub returns-clause-load : goal.returns-clause-load
returns-clause-load g c = is_load (map string_bytes c.args.words.now) _ _ c.respond.result c.respond.ensures.outcome

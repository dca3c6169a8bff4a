-- The law is the lemmas.
use Rattle.giving_law.proofs.Origins.{console_has_origin, registers_have_origin, sent_has_origin}
use Rattle.giving_law.proofs.laws.law_origins.Goals as goal

pub returns : goal.returns
returns c = record { console = console_has_origin; sent = sent_has_origin; registers = registers_have_origin }

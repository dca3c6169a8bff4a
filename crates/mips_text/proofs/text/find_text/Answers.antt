use Rattle.std.proofs.Common.{◌∙◌, ap}
use Rattle.std.specs.Map.{lookup}
use Rattle.std.specs.Option.{option_map}
use Rattle.std.specs.Str.{bytes_eq}
use Rattle.mips_text.specs.Seen.{text_seen}
use Rattle.mips_text.specs.Texts.{instruction_text}
use Rattle.mips_text.proofs.TextLemmas.{found_few, found_small, lookup_seen}
use Rattle.mips_text.proofs.text.find_text.Goals as goal

found : goal.returns-clause-value
unfolding instruction_text
found c =
    ap (option_map text_seen) c.find.ensures
    ∙ lookup_seen (bytes_eq c.args.name.now) c.texts.result.now
    ∙ ap (lookup (bytes_eq c.args.name.now)) c.texts.ensures

pub returns-clause-value : goal.returns-clause-value
returns-clause-value = found

pub returns-clause-small : goal.returns-clause-small
unfolding instruction_text
returns-clause-small c = found_small (bytes_eq c.args.name.now) c.find.result (found c)

pub returns-clause-few : goal.returns-clause-few
unfolding instruction_text
returns-clause-few c = found_few (bytes_eq c.args.name.now) c.find.result (found c)

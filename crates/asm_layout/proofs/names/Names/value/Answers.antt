use Rattle.std.proofs.Common.{◌∙◌, ap}
use Rattle.asm_layout.specs.Value.{value_of_name}
use Rattle.asm_layout.proofs.NameLemmas.{names_lookup}
use Rattle.asm_layout.proofs.names.Names.value.Goals as goal

pub returns : goal.returns
returns c =
    c.copied.ensures ∙ c.get.ensures.value
    ∙ names_lookup c.args.name.now c.self.inside.values.entries
    ∙ ap (value_of_name c.args.name.now) c.self.view_is

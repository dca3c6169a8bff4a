use Rattle.std.proofs.Common.{append_assoc, rules}
use Rattle.std.proofs.lemmas.List.{length-map}
use Rattle.std.proofs.lemmas.Result.{IfOk-equal}
use Rattle.elf_static.specs.Layout.{file_header, identification}
use Rattle.elf_static.proofs.writing.push_file_header.Goals as goal

pub returns : goal.returns
unfolding file_header identification
returns c = search (rules, IfOk-equal, append_assoc, length-map)

use Rattle.std.proofs.Common.{append_assoc, ap, ◌≡◌, ◌∙◌, length, rules, vec_len}
use Rattle.elf_static.specs.Layout.{elf_text}
use Rattle.elf_static.specs.Seen.{object_seen}
use Rattle.elf_static.proofs.Sizes.{elf_text_size}
use Rattle.elf_static.proofs.writing.write.Goals as goal

pub returns : goal.returns
unfolding elf_text
returns c =
    let object = object_seen c.args.object.now in
    let file = c.push_bodies.new.file in
    let laid : file.items ≡ elf_text object = search (rules, append_assoc) in
    let counted : vec_len file ≡ length file.items = search rules in
    record { layout = laid; size = counted ∙ ap length laid ∙ elf_text_size object }

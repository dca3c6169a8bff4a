-- The parts one behind the other are the image's file.
use Rattle.exos_text.proofs.Written.{written}
use Rattle.exos_text.proofs.image.write_image.Goals as goal

pub returns : goal.returns
returns c =
    written c.args.seed c.quantum.result c.in_ok-file.file.items c.push_header.new.file.items c.push_slots.new.file.items c.push_programs.new.file.items
    c.quantum.ensures c.in_ok-file.ensures.items c.in_ok-push_header.ensures.ok c.in_ok-push_slots.ensures c.in_ok-push_programs.ensures

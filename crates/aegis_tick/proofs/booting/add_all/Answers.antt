-- There are as many free pages as the next program has.
use Rattle.std.proofs.Common.{◌≤◌, subst, sym}
use Rattle.page_book.specs.Rows.{free_pages}
use Rattle.boot_image.specs.ImageValue.{ProgramValue, guaranteed_mappings}
use Rattle.aegis_tick.proofs.Programs.{room_at}
use Rattle.aegis_tick.proofs.booting.add_all.Goals as goal

pub add-requires-clause-pages : goal.add-requires-clause-pages
add-requires-clause-pages c =
    let room = room_at c.args.programs.now c.loop-program.program-index c.program-item.result _ _ c.loop-program-test.true c.requires.pages c.loop-program.invariant.free in
    subst (λ (p : ProgramValue). guaranteed_mappings p ≤ free_pages c.loop-program.board.pages) (sym c.program-item.is) room

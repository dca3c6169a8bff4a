-- The programs so far stand on the board, and there is room for the rest.
use Rattle.std.proofs.Common.{◌≡◌, ◌+◌, length, take}
use Rattle.std.specs.Prelude.{fold, sum_by}
use Rattle.page_book.specs.Rows.{free_pages}
use Rattle.boot_image.specs.ImageValue.{guaranteed_mappings}
use Rattle.run_model.specs.Boot.{with_program}
use Rattle.board_model.specs.Showing.{world_of}
use Rattle.aegis_tick.proofs.booting.add_all.Given as goal

abbrev pub invariant-loop-program : goal.invariant-loop-program
invariant-loop-program l = record {
  world : world_of l.board ≡ fold with_program (world_of l.fn.board) (take l.program-index l.programs);
  room : l.board.roster.spare + l.program-index ≡ length l.programs;
  free : free_pages l.fn.board.pages ≡ free_pages l.board.pages + sum_by guaranteed_mappings (take l.program-index l.programs);
  tlb : l.board.tlb ≡ l.fn.board.tlb;
  numbers : l.board.claims.next ≡ l.fn.board.claims.next;
  pages : length l.board.frames ≡ length l.fn.board.frames;
}

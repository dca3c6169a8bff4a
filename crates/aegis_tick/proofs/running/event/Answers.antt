-- What happens neither takes nor gives a turn.
use Rattle.std.proofs.Common.{ap, ◌∙◌}
use Rattle.board_model.specs.Showing.{world_of}
use Rattle.world_model.specs.Book.{is_idle_book}
use Rattle.world_model.specs.World.{World}
use Rattle.aegis_tick.proofs.Happening.{happen_idle}
use Rattle.aegis_tick.proofs.running.event.Goals as goal

pub returns-clause-idle : goal.returns-clause-idle
returns-clause-idle c =
    ap (λ (w : World). is_idle_book w.book) c.happen.ensures.world ∙ happen_idle _ (world_of c.args.board.now)

-- The halves, one after the other.
use Rattle.std.proofs.Common.{sym, ap, subst, ◌∙◌}
use Rattle.board_model.specs.Showing.{world_of}
use Rattle.world_model.specs.World.{World}
use Rattle.tlb_model.specs.Cache.{Cache}
use Rattle.tlb_course.specs.Fills.{AreFew}
use Rattle.tlb_course.specs.Course.{cache_finished}
use Rattle.aegis_tick.specs.Halves.{first_half, second_half}
use Rattle.aegis_tick.proofs.running.tick.Goals as goal

pub returns-clause-world : goal.returns-clause-world
returns-clause-world c =
    c.finish_tick.ensures.world
    ∙ ap second_half c.begin_tick.ensures.world
    ∙ sym (c.law_halves.ensures.tick (world_of c.args.board.now))

pub returns-clause-tlb : goal.returns-clause-tlb
returns-clause-tlb c =
    c.finish_tick.ensures.tlb
    ∙ ap (λ (w : World). cache_finished w c.begin_tick.new.board.tlb) c.begin_tick.ensures.world
    ∙ ap (cache_finished (first_half (world_of c.args.board.now))) c.begin_tick.ensures.tlb

pub returns-clause-fills : goal.returns-clause-fills
returns-clause-fills c =
    let before = c.args.board.now.tlb in
    subst (λ (behind : Cache). AreFew before.fills behind.fills) (sym (returns-clause-tlb c)) (c.law_fills.ensures (world_of c.args.board.now) before)

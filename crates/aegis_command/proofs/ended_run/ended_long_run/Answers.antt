-- The boot is of the image's system.
use Rattle.std.proofs.Common.{◌≡◌, ◌∙◌, ap}
use Rattle.world_model.specs.World.{World}
use Rattle.run_model.specs.Run.{System, world_after, end_of_run}
use Rattle.board_model.specs.Showing.{world_of}
use Rattle.tlb_course.specs.Course.{cache_after}
use Rattle.aegis_command.specs.SystemDue.{meant}
use Rattle.aegis_command.proofs.ended_run.ended_long_run.Goals as goal

pub returns : goal.returns
returns c =
    let ticks = c.args.ticks.number in
    let is = c.in_ok-long.ensures.system in
    let world : world_of c.run_long.new.self.board ≡ world_after (meant c.args.image.now c.args.events.now) ticks = c.in_ok-end.ensures.world ∙ ap (λ (s : System). world_after s ticks) is in
    record {
      world = world;
      tlb = c.in_ok-end.ensures.tlb ∙ ap (λ (s : System). cache_after s ticks) is;
      end = c.in_ok-end.ensures.end ∙ ap (λ (v : World). end_of_run v ticks) world;
    }

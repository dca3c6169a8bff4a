-- No more are of a time than there are.
use Rattle.std.proofs.Common.{arith}
use Rattle.std.specs.Prelude.{◌==◌}
use Rattle.std.proofs.lemmas.List.Sums.{prefix_len-le-length}
use Rattle.external_event.specs.EventValue.{EventValue}
use Rattle.aegis_tick.proofs.agenda.Agenda.due.Goals as goal

pub split_at-requires : goal.split_at-requires
split_at-requires c =
    omega (arith, c.count_at.ensures, prefix_len-le-length (λ (e : EventValue). e.time == c.args.time) c.self.inside.coming.now)

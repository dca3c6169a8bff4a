use Rattle.aegis_limits.specs.Limits.{page_size}
use Rattle.std.proofs.Common.{◌*◌}
use Rattle.bare_board.proofs.Filling.{part_cut}
use Rattle.bare_board.proofs.loading.page_part.Goals as goal

pub returns-clause-part : goal.returns-clause-part
returns-clause-part c = part_cut page_size (c.args.n * page_size) c.min.result c.min-2.result c.args.file.now c.min.ensures c.min-2.ensures

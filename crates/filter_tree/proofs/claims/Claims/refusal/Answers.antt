use Rattle.std.proofs.Common.{sym, ◌∙◌}
use Rattle.filter_tree.proofs.Room.{refused_by_rows}
use Rattle.filter_tree.proofs.claims.Claims.refusal.Goals as goal

pub returns : goal.returns
returns c = rw (← c.self.view_is) (rw c.deref.ensures.value at c.refusal.ensures ∙ sym (refused_by_rows c.args.env c.args.filter.now c.self.inside.rows.items))

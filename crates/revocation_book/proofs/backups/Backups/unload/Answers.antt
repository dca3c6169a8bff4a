-- Those that are left stand in their order, each once.
use Rattle.std.proofs.Common.{◌≡◌, rules, not, ap, ◌∙◌}
use Rattle.std.specs.Prelude.{◌==◌}
use Rattle.arrayvec.proofs.ArrayVecLemmas.{filter-from_retain}
use Rattle.revocation_book.specs.Backups.{unloaded}
use Rattle.revocation_book.proofs.Distinct.{distinct_unloaded}
use Rattle.revocation_book.proofs.backups.Backups.unload.Goals as goal

left : (c : goal.After-retain) → c.retain.new.self.items ≡ unloaded c.args.page c.self.inside.pages.items
left c = filter-from_retain _ (λ backup. not (backup == c.args.page)) _ (λ x b f' y called. search rules) _ _ c.retain.ensures.filtered

pub invariant_of-self : goal.invariant_of-self
invariant_of-self c = rw (left c) (distinct_unloaded c.self.inside.pages.items c.args.page c.self.invariant)

pub returns : goal.returns
returns c = left c ∙ ap (unloaded c.args.page) c.self.view_is

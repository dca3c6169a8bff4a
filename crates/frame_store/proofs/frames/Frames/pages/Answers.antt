-- The pages that are seen are as many as were cut.
use Rattle.std.proofs.Common.{◌∙◌, sym, ap, length}
use Rattle.aegis_limits.specs.Limits.{page_size}
use Rattle.frame_store.proofs.Cuts.{length-pages_of}
use Rattle.frame_store.proofs.frames.Frames.pages.Goals as goal

pub returns-clause-count : goal.returns-clause-count
returns-clause-count c = sym (length-pages_of page_size c.self.inside.pages c.self.inside.bytes.items) ∙ ap length c.self.view_is

-- Zeros, cut into pages, are pages of zeros.
use Rattle.std.proofs.Common.{◌∙◌, ap}
use Rattle.aegis_limits.specs.Limits.{page_size}
use Rattle.frame_store.specs.Memory.{pages_of}
use Rattle.frame_store.proofs.Cuts.{pages_of-replicate}
use Rattle.frame_store.proofs.frames.Frames.new.Goals as goal

pub returns : goal.returns
returns c =
    ap (pages_of page_size c.args.pages) (c.in_ok-bytes.ensures.items_if_clones_equal (λ y same. same)) ∙ pages_of-replicate page_size c.args.pages

-- The TLB is put behind the report.
use Rattle.std.proofs.Common.{◌∙◌, ◌++◌}
use Rattle.aegis_command.proofs.tlb_image.text_of.Goals as goal

pub returns : goal.returns
returns c =
    c.in_ok-extend_from_slice.ensures.items
    ∙ (λ i. c.in_ok-text.ensures i ++ (c.deref.ensures.value ∙ c.in_ok-tlb.ensures) i)

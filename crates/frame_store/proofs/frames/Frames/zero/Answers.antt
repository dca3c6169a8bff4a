-- What was filled with zeros is as long as a page.
use Rattle.std.proofs.Common.{ℕ, List, ap, replicate, ◌∙◌}
use Rattle.frame_store.specs.Pages.{with_page}
use Rattle.frame_store.proofs.frames.Frames.zero.Goals as goal

pub returns : goal.returns
returns c =
    let zeros = c.fill.ensures.after (λ y same. same) ∙ ap (λ (k : ℕ). replicate k 0) c.page_mut.ensures.size in
    c.page_mut.ensures.one_page c.fill.new.self (c.fill.ensures.len ∙ c.page_mut.ensures.size)
    ∙ ap (λ (page : List ℕ). with_page c.args.self.now c.args.n page) zeros

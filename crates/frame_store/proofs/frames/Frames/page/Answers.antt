-- The page is a part of memory.
use Rattle.std.proofs.Common.{◌≡◌, ◌+◌, ◌-◌, ◌∙◌, ℕ, List, ap, ap₂, drop, sym, take, arith}
use Rattle.aegis_limits.specs.Limits.{page_size}
use Rattle.frame_store.specs.Pages.{page_at}
use Rattle.frame_store.proofs.Cuts.{below_count, get_or-pages_of}
use Rattle.frame_store.proofs.frames.Frames.page.Goals as goal

pub slice_bounds-result-end : goal.slice_bounds-result-end
slice_bounds-result-end c =
    let below = below_count page_size c.self.inside.pages c.args.n c.self.inside.bytes.items c.args.self.now c.self.view_is c.requires in
    omega (arith, c.deref.ensures.len, c.page_start-start.ensures, below, c.self.invariant.whole, c.self.inside.bytes.ok.0)

pub returns-clause-bytes : goal.returns-clause-bytes
returns-clause-bytes c =
    let at = c.page_start-start.result in
    let pages = c.self.inside.pages in
    let bytes = c.self.inside.bytes.items in
    let below = below_count page_size pages c.args.n bytes c.args.self.now c.self.view_is c.requires in
    let size : at + page_size - at ≡ page_size = omega arith in
    ap₂ (λ (k : ℕ) (all : List ℕ). take k (drop at all)) size c.deref.ensures.value
    ∙ sym (get_or-pages_of page_size pages c.args.n at bytes below c.page_start-start.ensures)
    ∙ ap (λ (all : List (List ℕ)). page_at all c.args.n) c.self.view_is

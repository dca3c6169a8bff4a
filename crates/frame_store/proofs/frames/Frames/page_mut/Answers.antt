-- What is lent is a part of memory, and what is left there stands in its place.
use Rattle.std.proofs.Common.{◌≡◌, ◌+◌, ◌-◌, ◌*◌, ◌∙◌, ℕ, List, ap, drop, length, refl, sym, take, arith}
use Rattle.std.specs.List.{concat}
use Rattle.aegis_limits.specs.Limits.{page_size}
use Rattle.frame_store.specs.Pages.{page_at, with_bytes, with_page}
use Rattle.frame_store.specs.Memory.{pages_of}
use Rattle.frame_store.proofs.Cuts.{below_count, get_or-pages_of, pages_of-lent, pages_of-with_page, pages_of-seen}
use Rattle.frame_store.proofs.frames.Frames.page_mut.Goals as goal

pub slice_mut-requires-clause-in_bounds : goal.slice_mut-requires-clause-in_bounds
slice_mut-requires-clause-in_bounds c =
    let below = below_count page_size c.self.inside.pages c.args.n c.self.inside.bytes.items c.args.self.now c.self.view_is c.requires in
    omega (arith, c.page_start-start.ensures, below, c.self.invariant.whole, c.self.inside.bytes.ok.0)

pub returns : goal.returns
returns c =
    let n = c.args.n in
    let at = c.page_start-start.result in
    let place : at ≡ n * page_size = c.page_start-start.ensures in
    let pages = c.self.inside.pages in
    let bytes = c.self.inside.bytes.items in
    let whole = c.self.invariant.whole in
    let below = below_count page_size pages n bytes c.args.self.now c.self.view_is c.requires in
    let size : at + page_size - at ≡ page_size = omega arith in
    let seen = λ (part : List ℕ). pages_of-seen page_size pages at bytes part c.args.self.now c.self.view_is whole in (
      (
        refl,
        λ part.
            pages_of-lent page_size pages at c.self.inside.bytes.len bytes part c.self.inside.bytes.ok.0 whole
            ∙ seen part
            ∙ ap (λ (k : ℕ). pages_of page_size (length c.args.self.now) (with_bytes (concat c.args.self.now) k part)) place,
      ),
      record {
        writes_back = tt;
        one_page = λ part long.
            ap (λ (k : ℕ). pages_of page_size (length c.args.self.now) (with_bytes (concat c.args.self.now) k part)) (sym place)
            ∙ sym (seen part)
            ∙ pages_of-with_page page_size pages n at bytes part below place whole long
            ∙ ap (λ (all : List (List ℕ)). with_page all n part) c.self.view_is;
        bytes =
            c.slice_mut.ensures.value
            ∙ ap (λ (k : ℕ). take k (drop at bytes)) size
            ∙ sym (get_or-pages_of page_size pages n at bytes below place)
            ∙ ap (λ (all : List (List ℕ)). page_at all n) c.self.view_is;
        size = c.slice_mut.ensures.len ∙ size;
      },
    )

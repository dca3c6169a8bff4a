-- The copy is a page, put where another begins.
use Rattle.std.proofs.Common.{◌≡◌, ◌≤◌, ◌+◌, ◌-◌, ◌∙◌, ◌++◌, ℕ, List, ap, ap₂, drop, length, length-drop, length-take-le, sym, take, arith}
use Rattle.aegis_limits.specs.Limits.{page_size}
use Rattle.frame_store.specs.Memory.{pages_of}
use Rattle.frame_store.specs.Pages.{page_at, with_bytes, with_page}
use Rattle.frame_store.proofs.Cuts.{below_count, copied_is, get_or-pages_of, pages_of-with_page}
use Rattle.frame_store.proofs.frames.Frames.copy_page.Goals as goal

pub copy_within-requires-clause-in_bounds : goal.copy_within-requires-clause-in_bounds
copy_within-requires-clause-in_bounds c =
    let below = below_count page_size c.self.inside.pages c.args.from c.self.inside.bytes.items c.args.self.now c.self.view_is c.requires.from in
    omega (arith, c.page_start-from.ensures, below, c.self.invariant.whole, c.self.inside.bytes.ok.0)

pub copy_within-requires-clause-dest_in_bounds : goal.copy_within-requires-clause-dest_in_bounds
copy_within-requires-clause-dest_in_bounds c =
    let below = below_count page_size c.self.inside.pages c.args.to c.self.inside.bytes.items c.args.self.now c.self.view_is c.requires.to in
    let size : c.page_start-from.result + page_size - c.page_start-from.result ≡ page_size = omega arith in
    omega (arith, size, c.page_start.ensures, below, c.self.invariant.whole, c.self.inside.bytes.ok.0)

pub returns : goal.returns
returns c =
    let from = c.page_start-from.result in
    let to = c.page_start.result in
    let pages = c.self.inside.pages in
    let bytes = c.self.inside.bytes.items in
    let whole = c.self.invariant.whole in
    let page = take page_size (drop from bytes) in
    let seen = c.self.view_is in
    let below_from = below_count page_size pages c.args.from bytes c.args.self.now seen c.requires.from in
    let below_to = below_count page_size pages c.args.to bytes c.args.self.now seen c.requires.to in
    let within : from + page_size ≤ length bytes = omega (arith, c.page_start-from.ensures, below_from, whole) in
    let size : from + page_size - from ≡ page_size = omega arith in
    let long : length page ≡ page_size = length-take-le page_size (drop from bytes) (omega (arith, length-drop from bytes, within)) in
    let copied : c.copy_within.new.self.items ≡ with_bytes bytes to page = c.copy_within.ensures.items
    ∙ ap (λ (k : ℕ). take to bytes ++ take k (drop from bytes) ++ drop (to + k) bytes) size
    ∙ copied_is from to page_size bytes within in
    let same = sym (get_or-pages_of page_size pages c.args.from from bytes below_from c.page_start-from.ensures)
    ∙ ap (λ (all : List (List ℕ)). page_at all c.args.from) seen in
    ap (pages_of page_size pages) copied
    ∙ pages_of-with_page page_size pages c.args.to to bytes page below_to c.page_start.ensures whole long
    ∙ ap₂ (λ (all : List (List ℕ)) (one : List ℕ). with_page all c.args.to one) seen same

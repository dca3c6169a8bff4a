-- The page is filled as a whole.
use Rattle.std.proofs.Common.{◌≡◌, ◌+◌, ◌*◌, ◌∙◌, ◌++◌, List, ℕ, [], zero, suc, ap, drop, length, append-nil, refl, arith}
use Rattle.std.proofs.lemmas.List.{drop_all, length-map}
use Rattle.aegis_limits.specs.Limits.{page_size}
use Rattle.elf_static.specs.ElfValue.{ElfValue}
use Rattle.segment_pages.specs.Pages.{byte_at, bytes_from, numbers_from, page_bytes}
use Rattle.frame_store.specs.Pages.{with_page}
use Rattle.board_boot.proofs.loading.fill_frame.Goals as goal

length-numbers_from : (n count : ℕ) → length (numbers_from n count) ≡ count
length-numbers_from n zero = refl
length-numbers_from n (suc count) = ap (λ (k : ℕ). suc k) (length-numbers_from (n + 1) count)

length-page_bytes : (program : ElfValue) (vpn : ℕ) → length (page_bytes program vpn) ≡ page_size
unfolding page_bytes bytes_from
length-page_bytes program vpn =
    length-map (numbers_from (page_size * vpn) page_size) (byte_at program) ∙ length-numbers_from (page_size * vpn) page_size

pub returns : goal.returns
returns c =
    let page = c.page_mut.result.now in
    let bytes = c.fill_page.new.page in
    let behind : drop page_size page ≡ [] = drop_all page_size page (omega (arith, c.page_mut.ensures.size)) in
    let whole : bytes ++ drop page_size page ≡ page_bytes c.args.program.now c.args.vpn =
    ap (λ (rest : List ℕ). bytes ++ rest) behind ∙ append-nil bytes ∙ c.fill_page.ensures in
    c.page_mut.ensures.one_page (bytes ++ drop page_size page) (ap length whole ∙ length-page_bytes c.args.program.now c.args.vpn)
    ∙ ap (λ (all : List ℕ). with_page c.args.frames.now c.args.page all) whole

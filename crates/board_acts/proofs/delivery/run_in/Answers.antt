-- The handler is run over the page as a whole.
use Rattle.std.proofs.Common.{◌≡◌, ◌+◌, ◌∙◌, ◌++◌, List, ℕ, ap, ap₂, append-nil, drop, length, length-set, sym, arith}
use Rattle.std.specs.Array.{IsFirstChunk}
use Rattle.std.proofs.lemmas.List.{drop_all, take_all}
use Rattle.std.proofs.lemmas.Option.{MatchOption-at_some}
use Rattle.aegis_limits.specs.Limits.{page_size}
use Rattle.frame_store.specs.Pages.{page_at, with_bytes, with_page}
use Rattle.handler_rules.specs.Running.{handler_run}
use Rattle.board_acts.proofs.delivery.run_in.Goals as goal

-- nothing is behind a page in it
none_behind : (size : ℕ) (page bytes : List ℕ) → length page ≡ size → bytes ++ drop size page ≡ bytes
none_behind size page bytes long = ap (λ (rest : List ℕ). bytes ++ rest) (drop_all size page (omega arith)) ∙ append-nil bytes

pub returns-clause-page : goal.returns-clause-page
returns-clause-page c =
    let page = c.page_mut.result.now in
    let run = λ (all : List ℕ). (handler_run c.args.handler.now c.args.packet.now c.args.claim.id all).page in
    let bytes = c.run_handler-end.new.page in
    let lent : page ≡ page_at c.args.frames.now c.args.claim.page = c.page_mut.ensures.bytes in
    let size : length page ≡ page_size = c.page_mut.ensures.size in
    let first = MatchOption-at_some _ (λ y. IsFirstChunk page y.now page_size) c.unwrap-page.result c.unwrap-page.ensures c.first_chunk_mut.ensures.cases in
    let same : c.unwrap-page.result.now ≡ page = first.same ∙ take_all page_size page (omega (arith, size)) in
    let made : bytes ≡ run page = c.run_handler-end.ensures.page ∙ ap run same in
    let long : length bytes ≡ page_size =
    ap length made ∙ (c.law_runs_keep_limits.ensures c.args.handler.now c.args.packet.now page c.args.claim.id size).size ∙ size in
    let start : length bytes ≡ 0 + length bytes = omega arith in
    let whole : bytes ++ drop page_size page ≡ bytes = none_behind page_size page bytes size in
    let put : with_bytes page 0 bytes ≡ bytes = none_behind (0 + length bytes) page bytes (size ∙ sym long ∙ start) in
    c.page_mut.ensures.one_page (bytes ++ drop page_size page) (ap length whole ∙ long)
    ∙ ap (λ (all : List ℕ). with_page c.args.frames.now c.args.claim.page all)
    (whole ∙ sym put ∙ ap₂ (λ (all old : List ℕ). with_bytes old 0 all) (made ∙ ap run lent) lent)

pub returns-clause-size : goal.returns-clause-size
returns-clause-size c = ap length (returns-clause-page c) ∙ length-set c.args.frames.now c.args.claim.page _

pub returns-clause-replies : goal.returns-clause-replies
returns-clause-replies c =
    let page = c.page_mut.result.now in
    let size : length page ≡ page_size = c.page_mut.ensures.size in
    let first = MatchOption-at_some _ (λ y. IsFirstChunk page y.now page_size) c.unwrap-page.result c.unwrap-page.ensures c.first_chunk_mut.ensures.cases in
    let same : c.unwrap-page.result.now ≡ page = first.same ∙ take_all page_size page (omega (arith, size)) in
    c.run_handler-end.ensures.replies
    ∙ ap (λ (all : List ℕ). (handler_run c.args.handler.now c.args.packet.now c.args.claim.id all).replies) (same ∙ c.page_mut.ensures.bytes)

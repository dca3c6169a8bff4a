-- The page with the bytes in it is as long as before.
use Rattle.std.proofs.Common.{◌≤◌, ◌≡◌, ◌+◌, ◌-◌, ◌∙◌, ℕ, List, ap, drop, length, refl, take, ◌++◌, arith}
use Rattle.std.proofs.lemmas.List.{take_all}
use Rattle.std.proofs.lemmas.List.Edits.{length-paste}
use Rattle.std.proofs.lemmas.Slice.{put_mid-paste}
use Rattle.frame_store.specs.Pages.{with_bytes, with_page}
use Rattle.frame_store.proofs.frames.Frames.put.Goals as goal

pub returns : goal.returns
returns c =
    let page = c.page_mut.result.now in
    let bytes = c.args.bytes.now in
    let offset = c.args.offset in
    let size = c.page_mut.ensures.size in
    let within : offset + length bytes ≤ length page = omega (arith, size, c.requires.within) in
    let count : length bytes ≡ offset + length bytes - offset = omega arith in
    let whole : length bytes ≤ length bytes = omega arith in
    let pasted = put_mid-paste offset _ page c.copy_from_slice.new.self bytes (length bytes) c.copy_from_slice.ensures.after count refl in
    let long = ap length pasted ∙ length-paste page offset bytes (length bytes) within whole ∙ size in
    c.page_mut.ensures.one_page _ long
    ∙ ap (λ (all : List ℕ). with_page c.args.self.now c.args.n all)
    (pasted
    ∙ ap (λ (part : List ℕ). take offset page ++ part ++ drop (offset + length bytes) page) (take_all (length bytes) bytes whole)
    ∙ ap (λ (all : List ℕ). with_bytes all offset bytes) c.page_mut.ensures.bytes)

-- The context page, then those of the body, then those of the stack.
use Rattle.std.proofs.Common.{◌≡◌, ◌+◌, ◌-◌, ◌∙◌, [], ◌∷◌, ◌++◌, length, map, ap, arith, refl, subst}
use Rattle.std.proofs.lemmas.List.{length-map}
use Rattle.aegis_limits.specs.Limits.{stack_end}
use Rattle.frame_store.specs.Pages.{zero_page}
use Rattle.boot_image.specs.ImageValue.{ProgramValue, guaranteed_mappings}
use Rattle.segment_pages.specs.Pages.{vpns}
use Rattle.run_model.specs.Boot.{body_page, kept_of, open_page}
use Rattle.board_model.specs.Loading.{AreGiven, with_mapped, zeros_from}
use Rattle.board_model.proofs.Keeping.{given_both, mapped_more}
use Rattle.board_boot.proofs.loading.load.Goals as goal

pub returns-clause-given : goal.returns-clause-given
returns-clause-given c =
    let p = c.program.inside in
    let body = length (vpns p.body) in
    subst (λ (q : ProgramValue). AreGiven c.args.number (guaranteed_mappings q) c.args.pages.now c.give_zeros.new.pages c.args.frames.now c.give_zeros.new.frames)
    c.program.view_is
    (given_both c.args.number (1 + body) p.stack _ _ _ _ _ _
    (given_both c.args.number 1 body _ _ _ _ _ _ c.entry_frame-env.ensures.given c.give_body.ensures.given)
    c.give_zeros.ensures.given)

pub returns-clause-mapped : goal.returns-clause-mapped
returns-clause-mapped c =
    let p = c.program.inside in
    let n = c.args.number in
    let context = open_page 1 zero_page ∷ [] in
    let bodies = map (body_page p.body) (vpns p.body) in
    let zeros = zeros_from (stack_end - p.stack) p.stack in
    let body = length (vpns p.body) in
    let entered = c.entry_frame-env.ensures in
    let filled = c.give_body.ensures in
    let longer : length (context ++ bodies) ≡ 1 + body = omega (arith, length-map (vpns p.body) (body_page p.body)) in
    subst (λ (q : ProgramValue). c.give_zeros.new.env.mappings ≡ with_mapped n c.args.pages.now (kept_of q) []) c.program.view_is
    (c.give_zeros.ensures.mapped
    ∙ ap (with_mapped n c.give_body.new.pages zeros)
    (filled.mapped
    ∙ ap (with_mapped n c.entry_frame-env.new.pages bodies) entered.mapped
    ∙ mapped_more n 1 _ _ _ _ context bodies [] entered.given refl)
    ∙ mapped_more n (1 + body) _ _ _ _ (context ++ bodies) zeros [] (given_both n 1 body _ _ _ _ _ _ entered.given filled.given) longer)

-- One page more.
use Rattle.std.proofs.Common.{ℕ, ◌+◌, ◌∙◌, [], ◌∷◌, ap, arith, refl, sym}
use Rattle.env_frames.specs.Frame.{EnvValue}
use Rattle.world_model.specs.Table.{listed}
use Rattle.run_model.specs.Boot.{open_page}
use Rattle.frame_store.specs.Pages.{zero_page}
use Rattle.board_model.proofs.Giving.{length-listed, listed_more, one_more}
use Rattle.board_model.proofs.Keeping.{given_both, mapped_more}
use Rattle.board_boot.proofs.loading.give_zeros.Goals as goal

pub loop-i-preserved : goal.loop-i-preserved
loop-i-preserved c =
    let so_far = c.loop-i.invariant in
    let more = c.give_zero_page.ensures in
    let f = λ (i : ℕ). open_page (c.args.vpn + i) zero_page in
    let i = c.loop-i.i in
    record {
      guaranteed = more.guaranteed;
      same = more.given.left.size ∙ so_far.same ∙ sym more.given.size;
      given = given_both c.args.number i 1 _ _ _ _ _ _ so_far.given more.given;
      mapped =
          rw (more.mapped, so_far.mapped, listed_more f i)
          (mapped_more c.args.number i _ _ _ _ (listed f i) (f i ∷ []) c.args.env.now.mappings so_far.given (length-listed f i));
      seen = one_more _ _ _ f i _ more.seen so_far.seen refl;
      above = λ k h. omega (arith, more.above k h);
      count = omega (arith, more.count, so_far.count);
      rest = more.rest ∙ ap (λ (env : EnvValue). record env { mappings = c.give_zero_page.new.env.mappings }) so_far.rest;
    }

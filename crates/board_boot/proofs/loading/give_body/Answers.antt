-- One page more, and one fewer that is left.
use Rattle.std.proofs.Common.{◌≡◌, ℕ, ◌+◌, ◌-◌, ◌∙◌, [], ◌∷◌, length, map, ap, arith, refl, subst, sym}
use Rattle.env_frames.specs.Frame.{EnvValue}
use Rattle.segment_pages.specs.Pages.{pages_from}
use Rattle.run_model.specs.Boot.{body_page}
use Rattle.board_model.specs.Loading.{AreGiven}
use Rattle.board_model.proofs.Giving.{one_moved}
use Rattle.board_model.proofs.Keeping.{given_both, mapped_more}
use Rattle.board_boot.proofs.loading.give_body.Goals as goal

pub loop-vpn-preserved : goal.loop-vpn-preserved
loop-vpn-preserved c =
    let so_far = c.loop-vpn.invariant in
    let more = c.give_page.ensures in
    let found = c.in-Some.ensures in
    let f = body_page c.args.body.now in
    let first = length c.args.env.now.mappings in
    let one : length c.loop-vpn.env.mappings - first + 1 ≡ length c.give_page.new.env.mappings - first = omega (arith, more.count, so_far.more) in
    record {
      guaranteed = more.guaranteed;
      same = more.given.left.size ∙ so_far.same ∙ sym more.given.size;
      given = subst (λ (n : ℕ). AreGiven c.args.number n c.args.pages.now c.give_page.new.pages c.args.frames.now c.give_page.new.frames) one (given_both c.args.number (length c.loop-vpn.env.mappings - first) 1 _ _ _ _ _ _ so_far.given more.given);
      mapped =
          rw (more.mapped, ← so_far.mapped, found.some)
          (mapped_more c.args.number 1 _ _ _ _ (f c.in-Some.vpn ∷ []) (map f (pages_from c.args.body.now (c.in-Some.vpn + 1))) c.loop-vpn.env.mappings more.given refl);
      seen = one_moved _ _ _ f c.in-Some.vpn _ _ _ more.seen found.some so_far.seen;
      above = λ k h. omega (arith, more.above k h, found.range.1);
      numbers = omega (arith, found.range.2);
      more = omega (arith, more.count, so_far.more);
      count = omega (arith, more.count, so_far.count, ap length found.some);
      rest = more.rest ∙ ap (λ (env : EnvValue). record env { mappings = c.give_page.new.env.mappings }) so_far.rest;
    }

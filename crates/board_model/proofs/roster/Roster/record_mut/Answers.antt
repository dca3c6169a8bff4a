-- The environment at the place is lent.
use Rattle.std.proofs.Common.{Some, length, refl, ap, sym, ◌∙◌, arith}
use Rattle.std.specs.Prelude.{slice_get}
use Rattle.std.proofs.lemmas.Option.{slice_get-get_or}
use Rattle.board_model.specs.Lending.{with_environment}
use Rattle.board_model.specs.Shown.{Environments}
use Rattle.board_model.proofs.roster.Roster.record_mut.Goals as goal

pub returns : goal.returns
returns c =
    let place = c.from.result in
    let size = ap (λ (r : Environments). length r.list) c.self.view_is in (
      (refl, λ x. rw c.from.ensures (ap (λ (r : Environments). with_environment r c.args.env x) c.self.view_is)),
      record {
        writes_back = tt;
        environment =
            ap (slice_get c.args.self.now.list) (sym c.from.ensures)
            ∙ ap (λ (r : Environments). slice_get r.list place) (sym c.self.view_is)
            ∙ slice_get-get_or c.self.inside.list.items place c.index_mut.result.now (omega (arith, c.requires, c.from.ensures, size))
            ∙ ap Some (sym c.index_mut.ensures.value);
      },
    )

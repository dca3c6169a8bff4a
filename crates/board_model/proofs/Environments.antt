-- The environment that is lent of a roster is left as another.
use Rattle.std.proofs.Common.{◌≡◌, ℕ, Some, ap}
use Rattle.std.specs.Prelude.{slice_get}
use Rattle.board_model.specs.declared.roster.Environment.{Environment}
use Rattle.board_model.specs.Lending.{with_environment}
use Rattle.board_model.specs.Shown.{Environments, with_list, with_record}
use Rattle.board_model.proofs.Lists.{set_changed}

pub left_as : (f : Environment → Environment) (r : Environments) (e : ℕ) (x : Environment) → slice_get r.list e ≡ Some x
    → with_environment r e (f x) ≡ with_list r (with_record f r.list e)
left_as f r e x is = ap (with_list r) (set_changed f r.list e x is)

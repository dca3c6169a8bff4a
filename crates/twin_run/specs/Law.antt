-- Which answers mean that two feeds are the same.
use Rattle.std.specs.Prelude.{◌≡◌, ◌↔◌, ℕ, Bool, true, false, Some}
use Rattle.aegis_limits.specs.Limits.{most_run_ticks}
use Rattle.run_model.specs.Run.{System, feed}
use Rattle.twin_run.specs.declared.answer.TwinAnswer.{TwinAnswer}
use Rattle.twin_run.specs.declared.answer.TwinAnswer.TheVariants.{FeedsDiffer, NotReached, Same}
use Rattle.twin_run.specs.Answer.{end_in_time}

abbrev pub is_same : TwinAnswer → Bool
is_same (Same fingerprint) = true
is_same (FeedsDiffer index left right) = false
is_same (NotReached which slices) = false

-- Where both come to the end of slice n, it is Same exactly where they are given the same up to there.
abbrev pub IsSameWhereEqual : System → System → ℕ → ℕ → TwinAnswer → Type 0
IsSameWhereEqual left right e n answer =
    (t u : ℕ) → end_in_time left e n most_run_ticks ≡ Some t → end_in_time right e n most_run_ticks ≡ Some u
    → (is_same answer ≡ true) ↔ (feed left e t ≡ feed right e u)

-- The text of an answer.
use Rattle.std.specs.Prelude.{ℕ, List, [], ◌∷◌, ◌++◌, codes}
use Rattle.line_text.specs.Text.{dec_text}
use Rattle.line_text.specs.WrittenLine.{line}
use Rattle.twin_run.specs.declared.answer.Side.{Side}
use Rattle.twin_run.specs.declared.answer.Side.TheVariants as side
use Rattle.twin_run.specs.declared.answer.TwinAnswer.{TwinAnswer}
use Rattle.twin_run.specs.declared.answer.TwinAnswer.TheVariants.{FeedsDiffer, NotReached, Same}

abbrev pub side_name : Side → List ℕ
side_name side.Left = codes "left"
side_name side.Right = codes "right"

abbrev pub twin_text : ℕ → TwinAnswer → List ℕ
twin_text e (Same fingerprint) = line (codes "same" ∷ dec_text e ∷ fingerprint ∷ [])
twin_text e (FeedsDiffer index left right) =
    line (codes "differ" ∷ dec_text index ∷ []) ++ line (left ∷ []) ++ line (right ∷ [])
twin_text e (NotReached which slices) = line (codes "short" ∷ side_name which ∷ dec_text slices ∷ [])

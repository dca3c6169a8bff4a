-- What is answered of two runs.
use Rattle.std.specs.Prelude.{ℕ, zero, suc, List, [], ◌∷◌, length, Bool, ◌==◌, if◌then◌else◌, nat_lt, Option, Some, None, option_map, slice_get, codes}
use Rattle.std.specs.Option.{option_map_or, option_or}
use Rattle.world_model.specs.Item.{Item}
use Rattle.run_model.specs.Run.{System, feed, world_after}
use Rattle.run_model.specs.Slices.{slices}
use Rattle.machine_text.specs.Fingerprint.{fingerprint}
use Rattle.run_report.specs.Report.{env_text}
use Rattle.feed_log.specs.Views.{item_seen}
use Rattle.twin_run.specs.declared.answer.Side.TheVariants as side
use Rattle.twin_run.specs.declared.answer.TwinAnswer.{TwinAnswer}
use Rattle.twin_run.specs.declared.answer.TwinAnswer.TheVariants.{FeedsDiffer, NotReached, Same}
use Rattle.twin_run.specs.ItemText.{is_alike, item_text}

-- the index of the first item in which two feeds differ, also where one ends before it
abbrev pub first_difference : List Item → List Item → Option ℕ
first_difference [] [] = None
first_difference [] (y ∷ ys) = Some 0
first_difference (x ∷ xs) [] = Some 0
first_difference (x ∷ xs) (y ∷ ys) =
    if is_alike (item_seen x) (item_seen y) then option_map suc (first_difference xs ys) else Some 0

-- the text of an item, and of none past the end of a feed
abbrev pub text_or_none : Option Item → List ℕ
text_or_none item = option_map_or (λ x. item_text (item_seen x)) item (codes "none")

-- whether an image has an environment of this number
abbrev pub is_there : System → ℕ → Bool
is_there system e = nat_lt e (length system.image.programs)

abbrev pub if_ended : System → ℕ → ℕ → ℕ → Option ℕ
if_ended system e n t = if slices system e t == n then Some t else None

-- the fewest ticks, and most at most, in which n slices of an environment have ended, if they do
abbrev pub end_within : System → ℕ → ℕ → ℕ → Option ℕ
end_within system e n zero = if_ended system e n zero
end_within system e n (suc most) = option_or (end_within system e n most) (if_ended system e n (suc most))

-- an environment that isn't there has no slices
unfoldable pub end_in_time : System → ℕ → ℕ → ℕ → Option ℕ
end_in_time system e n most = if is_there system e then end_within system e n most else None

unfoldable pub slices_in : System → ℕ → ℕ → ℕ
slices_in system e most = if is_there system e then slices system e most else 0

-- the first difference of two feeds, or the fingerprint of what the left run shows of the environment
abbrev pub compared : List Item → List Item → List ℕ → Option ℕ → TwinAnswer
compared left right lines None = Same (fingerprint lines)
compared left right lines (Some index) =
    FeedsDiffer index (text_or_none (slice_get left index)) (text_or_none (slice_get right index))

-- where the slices end, if they do: a side that doesn't come to its end is named, the left one first
abbrev pub answer_by : System → System → ℕ → ℕ → Option ℕ → Option ℕ → TwinAnswer
answer_by left right e most None right_end = NotReached side.Left (slices_in left e most)
answer_by left right e most (Some t) None = NotReached side.Right (slices_in right e most)
answer_by left right e most (Some t) (Some u) =
    compared (feed left e t) (feed right e u) (env_text (world_after left t) e)
    (first_difference (feed left e t) (feed right e u))

-- The answer on two systems, of an environment up to the end of its slice n, each of at most so many ticks: the side
-- that doesn't come so far, else the first difference of what both are given, else that it is the same.
abbrev pub twin_answer : System → System → ℕ → ℕ → ℕ → TwinAnswer
twin_answer left right e n most = answer_by left right e most (end_in_time left e n most) (end_in_time right e n most)

-- What the answers of a comparison of two runs mean.
use Rattle.std.specs.Prelude.{◌≡◌, ◌<◌, ℕ, List, Bool, true, false, Option, Some, option_map, slice_get}
use Rattle.machine_text.specs.Fingerprint.{fingerprint}
use Rattle.feed_log.specs.Views.{ItemSeen, item_seen}
use Rattle.boot_image.specs.Accepted.{IsAccepted}
use Rattle.world_model.specs.Item.{Item}
use Rattle.run_model.specs.Run.{System, feed, world_after}
use Rattle.run_report.specs.Report.{env_text}
use Rattle.quiet_law.specs.Quiet.{IsQuietInBoth}
use Rattle.twin_run.specs.declared.answer.TwinAnswer.{TwinAnswer}
use Rattle.twin_run.specs.declared.answer.TwinAnswer.TheVariants.{FeedsDiffer, NotReached, Same}
use Rattle.twin_run.specs.Answer.{end_in_time, twin_answer}

-- whether an answer names a difference
abbrev pub names_difference : TwinAnswer → Bool
names_difference (Same fingerprint) = false
names_difference (FeedsDiffer index left right) = true
names_difference (NotReached which slices) = false

-- Of an environment that is quiet in both runs no answer names a difference.
abbrev pub TwinOfQuiet : Type 0
TwinOfQuiet = (left right : System) (e n most : ℕ) → IsQuietInBoth left right e most most
    → names_difference (twin_answer left right e n most) ≡ false

-- Where both come to the end of slice n, the answer has the fingerprint of what the right run shows of it, which is
-- the left one's too.
abbrev pub TwinShowsQuiet : Type 0
TwinShowsQuiet = (left right : System) (e n most t u : ℕ) → IsQuietInBoth left right e t u
    → end_in_time left e n most ≡ Some t → end_in_time right e n most ≡ Some u
    → twin_answer left right e n most ≡ Same (fingerprint (env_text (world_after right u) e))

-- what is shown of the item at a place, if there is one
abbrev pub seen_at : List Item → ℕ → Option ItemSeen
seen_at items i = option_map item_seen (slice_get items i)

-- A place is the first at which two feeds differ: below it their items are shown alike, and so are the same if both
-- images are accepted; at it they are not the same.
pub record IsFirstDifference (left right : System) (e t u index : ℕ) : Type 0 where
  pub shown_same : (i : ℕ) → i < index → seen_at (feed left e t) i ≡ seen_at (feed right e u) i
  pub same : IsAccepted left.image → IsAccepted right.image
      → (i : ℕ) → i < index → slice_get (feed left e t) i ≡ slice_get (feed right e u) i
  pub differ : slice_get (feed left e t) index ≡ slice_get (feed right e u) index → ⊥

-- The place that an answer names is the first at which the feeds up to the end of slice n differ.
abbrev pub TwinNamesFirst : Type 0
TwinNamesFirst = (left right : System) (e n most t u index : ℕ) (left_text right_text : List ℕ)
    → end_in_time left e n most ≡ Some t → end_in_time right e n most ≡ Some u
    → twin_answer left right e n most ≡ FeedsDiffer index left_text right_text
    → IsFirstDifference left right e t u index

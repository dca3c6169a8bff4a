-- What the runner does to itself alone, on the world that is shown.
use Rattle.std.proofs.Common.{◌≡◌, ℕ, [], ◌∷◌, ◌++◌, refl, rules}
use Rattle.std.specs.Prelude.{unwrap_or}
use Rattle.world_model.specs.declared.call.Deed.TheVariants.{Own}
use Rattle.world_model.specs.declared.call.OwnDeed.{OwnDeed}
use Rattle.world_model.specs.declared.call.OwnDeed.TheVariants.{Puts, Sends, Handles, Accepts}
use Rattle.world_model.specs.declared.verdict.Verdict.TheVariants.{Grant}
use Rattle.world_model.specs.Call.{good_range}
use Rattle.world_model.specs.Item.{answered_cpu}
use Rattle.world_model.specs.OwnCalls.{put_bytes}
use Rattle.world_model.specs.Solo.{sight}
use Rattle.world_model.specs.Verdict.{done}
use Rattle.board_model.specs.declared.roster.Environment.{Environment}
use Rattle.board_model.specs.Shown.{Shown}
use Rattle.board_model.specs.Showing.{world_of, solo_of}
use Rattle.board_model.specs.Sound.{IsSoundBoard}
use Rattle.board_model.specs.Doing as doing
use Rattle.board_model.proofs.Lists.{changed_here, changed_else, length-changed}
use Rattle.board_model.proofs.Mappings.{kept_mappings}
use Rattle.board_model.proofs.Replying.{Serves, deeded, deeded_seen, changes_one}
use Rattle.board_model.proofs.Seen.{same_solo, Runs, runner_seen, runner_solo, its_look}
use Rattle.board_model.proofs.Sound.{Keeps, keeps_accepting, keeps_handling, keeps_putting, keeps_sending}

-- its life and its guaranteed mappings stay
pub keeps_own : (b : Shown) (e : ℕ) (own : OwnDeed) → Keeps (doing.own_record b e own)
keeps_own b e own = search (rules, keeps_putting, keeps_sending, keeps_handling, keeps_accepting)

module _ (b : Shown) (e : ℕ) (x : Environment) (r : Runs b e x) (sound : IsSoundBoard b) where
  looks : (λ v. doing.look_of b e v) ≡ sight (runner_solo b e x)
  looks = λ k v. its_look b e x r sound v k

  -- what its record shows of each deed, once its call is answered
  shows : (own : OwnDeed) (v : ℕ) → runner_solo (doing.after_answer (doing.after_own_deed b e own) (Grant v)) e (doing.own_record b e own x) ≡ deeded (Own own) v (runner_solo b e x)
  shows (Puts address size) v = λ k. record (runner_solo b e x) { cpu = answered_cpu (Grant v) b.cpu; console = x.output.console ++ unwrap_or (put_bytes (looks k) address size) [] }
  shows (Sends address size) v = λ k. record (runner_solo b e x) { cpu = answered_cpu (Grant v) b.cpu; sent = x.output.sent ++ unwrap_or (good_range (looks k) address size) [] ∷ [] }
  shows (Handles kind address) v = refl
  shows (Accepts mask) v = refl

  pub own_serves : (own : OwnDeed) (v : ℕ) → Serves b e (deeded (Own own) v (solo_of b e)) (done (world_of b) e (Own own)) (doing.after_grant b e v (Own own))
  own_serves own v = search (rules, keeps_own, changed_here, changes_one, kept_mappings, length-changed, runner_seen, deeded_seen, same_solo, changed_else, shows)

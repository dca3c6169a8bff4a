-- The runner of a board lives, by what the board shows.
use Rattle.std.proofs.Common.{◌≡◌, ◌<◌, ℕ, Some, length, refl, ap, subst, ◌∙◌}
use Rattle.world_model.specs.Book.{running}
use Rattle.board_model.specs.Shown.{Shown}
use Rattle.board_model.specs.Sound.{IsLiving, IsSoundBoard}
use Rattle.board_model.proofs.Sound.{runner_alive}

pub runner_live : {b now : Shown} {e : ℕ} → b ≡ now → IsSoundBoard b → running now.slots.runner ≡ Some e → IsLiving b.roster.list e
runner_live {b} {now} {e} same sound runs = runner_alive b.slots b.roster e sound.book (ap (λ (s : Shown). running s.slots.runner) same ∙ runs)

-- and is one of the environments that are shown
pub runner_there : {b now : Shown} {e : ℕ} → b ≡ now → IsSoundBoard b → running now.slots.runner ≡ Some e → e < length now.roster.list
runner_there same sound runs = (runner_live refl (subst IsSoundBoard same sound) runs).0

-- the parts of a board, as they stand before it is seen
abbrev pub seen : {b now : Shown} → b ≡ now → Shown
seen {b} same = b

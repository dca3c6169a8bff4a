-- A caller that asks another environment for a page.
use Rattle.std.proofs.Common.{ℕ, ◌+◌, Option, Some, None, is_none}
use Rattle.std.specs.Prelude.{◌*◌}
use Rattle.revocation_book.specs.declared.revocation.Pending.{Pending}
use Rattle.revocation_book.specs.Pending.{asked}
use Rattle.world_model.specs.Event.{asks, revokes}
use Rattle.world_model.specs.Verdict.{asks_one}
use Rattle.world_model.specs.World.{World, Reply, is_living, no_change}
use Rattle.sharing_law.proofs.Choices.{either}

-- What holds where nothing changes, and where an environment is asked for pages, holds of a revocation,
pub revocation_or : (P : Reply → Type 0) (w : World) (e count deadline : ℕ) → P (no_change w) → ((p : Pending) → P (asks e (Some p) w)) → P (revokes e count deadline w)
revocation_or P w e count deadline same asks_it =
    let pending = asked count deadline (w.book.pending e) in
    either P (is_living w e) (asks e pending w) (no_change w) (by_pending pending) same
  where
    by_pending : (pending : Option Pending) → P (asks e pending w)
    by_pending None = same
    by_pending (Some p) = asks_it p

-- and of one by a caller.
pub asking_or : (P : Reply → Type 0) (w : World) (who : ℕ) → P (no_change w) → ((p : Pending) → P (asks who (Some p) w)) → P (asks_one who w)
asking_or P w who same asks_it =
    let until = w.book.time + 2 * w.book.quantum in
    either P (is_none (w.book.pending who)) (revokes who 1 until w) (no_change w) (revocation_or P w who 1 until same asks_it) same

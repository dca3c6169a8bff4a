-- What a store leaves of the guaranteed pages.
use Rattle.std.proofs.Common.{◌≡◌, ℕ, List, [], ◌∷◌, refl, ap}
use Rattle.world_model.specs.Page.{KeptPage}
use Rattle.world_model.specs.Solo.{Physical, kept_after}

-- a store into a page that isn't guaranteed leaves those that are
pub kept_as_was : (kept : List KeptPage) (page offset : ℕ) (bytes : List ℕ) → kept_after kept (record { key = Physical page; offset = offset; bytes = bytes }) ≡ kept
kept_as_was [] page offset bytes = refl
kept_as_was (p ∷ kept) page offset bytes = ap (λ ps. p ∷ ps) (kept_as_was kept page offset bytes)

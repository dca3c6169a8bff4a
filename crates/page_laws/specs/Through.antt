-- Through what an environment stores to a page.
use Rattle.std.specs.Prelude.{◌≡◌, ℕ, true, Some}
use Rattle.bind_book.specs.declared.binding.Binding.{Binding}
use Rattle.world_model.specs.Solo.{Solo, Store, Physical}
use Rattle.world_model.specs.Step.{Stores, act_of, step_alone}

-- An environment has a binding of its own of a page, in a row of its stripe, and may store through it.
pub record IsThrough (s : Solo) (page : ℕ) : Type 0 where
  pub row : ℕ
  pub binding : Binding
  pub found : s.binds row ≡ Some binding
  pub its : binding.page ≡ page
  pub writable : binding.writable ≡ true

-- A store that an environment's next step makes to a page that isn't guaranteed to it goes through such a binding.
abbrev pub StoresGoThrough : Type 0
StoresGoThrough =
    (s : Solo) (x : Store) (page : ℕ) → act_of s (step_alone s) ≡ Stores x → x.key ≡ Physical page → IsThrough s page

-- What an environment sees at its VPNs.
use Rattle.std.specs.Prelude.{ℕ, List, Option}
use Rattle.env_frames.specs.declared.mapping.Mapping.{Mapping}
use Rattle.bind_book.specs.Stripe.{Stripes, stripes}
use Rattle.guest_memory.specs.Look.{mapping_in}

-- its guaranteed mappings, the stripes of all environments, and its number
pub record SpaceValue : Type 0 where
  pub mappings : List Mapping
  pub binds : Stripes
  pub number : ℕ

-- the mapping of a VPN
unfoldable pub lookup : SpaceValue → ℕ → Option Mapping
lookup s = mapping_in s.binds.version s.mappings (stripes s.binds s.number)

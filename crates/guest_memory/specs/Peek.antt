-- A store that is noted and not made. For proofs: nobody has to believe it.
use Rattle.std.specs.Prelude.{◌≡◌, ℕ, List, Option, Some, None}
use Rattle.std.specs.Option.{option_map}
use Rattle.mips_exec.specs.Access.{Write, low_bytes}
use Rattle.mips_exec.specs.Step.{Answers}
use Rattle.world_model.specs.Page.{answers_by}
use Rattle.guest_memory.specs.Look.{look}
use Rattle.guest_memory.specs.Space.{SpaceValue, lookup}
use Rattle.guest_memory.specs.declared.peek_bus.Written.{Written}
use Rattle.guest_memory.specs.declared.peek_bus.PeekBus.{PeekBus}

-- what an environment's memory answers
abbrev pub seen_through : List (List ℕ) → SpaceValue → Answers
seen_through frames space = answers_by (look frames (lookup space))

abbrev pub write_seen : Written → Write
write_seen w = record { address = w.address; bytes = low_bytes w.width w.value }

-- nothing is noted
pub record IsKept (old new : PeekBus) : Type 0 where
  pub frames : new.frames.now ≡ old.frames.now
  pub space : new.space.now ≡ old.space.now
  pub written : new.written ≡ old.written

-- a store is noted
abbrev pub IsNoted : PeekBus → ℕ → List ℕ → PeekBus → Type 0
IsNoted old address bytes new = option_map write_seen new.written ≡ Some (record { address = address; bytes = bytes })

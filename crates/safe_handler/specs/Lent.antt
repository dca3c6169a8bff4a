-- What is lent for the accesses of a handler. For proofs: nobody has to believe it.
use Rattle.std.specs.Prelude.{◌≡◌, ℕ, List}
use Rattle.safe_handler.specs.declared.lent.HandlerBus.{HandlerBus}
use Rattle.handler_rules.specs.Memory.{stored}

-- it is the same memory that was lent, and nothing was stored
pub record IsKept (old new : HandlerBus) : Type 0 where
  pub lent : new.page.ghost_name ≡ old.page.ghost_name
  pub words : new.words.now ≡ old.words.now
  pub packet : new.packet.now ≡ old.packet.now
  pub page : new.page.now ≡ old.page.now

-- it is the same memory that was lent, and these bytes were stored at this address
pub record IsStored (old : HandlerBus) (address : ℕ) (bytes : List ℕ) (new : HandlerBus) : Type 0 where
  pub lent : new.page.ghost_name ≡ old.page.ghost_name
  pub words : new.words.now ≡ old.words.now
  pub packet : new.packet.now ≡ old.packet.now
  pub page : new.page.now ≡ stored old.page.now address bytes

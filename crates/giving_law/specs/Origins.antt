-- By which items the console, the sent packets and the registers of an environment change.
use Rattle.std.specs.Prelude.{◌≡◌, ℕ, List, [], ◌∷◌, ◌++◌, Some, unwrap_or, ◌⊎◌}
use Rattle.world_model.specs.declared.call.Deed.{Deed}
use Rattle.world_model.specs.declared.call.Deed.TheVariants.{Own}
use Rattle.world_model.specs.declared.call.OwnDeed.TheVariants.{Puts, Sends}
use Rattle.world_model.specs.declared.verdict.Verdict.TheVariants.{Grant}
use Rattle.world_model.specs.Call.{good_range}
use Rattle.world_model.specs.Item.{Item, Boot, Step, Start, End, Transfer, Killed, Answer, Packet, absorb, deed_at}
use Rattle.world_model.specs.OwnCalls.{put_bytes}
use Rattle.world_model.specs.Post.{counted}
use Rattle.env_frames.specs.declared.post.PostWord.TheVariants as post
use Rattle.world_model.specs.Rings.{Handles, reception, ring_of, sent_with_replies}
use Rattle.world_model.specs.Solo.{Ring, Solo, sight}

-- An environment writes to its console by a put of its own that is granted: the bytes of its range stand behind what was
-- there.
pub record WritesOwn (s t : Solo) (deed : Deed) : Type 0 where
  pub address : ℕ
  pub size : ℕ
  pub puts : deed ≡ Own (Puts address size)
  pub has : t.console ≡ s.console ++ unwrap_or (put_bytes (sight s) address size) []

abbrev pub AddsToConsole : Solo → Solo → Item → Type 0
AddsToConsole s t (Boot version number name entry accept kept) = t.console ≡ []
AddsToConsole s t (Answer (Grant value)) = WritesOwn s t (deed_at s value)
AddsToConsole s t item = ⊥

-- Every other item leaves the console.
abbrev pub ConsoleHasOrigin : Type 0
ConsoleHasOrigin = (s : Solo) (item : Item)
    → (let t = absorb s item in (t.console ≡ s.console) ⊎ AddsToConsole s t item)

-- It sends by a send of its own that is granted,
pub record SendsOwn (s t : Solo) (deed : Deed) : Type 0 where
  pub address : ℕ
  pub size : ℕ
  pub sends : deed ≡ Own (Sends address size)
  pub has : t.sent ≡ s.sent ++ unwrap_or (good_range (sight s) address size) [] ∷ []

-- and by the handler of a claim of its own, which replies to a packet.
pub record Replies (s t : Solo) (claim : ℕ) (packet : List ℕ) : Type 0 where
  pub ring : Ring
  pub its : ring_of s.rings claim ≡ Some ring
  pub page : List ℕ
  pub replies : List (List ℕ)
  pub handled : reception (counted post.Packets s) ring packet ≡ Handles page replies
  pub has : t.sent ≡ sent_with_replies s.sent replies

abbrev pub AddsToSent : Solo → Solo → Item → Type 0
AddsToSent s t (Boot version number name entry accept kept) = t.sent ≡ []
AddsToSent s t (Answer (Grant value)) = SendsOwn s t (deed_at s value)
AddsToSent s t (Packet claim packet) = Replies s t claim packet
AddsToSent s t item = ⊥

abbrev pub SentHasOrigin : Type 0
SentHasOrigin = (s : Solo) (item : Item) → (let t = absorb s item in (t.sent ≡ s.sent) ⊎ AddsToSent s t item)

-- Its registers change by its record, its own steps, the start and the end of a slice, a transfer to it, answers to its
-- calls, and its death.
abbrev pub Moves : Item → Type 0
Moves (Boot version number name entry accept kept) = Unit {0}
Moves Step = Unit {0}
Moves Start = Unit {0}
Moves End = Unit {0}
Moves (Transfer from kind registers) = Unit {0}
Moves Killed = Unit {0}
Moves (Answer verdict) = Unit {0}
Moves item = ⊥

abbrev pub RegistersHaveOrigin : Type 0
RegistersHaveOrigin = (s : Solo) (item : Item) → ((absorb s item).cpu ≡ s.cpu) ⊎ Moves item

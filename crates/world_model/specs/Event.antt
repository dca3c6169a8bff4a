-- What happens to the board from outside.
use Rattle.std.specs.Prelude.{ℕ, ◌+◌, List, [], ◌∷◌, map, filter, ◌==◌, length, if◌then◌else◌, Option, Some, None}
use Rattle.kernel_journal.specs.declared.row.Row.TheVariants as row
use Rattle.external_event.specs.declared.event.Occurrence.{Occurrence}
use Rattle.external_event.specs.declared.event.Occurrence.TheVariants as outside
use Rattle.external_event.specs.EventValue.{EventValue}
use Rattle.filter_tree.specs.ClaimBook.{ClaimValue}
use Rattle.world_model.specs.Table.{set_at}
use Rattle.world_model.specs.Book.{Book}
use Rattle.world_model.specs.Solo.{Solo, Ring}
use Rattle.world_model.specs.Rings.{page_left, page_store, reception, ring_of}
use Rattle.revocation_book.specs.declared.revocation.Pending.{Pending}
use Rattle.revocation_book.specs.Pending.{asked}
use Rattle.world_model.specs.Item.{Item, Asked, Line, Packet}
use Rattle.world_model.specs.PageCalls.{left_by}
use Rattle.world_model.specs.ClaimCalls.{claim_of}
use Rattle.world_model.specs.World.{World, Reply, is_living, no_change, no_items, only, tells}

-- what happens in each tick, in order
abbrev pub Schedule : Type 0
Schedule = ℕ → List Occurrence

-- the schedule of a list of events
abbrev pub schedule_of : List EventValue → Schedule
schedule_of events tick = map (λ (x : EventValue). x.what) (filter (λ (x : EventValue). x.time == tick) events)

-- A packet that nobody claims is dropped, and the ledger tells its length.
abbrev pub drops_packet : List ℕ → World → Reply
drops_packet packet w = record {
  book = w.book;
  items = no_items;
  rows = row.Unclaimed w.book.time (length packet) ∷ [];
}

-- A signal on an interrupt line is its owner's, if the line has one.
abbrev pub signals : ℕ → Option ℕ → World → Reply
signals line None w = no_change w
signals line (Some owner) w = tells owner (Line line) w

-- A packet that is claimed goes to the claim's environment, and whoever else owns or has bound the ring page is left
-- all its bytes, unless the packet is lost. A handler runs as a part of this.
abbrev pub ring_left : Book → ℕ → ℕ → Option (List ℕ) → ℕ → List Item
ring_left b owner page None e = []
ring_left b owner page (Some bytes) e = left_by b owner (page_store page bytes) e

abbrev pub ring_bytes : Solo → Option Ring → List ℕ → Option (List ℕ)
ring_bytes s None packet = None
ring_bytes s (Some r) packet = page_left (reception s r packet)

abbrev pub delivers : ClaimValue → List ℕ → World → Reply
delivers c packet w = let s = w.solos c.env in record {
  book = w.book;
  items = set_at c.env (Packet c.id packet ∷ [])
      (ring_left w.book c.env c.page (ring_bytes s (ring_of s.rings c.id) packet));
  rows = [];
}

abbrev pub arrives : List ℕ → Option ClaimValue → World → Reply
arrives packet None w = drops_packet packet w
arrives packet (Some c) w = delivers c packet w

-- A revocation asks an environment for pages. Where nothing is outstanding then, nothing happens.
abbrev pub asks : ℕ → Option Pending → World → Reply
asks e None w = no_change w
asks e (Some p) w = record {
  book = record w.book { pending = set_at e (Some p) w.book.pending };
  items = only e (Asked p.outstanding p.deadline ∷ []);
  rows = row.Asked w.book.time e p.outstanding p.deadline ∷ [];
}

-- It is for an environment that is there and lives.
abbrev pub revokes : ℕ → ℕ → ℕ → World → Reply
revokes e count deadline w = if is_living w e then asks e (asked count deadline (w.book.pending e)) w else no_change w

-- what an event does
abbrev pub happen : Occurrence → World → Reply
happen (outside.Packet packet) w = arrives packet (claim_of w.book packet) w
happen (outside.Line line) w = signals line (w.book.lines line) w
happen (outside.Revoke env count grace) w = revokes env count (w.book.time + grace) w

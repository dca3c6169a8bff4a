-- The world that a board shows.
use Rattle.std.specs.Prelude.{ℕ, if◌then◌else◌, List, map, length, Option, Some, None, slice_get}
use Rattle.mips_exec.specs.declared.registers.Cpu.{Cpu}
use Rattle.frame_store.specs.Pages.{page_at}
use Rattle.env_frames.specs.declared.mapping.Mapping.{Mapping}
use Rattle.page_book.specs.Rows.{row_in}
use Rattle.bind_book.specs.Stripe.{stripes}
use Rattle.slot_vector.specs.Slices.{excess_of, hold_at}
use Rattle.world_model.specs.Page.{KeptPage}
use Rattle.world_model.specs.Book.{Book, is_runner}
use Rattle.world_model.specs.Solo.{Solo, absent}
use Rattle.world_model.specs.World.{World}
use Rattle.page_laws.specs.Sight.{seen_in}
use Rattle.board_model.specs.declared.roster.Environment.{Environment}
use Rattle.filter_tree.specs.ClaimBook.{claims_in}
use Rattle.revocation_book.specs.RevocationBook.{backups_at, pending_at}
use Rattle.board_model.specs.Lines.{line_at}
use Rattle.board_model.specs.Rings.{rings_of}
use Rattle.board_model.specs.Shown.{Shown, mappings_of}

-- a mapping with the bytes of its page
abbrev pub page_seen : List (List ℕ) → Mapping → KeptPage
page_seen frames m = record { vpn = m.vpn; writable = m.writable; bytes = page_at frames m.page }

abbrev pub pages_seen : List (List ℕ) → List Mapping → List KeptPage
pages_seen frames mappings = map (page_seen frames) mappings

-- the runner's registers are the machine's, and each other's are those that are kept
abbrev pub cpu_seen : Shown → ℕ → Cpu → Cpu
cpu_seen b e kept = if is_runner e b.slots.runner then b.cpu else kept

abbrev pub solo_seen : Shown → ℕ → Environment → Solo
solo_seen b e x = record {
  version = b.binds.version;
  number = e;
  name = x.name;
  life = x.life;
  cpu = cpu_seen b e x.env.cpu;
  handlers = x.env.handlers;
  mask = x.env.mask;
  kept = pages_seen b.frames x.env.mappings;
  binds = stripes b.binds e;
  seen = seen_in e (row_in b.pages) (stripes b.binds e) (page_at b.frames);
  rings = rings_of b.claims e;
  console = x.output.console;
  sent = x.output.sent;
}

abbrev pub solo_or_absent : Shown → ℕ → Option Environment → Solo
solo_or_absent b e None = absent e
solo_or_absent b e (Some x) = solo_seen b e x

-- an environment of the board, or one that it hasn't got
abbrev pub solo_of : Shown → ℕ → Solo
solo_of b e = solo_or_absent b e (slice_get b.roster.list e)

abbrev pub book_of : Shown → Book
book_of b = record {
  version = b.binds.version;
  slot_count = length b.slots.slots;
  slots = hold_at b.slots.slots;
  quantum = b.slots.quantum;
  cursor = b.slots.cursor;
  runner = b.slots.runner;
  excess = excess_of b.slots.excess;
  page_count = length b.pages;
  pages = row_in b.pages;
  kept = mappings_of b.roster.list;
  binds = stripes b.binds;
  lines = line_at b.lines;
  claims = claims_in b.claims;
  next_claim = b.claims.next;
  pending = pending_at b.revocations;
  backups = backups_at b.revocations;
  time = b.time;
}

abbrev pub world_of : Shown → World
world_of b = record { book = book_of b; count = length b.roster.list; solos = solo_of b; rows = b.ledger.rows }

-- The death of an environment: what becomes of its slots and pages, and what the others are given of it.
use Rattle.std.specs.Prelude.{ℕ, zero, suc, List, [], ◌∷◌, ◌++◌, ◌==◌, if◌then◌else◌, Option, None}
use Rattle.kernel_journal.specs.declared.row.Row.{Row}
use Rattle.kernel_journal.specs.declared.row.Row.TheVariants as row
use Rattle.page_book.specs.Row.{belongs_to}
use Rattle.page_book.specs.Row.{released as freed_row}
use Rattle.bind_book.specs.Stripe.{goes_with, without}
use Rattle.world_model.specs.declared.hold.Hold.{Hold}
use Rattle.world_model.specs.Table.{set_at}
use Rattle.world_model.specs.Book.{Book, hold_without, has_part, withdrawn}
use Rattle.filter_tree.specs.ClaimBook.{is_of_env}
use Rattle.world_model.specs.Item.{Item}
use Rattle.world_model.specs.World.{World, Reply}
use Rattle.world_model.specs.PageCalls.{lost_bindings}
use Rattle.world_model.specs.SlotCalls.{slot_row}
use Rattle.world_model.specs.LineCalls.{line_without}

-- A death frees all pages of the environment: whoever has bound one of those below this number loses it, by rising
-- number.
abbrev pub lost_with : Book → ℕ → ℕ → ℕ → List Item
lost_with b gone e zero = []
lost_with b gone e (suc page) =
    lost_with b gone e page ++ (if belongs_to gone (b.pages page) then lost_bindings b page e else [])

abbrev pub death_items : Book → ℕ → ℕ → List Item
death_items b gone e = if e == gone then [] else lost_with b gone e b.page_count

-- the book without an environment's pages and mappings, the bindings of these pages, and its own; without its claims,
-- the rings of which are among its pages; and without its backups and what it is asked for
abbrev pub without_pages_of : ℕ → Book → Book
without_pages_of gone b = record b {
  pages = λ page. freed_row gone (b.pages page);
  kept = set_at gone [] b.kept;
  binds = λ e row. without (goes_with b.pages gone e) (b.binds e row);
  claims = (withdrawn (is_of_env gone) b).claims;
  pending = set_at gone None b.pending;
  backups = set_at gone [] b.backups;
}

-- the row of a slot that an environment owns or holds, once it is gone
abbrev pub released_row : ℕ → ℕ → ℕ → Option Hold → List Row
released_row t e k hold = if has_part e hold then slot_row t k (hold_without e hold) ∷ [] else []

-- the rows of the slots below k that change once an environment is gone, by rising slot
abbrev pub released_rows : ℕ → ℕ → (ℕ → Option Hold) → ℕ → List Row
released_rows t e slots zero = []
released_rows t e slots (suc k) = released_rows t e slots k ++ released_row t e k (slots k)

-- the runner's death: its slots are empty, its pages free, its lines nobody's, it owes nothing, and the rest of its
-- slice is dropped
abbrev pub death : World → ℕ → Reply
death w e = record {
  book =
      without_pages_of e (record w.book {
        slots = λ k. hold_without e (w.book.slots k);
        runner = None;
        excess = set_at e 0 w.book.excess;
        lines = λ line. line_without e (w.book.lines line);
      });
  items = death_items w.book e;
  rows = row.Dead w.book.time w.book.cursor e ∷ released_rows w.book.time e w.book.slots w.book.slot_count;
}

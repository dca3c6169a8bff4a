-- The abort: what the kernel takes once a deadline has come.
use Rattle.std.specs.Prelude.{ℕ, List, [], ◌∷◌, ◌++◌, drop, Option, Some, None}
use Rattle.kernel_journal.specs.declared.row.Row.TheVariants as row
use Rattle.revocation_book.specs.declared.revocation.Taking.{Taking}
use Rattle.revocation_book.specs.Pending.{unless_due}
use Rattle.revocation_book.specs.Takings.{takings_below}
use Rattle.world_model.specs.Table.{set_at}
use Rattle.world_model.specs.Item.{Item, Taken}
use Rattle.world_model.specs.PageCalls.{lost_bindings, freed, left_by, page_bytes, revocations}
use Rattle.world_model.specs.Rings.{page_store}
use Rattle.world_model.specs.World.{World, Reply, no_items}

-- What is taken in this world: of each environment whose deadline has come, the lowest first, as many victims as
-- pages are outstanding, by rising number. They are all chosen before any is taken.
abbrev pub takings : World → List Taking
takings w = takings_below (revocations w.book) w.book.time w.count

-- The copy is left to whoever else has bound the backup.
abbrev pub copy_left : World → Taking → Option ℕ → ℕ → List Item
copy_left w x None e = []
copy_left w x (Some backup) e = left_by w.book x.env (page_store backup (page_bytes w x.page)) e

-- A page is taken: the first backup gets a copy of it and is an ordinary page again, and the page is nobody's.
abbrev pub takes : Taking → World → Reply
takes x w = record {
  book = record (freed x.page w.book) { backups = set_at x.env (drop 1 (w.book.backups x.env)) w.book.backups };
  items = set_at x.env (Taken x.page x.backup ∷ []) (λ e. copy_left w x x.backup e ++ lost_bindings w.book x.page e);
  rows = row.Take w.book.time x.env x.page x.backup ∷ [];
}

-- The deadlines that have come are over.
abbrev pub settles : World → Reply
settles w = record {
  book = record w.book { pending = λ e. unless_due w.book.time (w.book.pending e) };
  items = no_items;
  rows = [];
}

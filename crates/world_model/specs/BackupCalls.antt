-- The call by which an environment loads a page as a backup for those that are taken from it.
use Rattle.std.specs.Prelude.{ℕ, [], Option}
use Rattle.std.specs.Option.{option_map, option_or}
use Rattle.mips_exec.specs.Cpu.{reg}
use Rattle.revocation_book.specs.declared.revocation.LoadNo.{LoadNo}
use Rattle.revocation_book.specs.declared.revocation.LoadNo.TheVariants as no
use Rattle.revocation_book.specs.Backups.{load_refusal, loaded}
use Rattle.world_model.specs.declared.code.Code.{Code}
use Rattle.world_model.specs.declared.code.Code.TheVariants as code
use Rattle.world_model.specs.declared.verdict.Verdict.{Verdict}
use Rattle.world_model.specs.Answer.{granted_unless}
use Rattle.world_model.specs.PageCalls.{refusal_of_change}
use Rattle.world_model.specs.Table.{set_at}
use Rattle.world_model.specs.World.{World, Reply, no_items}

-- what a caller is told of a refusal by the book of revocations
abbrev pub code_of_load : LoadNo → Code
code_of_load no.Loaded = code.Taken
code_of_load no.Full = code.Full

-- Backup: the page is one of the caller's own that isn't guaranteed, and not a backup yet; and there is room for one
-- more.
abbrev pub refusal_of_load : World → ℕ → ℕ → Option Code
refusal_of_load w e page =
    option_or (refusal_of_change w e page) (option_map code_of_load (load_refusal (w.book.backups e) page))

abbrev pub backup : World → ℕ → Verdict
backup w e = granted_unless (refusal_of_load w e (reg (w.solos e).cpu 4)) 0

-- the page is the last of the caller's backups
abbrev pub loads : World → ℕ → ℕ → Reply
loads w e page = record {
  book = record w.book { backups = set_at e (loaded page (w.book.backups e)) w.book.backups };
  items = no_items;
  rows = [];
}

-- A board stays sound where one of its parts is written.
use Rattle.std.proofs.Common.{◌≡◌, ◌<◌, ℕ, List, length, Option, arith, rules}
use Rattle.kernel_journal.specs.Ledger.{Ledger}
use Rattle.mips_exec.specs.declared.registers.Cpu.{Cpu}
use Rattle.page_book.specs.declared.row.PageRow.{PageRow}
use Rattle.bind_book.specs.Stripe.{Stripes}
use Rattle.filter_tree.specs.ClaimBook.{ClaimBook}
use Rattle.revocation_book.specs.RevocationBook.{RevocationBook}
use Rattle.slot_vector.specs.Slices.{Slices}
use Rattle.world_model.specs.declared.life.Cause.{Cause}
use Rattle.board_model.specs.declared.roster.Environment.{Environment}
use Rattle.board_model.specs.Shown.{Shown, with_record, with_list}
use Rattle.board_model.specs.Sound.{RevocationsAgree, BooksAgree, AreClaimed, LinesAgree, HasNoPart, SlotsAgree, PagesAgree, RowsAgree, IsSoundBoard}
use Rattle.board_model.specs.Doing.{after_burial, dead_frame}
use Rattle.board_model.proofs.Asked.{death_asked}
use Rattle.board_model.proofs.Booked.{death_booked, keep_booked}
use Rattle.board_model.proofs.Claiming.{death_claimed, keep_claimed}
use Rattle.board_model.proofs.Lists.{length-changed}
use Rattle.board_model.proofs.Parted.{death_parted, keep_parted}
use Rattle.tlb_model.specs.Cache.{Cache}
use Rattle.board_model.proofs.Rows.{death_rows, keep_rows, same_size_rows}
use Rattle.board_model.proofs.Sound.{Keeps, burial_manned, keep_manned}
use Rattle.board_model.proofs.Wired.{death_wired, keep_wired}

-- the registers, the time and the ledger
pub sound_machine : {b : Shown} {cpu : Cpu} {time : ℕ} {ledger : Ledger} → IsSoundBoard b → IsSoundBoard (record b { cpu = cpu; time = time; ledger = ledger })
sound_machine sound = search rules

-- the TLB
pub sound_tlb : {b : Shown} (tlb : Cache) → RowsAgree b.frames b.roster.list b.binds tlb.rows → IsSoundBoard b → IsSoundBoard (record b { tlb = tlb })
sound_tlb tlb agree sound = search rules

-- the slots
pub sound_slots : {b : Shown} (v : Slices) → SlotsAgree v b.roster → IsSoundBoard b → IsSoundBoard (record b { slots = v })
sound_slots v manned sound = search rules

-- the record of an environment, but not its life and its pages
pub sound_env : {b : Shown} (f : Environment → Environment) → Keeps f → (e : ℕ) → IsSoundBoard b →
    IsSoundBoard (record b { roster = with_list b.roster (with_record f b.roster.list e) })
sound_env f keeps e sound = search (rules, length-changed, keep_manned, keep_parted, keep_booked, keep_wired, keep_claimed, keep_rows)

-- bytes in physical memory
pub sound_frames : {b : Shown} (new : List (List ℕ)) → length new ≡ length b.frames → IsSoundBoard b → IsSoundBoard (record b { frames = new })
sound_frames new same sound = search (rules, same_size_rows)

-- physical memory and its books
pub sound_memory : {b : Shown} (bytes : List (List ℕ)) (rows : List PageRow) (bound : Stripes) (claimed : ClaimBook) (loaded : RevocationBook) (tlb : Cache) →
    PagesAgree bytes rows b.roster.list → BooksAgree rows bound b.roster → AreClaimed claimed rows b.roster → RevocationsAgree loaded rows → RowsAgree bytes b.roster.list bound tlb.rows → IsSoundBoard b →
    IsSoundBoard (record b { frames = bytes; pages = rows; binds = bound; claims = claimed; revocations = loaded; tlb = tlb })
sound_memory bytes rows bound claimed loaded tlb parted booked are asked agree sound = search rules

-- the bindings
pub sound_binds : {b : Shown} (bound : Stripes) (tlb : Cache) → BooksAgree b.pages bound b.roster → RowsAgree b.frames b.roster.list bound tlb.rows → IsSoundBoard b
    → IsSoundBoard (record b { binds = bound; tlb = tlb })
sound_binds bound tlb booked agree sound = search rules

-- the interrupt lines
pub sound_lines : {b : Shown} (owners : List (Option ℕ)) → LinesAgree owners b.roster.list → IsSoundBoard b → IsSoundBoard (record b { lines = owners })
sound_lines owners wired sound = search rules

-- the claims
pub sound_claims : {b : Shown} (claimed : ClaimBook) → AreClaimed claimed b.pages b.roster → IsSoundBoard b → IsSoundBoard (record b { claims = claimed })
sound_claims claimed are sound = search rules

-- what is asked, and the backups
pub sound_asked : {b : Shown} (loaded : RevocationBook) → RevocationsAgree loaded b.pages → IsSoundBoard b → IsSoundBoard (record b { revocations = loaded })
sound_asked loaded are sound = search rules

-- all that an environment has whose slots are released
pub sound_burial : {b : Shown} (e : ℕ) (cause : Cause) → e < length b.roster.list → HasNoPart e b.slots → IsSoundBoard b → IsSoundBoard (after_burial b e cause)
sound_burial {b} e cause there none sound = record {
  few = omega (arith, sound.few, length-changed (dead_frame cause) b.roster.list e);
  book = burial_manned _ _ e cause none sound.book;
  memory = death_parted cause _ _ _ e sound.memory;
  books = death_booked cause _ _ _ e sound.books;
  lines = death_wired cause _ _ e sound.lines;
  claims = death_claimed cause _ _ _ e sound.claims;
  revocations = death_asked _ _ e (omega (arith, sound.few, there)) sound.revocations;
  rows = death_rows cause b.frames b.pages b.roster.list b.binds b.tlb.rows e sound.rows;
}

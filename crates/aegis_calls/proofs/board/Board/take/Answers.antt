-- The page and the backup are there, its owner lives, and the board stays sound.
use Rattle.std.proofs.lemmas.Grind.{common_steps}
use Rattle.std.proofs.Common.{◌≡◌, sym, subst, arith}
use Rattle.revocation_book.specs.declared.revocation.Taking.{Taking}
use Rattle.revocation_book.specs.RevocationBook.{books_of}
use Rattle.revocation_book.specs.Takings.{IsTakable}
use Rattle.board_model.specs.Shown.{Shown}
use Rattle.board_model.proofs.Parted.{context_there}
use Rattle.board_model.proofs.Repossessing.{backup_there, frame_there, owner_live, owner_there, taken_sound}
use Rattle.aegis_calls.proofs.board.Board.take.Goals as goal

-- what may be taken of what is shown may be taken of the board
may : {b now : Shown} {taking : Taking} → b ≡ now → IsTakable (books_of now.pages now.revocations) now.time taking → IsTakable (books_of b.pages b.revocations) b.time taking
may {b} {now} {taking} same = subst (λ (s : Shown). IsTakable (books_of s.pages s.revocations) s.time taking) (sym same)

pub copy_to_backup-requires-clause-page : goal.copy_to_backup-requires-clause-page
copy_to_backup-requires-clause-page c = frame_there _ c.self.invariant c.args.taking (may c.self.view_is c.requires.may)

pub copy_to_backup-requires-clause-backup : goal.copy_to_backup-requires-clause-backup
copy_to_backup-requires-clause-backup c = backup_there _ c.self.invariant c.args.taking (may c.self.view_is c.requires.may)

pub frame-frame-requires : goal.frame-frame-requires
frame-frame-requires c = (owner_live _ c.self.invariant c.args.taking (may c.self.view_is c.requires.may)).0

pub record-requires : goal.record-requires
record-requires c = rw (c.frame-frame.ensures.mappings, c.copy_to_backup.ensures.size) (context_there _ _ _ c.self.invariant.memory c.args.taking.env)

pub backup-used-requires : goal.backup-used-requires
backup-used-requires c = grind (arith, common_steps, owner_live, may)

pub release-requires : goal.release-requires
release-requires c = owner_there _ c.self.invariant c.args.taking (may c.self.view_is c.requires.may)

pub invariant_of-self : goal.invariant_of-self
invariant_of-self c =
    rw (c.record.ensures.frames, c.frame-frame.ensures.mappings, c.copy_to_backup.ensures.frames, c.release.ensures, c.break_page.ensures.after, c.drop_page.ensures, c.drop_page-2.ensures, c.backup-used.ensures.after, c.push.ensures, c.ticks.ensures.ticks)
    (taken_sound _ c.self.invariant c.args.taking (may c.self.view_is c.requires.may))

-- The mask names the slots that change.
use Rattle.std.proofs.Common.{length, ap, arith}
use Rattle.std.proofs.lemmas.List.{length-map}
use Rattle.kernel_journal.specs.Ledger.{Ledger, with_row}
use Rattle.kernel_journal.specs.declared.row.Row.TheVariants as row
use Rattle.slot_vector.specs.Slices.{Slices}
use Rattle.world_model.specs.Book.{hold_without}
use Rattle.board_model.specs.Doing.{with_rows}
use Rattle.board_model.proofs.Masks.{rows_named}
use Rattle.board_acts.proofs.slot_rows.release_slots.Goals as goal

pub push_slots-requires : goal.push_slots-requires
push_slots-requires c =
    omega (
      arith,
      c.requires.room,
      ap (λ (l : Ledger). l.spare) c.push.ensures,
      ap (λ (v : Slices). length v.slots) c.release_env-mask.ensures.after,
      length-map c.args.slots.now.slots (hold_without c.args.env),
    )

pub returns-clause-journal : goal.returns-clause-journal
returns-clause-journal c =
    let v = c.args.slots.now in
    let first = with_row c.args.journal.now (row.Dead c.args.time v.cursor c.args.env) in
    rw (c.push_slots.ensures, c.push.ensures, c.slot.ensures.cursor, c.release_env-mask.ensures.mask, c.release_env-mask.ensures.after)
    (ap (with_rows first) (rows_named c.args.time c.args.env v.slots))

use Rattle.std.proofs.Common.{arith, sym, ◌∙◌, subst, All, ℕ, List, option_map}
use Rattle.std.specs.Option.{option_copied}
use Rattle.kernel_journal.specs.declared.row.Row.{Row}
use Rattle.ledger_text.specs.LedgerText.{ledger_seen}
use Rattle.ledger_text.specs.PlanText.{plan_seen}
use Rattle.kernel_journal.specs.RowTable.{IsRowWithin}
use Rattle.ledger_audit.proofs.Scanning.{counted_more, counted_next, first_within, gifts_next, rest_within, scan_all, scan_next}
use Rattle.ledger_audit.proofs.pass.first_fault.Goals as goal

pub rows-init : goal.rows-init
rows-init c =
    let value = c.as_slice-left.ensures.value in
    let len = c.as_slice-left.ensures.len in
    let P : List (ℕ × Row) → Type 0 = λ ys. All (λ (y : ℕ × Row). IsRowWithin y.1) ys in
    record {
      rest =
          scan_all c.args.quantum (ledger_seen c.args.ledger.now) (option_map plan_seen (option_copied c.args.plan)) _ _ _ _
          c.first-state.ensures.due c.first-state.ensures.state c.none-gifts.ensures.gifts value;
      within = subst P (sym value) c.requires.ledger.rows;
      few = omega (arith, len);
      counts = counted_more _ 0 _ c.first-state.ensures.counts (omega arith);
      gifts = λ e. let here = c.none-gifts.ensures.counts e in omega (arith, here);
    }

pub fits-requires-clause-within : goal.fits-requires-clause-within
fits-requires-clause-within c = first_within _ _ _ c.in-Some.ensures.cases.0 c.rows.invariant.within

pub note-requires-clause-within : goal.note-requires-clause-within
note-requires-clause-within c = first_within _ _ _ c.in-Some.ensures.cases.0 c.rows.invariant.within

pub note-requires-in-Some-clause-within : goal.note-requires-in-Some-clause-within
note-requires-in-Some-clause-within c = first_within _ _ _ c.in-Some.ensures.cases.0 c.rows.invariant.within

pub rows-preserved : goal.rows-preserved
rows-preserved c =
    let is = c.in-Some.ensures.cases.0 in
    let more = c.in-Some.ensures.cases.1 in
    let few = c.rows.invariant.few in
    record {
      rest =
          scan_next c.args.quantum (ledger_seen c.args.ledger.now) (option_map plan_seen (option_copied c.args.plan)) _ _ _ _ _ _ _ _ _ is
          (sym c.fits.ensures ∙ c.if-not-fits.false) (sym c.allow.ensures ∙ c.if-not-allow.false)
          c.note.ensures.due c.note.ensures.state c.note-in-Some.ensures
          ∙ c.rows.invariant.rest;
      within = rest_within _ _ _ is c.rows.invariant.within;
      few = omega (arith, more, few);
      counts = counted_next _ _ c.in-Some.field-0-0.now.1 _ _ c.note.ensures.state c.rows.invariant.counts (omega (arith, more, few));
      gifts = gifts_next (option_map plan_seen (option_copied c.args.plan)) _ _ c.in-Some.field-0-0.now.1 _ _ c.note-in-Some.ensures c.rows.invariant.gifts (omega (arith, more, few));
    }

-- So many plain ticks went by, and the runner's next step is stuck where more might have.
use Rattle.std.proofs.Common.{◌≡◌, ◌∙◌, ◌<◌, ◌+◌, ap, refl, sym, subst, arith, rules, false, ℕ, None, Some, Option}
use Rattle.std.specs.Prelude.{IsSome}
use Rattle.revocation_book.specs.RevocationBook.{RevocationBook, is_any_due, next_deadline}
use Rattle.slot_vector.specs.Slices.{Slices}
use Rattle.world_model.specs.declared.slot.Runner.{Runner}
use Rattle.world_model.specs.Book.{is_idle_book, running}
use Rattle.board_model.specs.Shown.{Shown}
use Rattle.board_model.specs.Showing.{world_of}
use Rattle.board_model.specs.Sound.{HasRunner}
use Rattle.board_model.specs.Stretch.{plain_ticks}
use Rattle.aegis_calls.specs.Cached.{EndsStretch}
use Rattle.aegis_calls.specs.Entering.{StandsAt, Tells}
use Rattle.aegis_calls.proofs.Attempts.{if_some}
use Rattle.aegis_calls.proofs.Stretched.{busy, none_due, passed, runs_on}
use Rattle.aegis_calls.proofs.board.Board.stretch.Goals as goal

same_runner : (o : Option ℕ) (e f : ℕ) → o ≡ Some e → o ≡ Some f → e ≡ f
same_runner o e f is too = let both : Some e ≡ Some f = sym is ∙ too in cc

pub returns-in-Some-clause-stretch : goal.returns-in-Some-clause-stretch
returns-in-Some-clause-stretch c =
    let b = c.args.self.now in
    let env = c.in-Some.env in
    let k = c.run_plain.result.made in
    let ran = c.run_plain.ensures in
    let has : HasRunner b env = record { sound = c.law_sound.ensures; runs = sym c.runner.ensures ∙ c.in-Some.is } in
    record {
      world = λ schedule quiet. ap world_of ran.ticks.after ∙ c.law_stretch.ensures.world b env k schedule has ran.ticks.plain quiet;
      steady = λ schedule quiet. c.law_stretch.ensures.steady b env k schedule has ran.ticks.plain quiet;
      tlb = ran.ticks.tlb;
      idle =
          ap (λ (s : Shown). is_idle_book (world_of s).book) ran.ticks.after
          ∙ busy (passed k b.slots.runner) _ env (runs_on k b.slots.runner ∙ has.runs) ∙ sym (busy b.slots.runner _ env has.runs);
      most = ran.most;
      stop = λ e runs less. subst (EndsStretch c.run_plain.new.self) (same_runner _ env e has.runs runs) (ran.stop less);
      time = ap (λ (s : Shown). s.time) ran.ticks.after;
      numbers = ap (λ (s : Shown). s.claims.next) ran.ticks.after;
      whole = ap (λ (s : Shown). s.roster.spare) ran.ticks.after;
      ledger = ap (λ (s : Shown). s.ledger) ran.ticks.after;
    }

pub returns-in-Some-clause-told : goal.returns-in-Some-clause-told
returns-in-Some-clause-told c = λ e runs less.
    subst (λ (n : ℕ). Tells c.run_plain.new.self n c.run_plain.result.entry) (same_runner _ c.in-Some.env e (sym c.runner.ensures ∙ c.in-Some.is) runs) (c.run_plain.ensures.told less)

-- plain ticks come before so many are made, and before the next deadline
within_plain : (slots : Slices) (book : RevocationBook) (t most made : ℕ) → made < plain_ticks slots book t most → (made < most) × (t + made < next_deadline book)
within_plain slots book t most made less = grind arith

runs_still : (k : ℕ) (o : Option Runner) (e : ℕ) → running o ≡ Some e → IsSome (passed k o)
runs_still k None e runs = search (rules, runs)
runs_still k (Some r) e runs = search rules

pub returns-in-Some-clause-early : goal.returns-in-Some-clause-early
returns-in-Some-clause-early c = λ some.
    let b = c.args.self.now in
    (within_plain b.slots b.revocations b.time c.args.most c.run_plain.result.made (c.run_plain.ensures.early some)).0

-- where a call or a BREAK is told, the runner stands there, before any deadline
pub returns-in-Some-clause-entry : goal.returns-in-Some-clause-entry
returns-in-Some-clause-entry c = if_some c.run_plain.result.entry (λ entry is.
    let b = c.args.self.now in
    let now = c.run_plain.new.self in
    let k = c.run_plain.result.made in
    let env = c.in-Some.env in
    let runs = sym c.runner.ensures ∙ c.in-Some.is in
    let some = subst IsSome (sym is) refl in
    let before = (within_plain b.slots b.revocations b.time c.args.most k (c.run_plain.ensures.early some)).1 in
    let after = c.run_plain.ensures.ticks.after in
    let goes : running now.slots.runner ≡ Some env = ap (λ (s : Shown). running s.slots.runner) after ∙ runs_on k b.slots.runner ∙ runs in
    let stands : StandsAt now env entry = subst (Tells now env) is (c.run_plain.ensures.told (c.run_plain.ensures.early some)) in
    record {
      runs = subst (λ (s : Shown). IsSome s.slots.runner) (sym after) (runs_still k b.slots.runner env runs);
      early = subst (λ (s : Shown). is_any_due s.revocations s.time ≡ false) (sym after) (none_due b.revocations (b.time + k) before);
      stands = λ e is. subst (λ n. StandsAt now n entry) (same_runner _ env e goes is) stands;
    })

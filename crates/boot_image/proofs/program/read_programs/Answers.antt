-- One program more, which fits or is one too crowded.
use Rattle.std.proofs.Common.{◌≡◌, suc, ◌+◌, ◌-◌, None, Some, ap, append_assoc, sym, ◌∙◌, length-append, arith}
use Rattle.std.proofs.lemmas.Grind.{common_steps}
use Rattle.boot_image.specs.declared.program.Placed.{Placed}
use Rattle.boot_image.specs.ImageValue.{body_end, headers_from, program_at}
use Rattle.boot_image.specs.ImageFaults.{fault, first_fault, mappings_fault, program_fault}
use Rattle.boot_image.specs.declared.fault.ImageWhy.TheVariants.{TooMany}
use Rattle.boot_image.specs.Parts.{if_fitting}
use Rattle.boot_image.proofs.Programs.{few, is_read, many, none_or_some, or_some}
use Rattle.boot_image.proofs.program.read_programs.Goals as goal
use Rattle.boot_image.proofs.program.read_programs.Goals.{in-Some+in_ok-push-in-Some, in-None}

pub loop-preserved : goal.loop-preserved
loop-preserved c =
    let file = c.args.file.now in
    let header = c.loop.end in
    let program = program_at file header in
    let answer = c.in_ok-placed.ensures.answer in
    let ends : c.in_ok-placed.placed.end ≡ body_end file header = ap (λ (p : Placed). p.end) answer.1 in
    let is : c.in_ok-placed.placed.program ≡ if_fitting program = ap (λ (p : Placed). p.program) answer.1 in
    let step : c.args.count - c.loop.counter ≡ suc (c.args.count - (c.loop.counter + 1)) = omega (arith, c.loop-test.true) in
    record {
      fault = rw ends (rw (step, answer.0) at c.loop.invariant.fault);
      crowded = elim c.match-placed.branch [
        | in-Some+in_ok-push-in-Some w ↦
            let none : mappings_fault file header ≡ None = few program w.in-Some.program header (sym is ∙ w.in-Some.is) in
            rw (w.crowded-is, ends) (rw (step, none) at c.loop.invariant.crowded)
        | in-None w ↦
            let more : mappings_fault file header ≡ fault TooMany header = many program header (sym is ∙ w.in-None.is) in
            rw (w.crowded-is, w.or-crowded.ensures, w.at-fault.ensures) (or_some c.loop.crowded _ _ ∙ (rw (step, more) at c.loop.invariant.crowded))
      ];
      list = elim c.match-placed.branch [
        | in-Some+in_ok-push-in-Some w ↦ λ none.
            let same = is_read program w.in-Some.program (sym is ∙ w.in-Some.is) in
            rw (w.list-is, w.in_ok-push-in-Some.ensures.items, w.in-Some.program-is, same, ends)
            (append_assoc c.loop.list.items _ _ ∙ (rw step at c.loop.invariant.list (sym w.crowded-is ∙ none)))
        | in-None w ↦ λ none. absurd (none_or_some c.loop.crowded w.at-fault.result (sym (w.crowded-is ∙ w.or-crowded.ensures) ∙ none))
      ];
      last = rw ends (rw step at c.loop.invariant.last);
      within = c.in_ok-placed.ensures.whole;
      count = elim c.match-placed.branch [
        | in-Some+in_ok-push-in-Some w ↦ rw (w.list-is, w.in_ok-push-in-Some.ensures.items, length-append) (omega (arith, c.loop.invariant.count))
        | in-None w ↦ rw w.list-is (omega (arith, c.loop.invariant.count))
      ];
    }

pub returns-in_err-placed-clause-fault : goal.returns-in_err-placed-clause-fault
returns-in_err-placed-clause-fault c =
    let file = c.args.file.now in
    let answer : program_fault file c.loop.end ≡ Some c.in_err-placed.field-0.0 = c.in_err-placed.ensures.answer in
    let step : c.args.count - c.loop.counter ≡ suc (c.args.count - (c.loop.counter + 1)) = omega (arith, c.loop-test.true) in
    let found : first_fault (program_fault file) (headers_from c.args.count file c.args.first) ≡ Some c.in_err-placed.field-0.0
    = sym (rw (step, answer) at c.loop.invariant.fault) in
    grind (arith, common_steps, found)

use Rattle.std.proofs.Common.{rules, ◌≡◌, ◌∷◌, suc, ◌+◌, ◌-◌, ◌≤◌, [], Ok, None, Some, length, refl, ap, subst, ◌∙◌, arith}
use Rattle.std.proofs.lemmas.List.{length-append}
use Rattle.external_event.specs.EventValue.{EventValue}
use Rattle.line_text.specs.Failing.{IsFound}
use Rattle.line_text.specs.Lines.{lines_of, pieces_of}
use Rattle.line_text.specs.Statements.{statements_of}
use Rattle.boot_schedule.specs.Pieces.{piece_said}
use Rattle.boot_schedule.specs.Schedule.{events_said, lines_fault, place_fault, schedule_fault}
use Rattle.boot_schedule.proofs.SaidLemmas.{found_by, left, left_empty, left_told, told_some}
use Rattle.boot_schedule.proofs.reading.read_schedule.Goals as goal
use Rattle.boot_schedule.proofs.reading.read_schedule.Goals.{in-Some+in_ok-push, in_default}

pub returns-in_err-said-clause-err : goal.returns-in_err-said-clause-err
unfolding schedule_fault
returns-in_err-said-clause-err c =
    let text = c.args.text.now in
    let rest = c.lines.rest.now in
    let cut : pieces_of rest ≡ c.split_at.result.0.now ∷ pieces_of c.split_at.result.1.now = rw (c.split_at.ensures.front, c.split_at.ensures.back) c.piece_length.ensures.cut in
    let others : c.len.result ≡ length c.lines.events.items = omega (arith, c.len.ensures) in
    let here = found_by c.lines.before c.len.result c.lines.number (length text - length rest) rest c.split_at.result.0.now c.split_at.result.1.now c.in_err-said.field-0.0 _ cut refl c.in_err-said.ensures.err in
    let due : lines_fault c.lines.before c.len.result (left c.lines.number (length text - length rest) rest) ≡ lines_fault 0 0 (statements_of (lines_of text)) = rw others c.lines.invariant.fault in
    let whole = subst (λ f. IsFound f c.in_err-said.field-0.0) due here in
    search (rules, whole)

pub lines-preserved : goal.lines-preserved
lines-preserved c =
    let text = c.args.text.now in
    let rest = c.lines.rest.now in
    let piece = c.split_at.result.0.now in
    let after = c.split_at.result.1.now in
    let begin = length text - length rest in
    let all = events_said (statements_of (lines_of text)) in
    let cut : pieces_of rest ≡ piece ∷ pieces_of after = rw (c.split_at.ensures.front, c.split_at.ensures.back) c.piece_length.ensures.cut in
    let next : begin + length piece ≡ length text - length after = omega (arith, c.split_at.ensures.front_len, c.split_at.ensures.back_len, c.lines.invariant.within, c.piece_length.ensures.within) in
    let within : length after ≤ length text = omega (arith, c.split_at.ensures.back_len, c.lines.invariant.within) in
    let few : c.lines.number + 1 + length after ≤ length text + 1 = omega (arith, c.split_at.ensures.back_len, c.piece_length.ensures.within, c.piece_length.ensures.some, c.lines.invariant.few) in
    let others : c.len.result ≡ length c.lines.events.items = omega (arith, c.len.ensures) in
    let due : lines_fault c.lines.before c.len.result (left c.lines.number begin rest) ≡ lines_fault 0 0 (statements_of (lines_of text)) = rw others c.lines.invariant.fault in
    elim c.match-said.branch [
      | in-Some+in_ok-push w ↦
          let event = w.in-Some.event in
          let says : piece_said piece ≡ Ok (Some event) = c.in_ok-said.ensures.ok.0 ∙ ap Ok w.in-Some.is in
          let placed : place_fault c.lines.before c.len.result event ≡ None = rw w.in-Some.is at (c.in_ok-said.ensures.ok.1) in
          let told = told_some c.lines.before c.len.result c.lines.number begin rest piece after event cut says placed in
          let count : length w.push.new.self.items ≡ suc c.len.result = ap length w.in_ok-push.ensures.items ∙ length-append c.lines.events.items (event ∷ []) ∙ omega (arith, others) in
          let time : w.event.inside.time ≡ event.time = ap (λ (e : EventValue). e.time) w.event.view_is in
          let both = left_told (length text - length after) w.event.inside.time c.lines.events.items w.push.new.self.items all (lines_fault 0 0 (statements_of (lines_of text))) told next time w.in_ok-push.ensures.items count due c.lines.invariant.told in
          record { within = within; few = few; fault = rw (w.before-is, w.events-is) both.0; told = rw w.events-is both.1 }
      | in_default w ↦
          let same = left_empty c.lines.number begin rest piece after cut (c.in_ok-said.ensures.ok.0 ∙ ap Ok w.in_default.is) in
          record {
            within = within;
            few = few;
            fault = rw (w.before-is, w.events-is, ← next, ← same) c.lines.invariant.fault;
            told = rw (w.events-is, ← next, ← same) c.lines.invariant.told;
          }
    ]

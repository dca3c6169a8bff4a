-- The heading, the lines of the ticks, the end, and the last line.
use Rattle.std.proofs.Common.{◌≡◌, ◌++◌, ℕ, List, [], ◌∷◌, ◌∙◌, ap}
use Rattle.std.specs.Prelude.{codes}
use Rattle.line_text.specs.Text.{dec_text}
use Rattle.line_text.specs.WrittenLine.{line}
use Rattle.world_model.specs.Event.{schedule_of}
use Rattle.world_model.specs.World.{World}
use Rattle.run_model.specs.Run.{System, end_of_run, world_after}
use Rattle.run_report.specs.Report.{end_line}
use Rattle.board_model.specs.Showing.{world_of}
use Rattle.trace_view.specs.Trace.{trace_lines, trace_text}
use Rattle.trace_view.proofs.Ticks.{joined}
use Rattle.trace_view.proofs.run.trace.Goals as goal

pub returns : goal.returns
unfolding trace_text
returns c =
    let e = c.args.env in
    let ticks = c.args.ticks in
    let system : System = record { image = c.args.image.now; schedule = schedule_of c.args.events.now } in
    let w = world_after system ticks in
    let is = c.run_long.ensures.system ∙ c.in_ok-course.ensures.system in
    let world : world_of c.push_ticks.new.course.board ≡ w = c.in_ok-push_ticks.ensures.world ∙ ap (λ (s : System). world_after s ticks) is in
    let how = c.end_of_run.ensures ∙ ap (λ (v : World). end_of_run v ticks) world in
    let heading = line (codes "aegis" ∷ codes "trace" ∷ dec_text e ∷ []) in
    joined heading (trace_lines system e c.args.from w.book.time) (end_line w (end_of_run w ticks)) (line (codes "done" ∷ [])) _ _ _ _
    (c.in_ok-push_heading.ensures ∙ ap (λ (xs : List ℕ). xs ++ heading) c.new-out.ensures.items)
    (c.in_ok-push_ticks.ensures.text ∙ (λ i. c.push_heading.new.out.items ++ trace_lines (is i) e c.args.from (world i).book.time))
    (c.in_ok-push_end_line.ensures ∙ (λ i. c.push_ticks.new.out.items ++ end_line (world i) (how i)))
    c.in_ok-push_word.ensures.ok

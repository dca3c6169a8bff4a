-- The report of one machine more.
use Rattle.std.proofs.Common.{◌≡◌, ◌∙◌, ◌++◌, ◌∷◌, [], ℕ, suc, ◌+◌, ◌<◌, List, get_or, length, ap, arith, append_assoc}
use Rattle.std.specs.Prelude.{codes}
use Rattle.std.proofs.lemmas.List.{get_or_default}
use Rattle.line_text.specs.Text.{dec_text}
use Rattle.line_text.specs.WrittenLine as written
use Rattle.line_text.specs.WrittenLine.{line}
use Rattle.board_model.specs.Shown.{Shown}
use Rattle.board_model.specs.Showing.{world_of}
use Rattle.wire_model.specs.Wire.{joined}
use Rattle.aegis_command.specs.WireMachines.{machine_report}
use Rattle.aegis_command.proofs.wire_machines.reports.Goals as goal

abbrev heading : ℕ → List ℕ
heading count = line (codes "aegis" ∷ codes "wire" ∷ dec_text count ∷ [])

pub loop-machine-preserved : goal.loop-machine-preserved
loop-machine-preserved c b =
    let i = c.loop-machine.machine in
    let boards = c.args.boards.now in
    let head = heading (length boards) in
    let within : i < length boards = omega (arith, c.loop-machine-test.true) in
    let here : c.index-boards-machine.result ≡ get_or boards i b = c.index-boards-machine.is ∙ get_or_default boards i c.index-boards-machine.result b within in
    let next : suc i ≡ i + 1 = omega arith in
    let f = λ (j : ℕ). machine_report j (world_of (get_or boards j b)) c.args.ticks in
    c.in_ok-push_machine.ensures
    ∙ ap (λ (xs : List ℕ). xs ++ machine_report i (world_of c.index-boards-machine.result) c.args.ticks) (c.loop-machine.invariant b)
    ∙ ap (λ (s : Shown). (head ++ joined f i) ++ machine_report i (world_of s) c.args.ticks) here
    ∙ append_assoc head (joined f i) (f i)
    ∙ ap (λ (n : ℕ). head ++ joined f n) next

pub returns : goal.returns
unfolding written.line_of
returns c b =
    let boards = c.args.boards.now in
    let head = heading (length boards) in
    let f = λ (j : ℕ). machine_report j (world_of (get_or boards j b)) c.args.ticks in
    let last : List ℕ = line (codes "done" ∷ []) in
    let whole : c.loop-machine.machine ≡ length boards = omega (arith, c.loop-machine-test.false, c.loop-machine.auto.machine-end) in
    c.in_ok-push_line-2.ensures.ok
    ∙ ap (λ (xs : List ℕ). xs ++ last) (c.loop-machine.invariant b)
    ∙ ap (λ (n : ℕ). (head ++ joined f n) ++ last) whole

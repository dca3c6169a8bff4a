-- The machines so far are reported.
use Rattle.std.proofs.Common.{◌≡◌, ◌++◌, ◌∷◌, [], ℕ, get_or, length}
use Rattle.std.specs.Prelude.{codes}
use Rattle.line_text.specs.Text.{dec_text}
use Rattle.line_text.specs.WrittenLine.{line}
use Rattle.board_model.specs.Shown.{Shown}
use Rattle.board_model.specs.Showing.{world_of}
use Rattle.wire_model.specs.Wire.{joined}
use Rattle.aegis_command.specs.WireMachines.{machine_report}
use Rattle.aegis_command.proofs.wire_machines.reports.Given as goal

abbrev pub invariant-loop-machine : goal.invariant-loop-machine
invariant-loop-machine l =
    (b : Shown) → l.text.items ≡ line (codes "aegis" ∷ codes "wire" ∷ dec_text (length l.boards) ∷ [])
    ++ joined (λ (i : ℕ). machine_report i (world_of (get_or l.boards i b)) l.ticks) l.machine

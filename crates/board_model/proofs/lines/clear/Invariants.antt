use Rattle.std.proofs.Common.{◌≡◌, ◌++◌, map, take, drop}
use Rattle.world_model.specs.LineCalls.{line_without}
use Rattle.board_model.proofs.lines.clear.Given as goal

-- The lines so far are cleared already, and those that are left are to be.
abbrev pub invariant-loop-owner : goal.invariant-loop-owner
invariant-loop-owner l = take l.owner-index l.owners ++ map (line_without l.env) (drop l.owner-index l.owners) ≡ map (line_without l.env) l.initial.owners

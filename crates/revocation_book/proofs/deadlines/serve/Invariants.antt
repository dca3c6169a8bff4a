use Rattle.std.proofs.Common.{◌≡◌, ◌++◌, map, take, drop}
use Rattle.revocation_book.specs.Pending.{unless_due}
use Rattle.revocation_book.proofs.deadlines.serve.Given as goal

-- The deadlines so far are served already, and those that are left are to be.
abbrev pub invariant-loop-pending : goal.invariant-loop-pending
invariant-loop-pending l = take l.pending-index l.all ++ map (unless_due l.time) (drop l.pending-index l.all) ≡ map (unless_due l.time) l.initial.all

-- So many plain ticks were made, and what they made of the TLB is the model's.
use Rattle.std.specs.Prelude.{◌≡◌, ◌≤◌, ◌<◌, ◌-◌, IsSome, None}
use Rattle.board_model.specs.Stretch.{ArePlain}
use Rattle.aegis_calls.specs.Cached.{AreCachedTicks, IsOfMiss, IsStuck, stretched_with}
use Rattle.aegis_calls.specs.Entering.{Tells}
use Rattle.aegis_calls.proofs.board.Board.run_plain.Given as goal

abbrev pub invariant-loop-steps : goal.invariant-loop-steps
invariant-loop-steps l = record {
  after : l.self ≡ stretched_with l.fn.self l.env l.done l.self.tlb;
  plain : ArePlain l.fn.self l.env l.done;
  tlb : AreCachedTicks l.fn.self l.self l.done;
  most : l.done ≤ l.plain;
  wanted : IsSome l.steps.wanted → l.done < l.plain;
  stuck : l.done < l.plain → IsStuck l.self l.env;
  missed : l.done < l.plain → IsOfMiss l.self l.env l.steps.wanted;
  entry : IsSome l.steps.entry → l.done < l.plain;
  told : l.done < l.plain → Tells l.self l.env l.steps.entry;
  apart : IsSome l.steps.wanted → l.steps.entry ≡ None;
}

abbrev pub decreases-loop-steps : goal.decreases-loop-steps
decreases-loop-steps l = l.plain - l.done

-- Ticks, one after another.
use Rattle.std.proofs.Common.{◌≡◌, ◌≤◌, ℕ, zero, suc, ◌+◌, ◌++◌, List, [], refl, ◌∙◌, ap, add-one, arith}
use Rattle.std.proofs.lemmas.Bool.{le-leb, lt-leb}
use Rattle.world_model.specs.World.{World}
use Rattle.run_model.specs.Run.{System, next_world, world_after}
use Rattle.aegis_tick.specs.Halves.{mid}
use Rattle.trace_view.specs.Trace.{line_in, trace_lines, tick_line}

pub lines_more : (system : System) (e from t : ℕ) → from ≤ t → trace_lines system e from (t + 1) ≡ trace_lines system e from t ++ line_in system e t
lines_more system e from t within = rw (add-one, le-leb from t within) refl

-- before the first tick with a line there is none
pub none_before : (system : System) (e from t : ℕ) → t ≤ from → trace_lines system e from t ≡ []
none_before system e from zero within = refl
none_before system e from (suc t) within = rw (none_before system e from t (omega arith), lt-leb from t (omega arith)) refl

one_more : (system : System) (t : ℕ) → world_after system (t + 1) ≡ next_world system.schedule (world_after system t)
one_more system t = rw add-one refl

pub line_is : (system : System) (e t : ℕ) (m v : World) → m ≡ mid system.schedule (world_after system t) → v ≡ world_after system (t + 1)
    → tick_line e m v ≡ line_in system e t
line_is system e t m v middle after = λ i. tick_line e (middle i) ((after ∙ one_more system t) i)

-- parts that are written one after another
pub joined : (a b c d o p q r : List ℕ) → o ≡ a → p ≡ o ++ b → q ≡ p ++ c → r ≡ q ++ d → r ≡ a ++ b ++ c ++ d
joined a b c d o p q r first second third fourth =
    fourth ∙ ap (λ (xs : List ℕ). xs ++ d) (third ∙ ap (λ (xs : List ℕ). xs ++ c) (second ∙ ap (λ (xs : List ℕ). xs ++ b) first))

-- The line of what was counted of an environment.
use Rattle.std.specs.Prelude.{ℕ, List, [], ◌∷◌, Some, slice_index, codes}
use Rattle.run_report.specs.Report.{numbers_line}
use Rattle.run_report.specs.declared.sums.Sums.{Sums}

abbrev pub line_of_sums : Sums → ℕ → List ℕ
line_of_sums sums e = numbers_line (codes "sum")
    (Some e ∷ Some (slice_index sums.runs e) ∷ Some (slice_index sums.pays e) ∷ Some (slice_index sums.overs e) ∷ [])

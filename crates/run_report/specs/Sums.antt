-- What one pass over the rows counts.
use Rattle.std.specs.Prelude.{◌≡◌, ℕ, ◌<◌, Bool, List, length, count_by, slice_index}
use Rattle.kernel_journal.specs.declared.row.Row.{Row}
use Rattle.run_model.specs.Excess.{is_over_of, is_pay_of, is_run_of}
use Rattle.run_report.specs.declared.sums.Sums.{Sums}

-- the values of a byte, as which rows name environments
abbrev pub byte_values : ℕ
byte_values = 256

-- at each environment's place is how many of the rows are of it
pub record AreCounts (is_of : ℕ → Row → Bool) (rows : List Row) (counts : List ℕ) : Type 0 where
  pub places : length counts ≡ byte_values
  pub each : (e : ℕ) → e < byte_values → slice_index counts e ≡ count_by (is_of e) rows

pub record AreSums (rows : List Row) (sums : Sums) : Type 0 where
  pub runs : AreCounts is_run_of rows sums.runs
  pub pays : AreCounts is_pay_of rows sums.pays
  pub overs : AreCounts is_over_of rows sums.overs

use Rattle.machine_laws.proofs.Seeing.{sees_by_rows}
use Rattle.machine_laws.proofs.laws.law_seen.Goals as goal

pub returns : goal.returns
returns c = sees_by_rows

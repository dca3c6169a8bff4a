use Rattle.sharing_law.proofs.LineOwners.{lines_are_taken}
use Rattle.sharing_law.proofs.lines.law_lines.Goals as goal

pub returns : goal.returns
returns c = lines_are_taken

-- A file without a fault is spelled from its plan and its bodies.
use Rattle.boot_image.proofs.Spelled.{spelled}
use Rattle.boot_image.proofs.law.law_spelled.Goals as goal

pub returns-clause-text : goal.returns-clause-text
returns-clause-text c = λ file bytes none. (spelled file bytes none).0

pub returns-clause-image : goal.returns-clause-image
returns-clause-image c = λ file bytes none. (spelled file bytes none).1

-- A fault of the left system is due whatever the right one is.
use Rattle.std.proofs.Common.{[], subst}
use Rattle.aegis_command.specs.SystemDue.{system_refusals}
use Rattle.aegis_command.specs.SystemFiles.{AreSystemFiles, names_seen}
use Rattle.aegis_command.specs.TwinSystems.{answer_on, meant_by}
use Rattle.aegis_command.specs.declared.system_files.SystemFiles.{SystemFiles}
use Rattle.aegis_command.proofs.twin_systems.due.Goals as goal

pub returns-in-Refused : goal.returns-in-Refused
returns-in-Refused c =
    let call = c.args.call in
    let image = c.args.image.now in
    let schedule = c.args.schedule.now in
    let other = c.args.other.now in
    let other_schedule = c.args.other_schedule.now in
    let left = subst (λ (files : SystemFiles). AreSystemFiles (names_seen call.left) image schedule files) c.in-Refused.is c.in_ok-answer.ensures in
    left (system_refusals (names_seen call.right) other other_schedule [])
    (answer_on (meant_by image schedule) (meant_by other other_schedule) call.env call.slice.number)

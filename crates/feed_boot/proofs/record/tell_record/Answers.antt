use Rattle.std.proofs.Common.{◌≡◌, ◌∙◌, List, Option, Some, None, Result, Ok, Err, OnOk, ap, subst, sym}
use Rattle.std.specs.Option.{option_map}
use Rattle.std.specs.List.{AllByRecursion}
use Rattle.std.specs.Prelude.{slice_get}
use Rattle.boot_image.specs.ImageValue.{ImageValue, ProgramValue}
use Rattle.aegis_limits.specs.VersionLimits.{version_number}
use Rattle.world_model.specs.Item.{Item}
use Rattle.feed_log.specs.Views.{IsFit}
use Rattle.feed_boot.proofs.Pages.{record_there, there_below, told_there}
use Rattle.feed_boot.proofs.record.tell_record.Goals as goal

-- what follows from what holds where a result is Ok holds there too
follows : {A E : Type 0} (r : Result A E) (P Q : Type 0) → (P → Q) → OnOk r P → OnOk r Q
follows (Ok v) P Q then holds = then holds
follows (Err e) P Q then holds = tt

always : {A E : Type 0} (r : Result A E) (P : Type 0) → P → OnOk r P
always (Ok v) P holds = holds
always (Err e) P holds = tt

pub record_bytes-requires : goal.record_bytes-requires
record_bytes-requires g c =
    let p = c.in-Some.program.now in
    let some : slice_get c.args.image.now.programs c.args.env ≡ Some p = sym c.program_of.ensures ∙ ap (option_map (λ r. r.now)) c.in-Some.is in
    there_below c.args.image.now c.args.env p (g.V.WorldView.world c.args.view.now) some c.requires

pub returns-clause-told : goal.returns-clause-told
returns-clause-told g c =
    let p = c.in-Some.program.now in
    let some : slice_get c.args.image.now.programs c.args.env ≡ Some p = sym c.program_of.ensures ∙ ap (option_map (λ r. r.now)) c.in-Some.is in
    let told = told_there c.args.image.now c.args.env p (g.V.WorldView.world c.args.view.now) c.args.log.now c.from.result c.deref.result.now some c.requires
    (c.from.ensures ∙ c.number.ensures ∙ ap (λ (i : ImageValue). version_number i.version) c.image.view_is) (c.deref.ensures.value ∙ c.in_ok-bytes.ensures) in
    follows c.push.result _ _ (λ is. is ∙ told) c.push.ensures.log

pub returns-clause-fit : goal.returns-clause-fit
returns-clause-fit g c =
    let p = c.in-Some.program.now in
    let some : slice_get c.args.image.now.programs c.args.env ≡ Some p = sym c.program_of.ensures ∙ ap (option_map (λ r. r.now)) c.in-Some.is in
    always c.push.result _ (subst (AllByRecursion IsFit) (sym (record_there c.args.image.now c.args.env p some)) (c.law_fit.ensures, tt))

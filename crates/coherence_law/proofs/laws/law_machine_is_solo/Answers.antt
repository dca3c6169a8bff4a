use Rattle.coherence_law.proofs.Solving.{machine_is_solo}
use Rattle.coherence_law.proofs.laws.law_machine_is_solo.Goals as goal

pub returns : goal.returns
returns c =
    machine_is_solo c.law_granted.ensures c.law_again.ensures c.law_takable.ensures c.law_given_licence.ensures c.law_kept.ensures c.law_versions.ensures c.law_leads.ensures
    c.law_finds.ensures c.law_misses.ensures c.law_two_refills.ensures

-- The law is the lemmas.
use Rattle.secrecy_law.proofs.Seeing.{free_is_unseen, freed_is_unseen, recapped_is_unseen, seen_by_right}
use Rattle.secrecy_law.proofs.laws.law_who_sees.Goals as goal

pub returns : goal.returns
returns c =
    let agree = c.law_agreement.ensures in
    let order = c.law_moments.ensures in
    record {
      free = free_is_unseen agree c.law_bound.ensures;
      right = seen_by_right agree c.law_live.ensures;
      recapped = recapped_is_unseen agree order;
      freed = freed_is_unseen agree order;
    }

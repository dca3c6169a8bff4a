use Rattle.std.proofs.Common.{ℕ, rules, tests, option_map, Option, None, Some, ◌≡◌, refl, ◌∙◌}
use Rattle.std.proofs.lemmas.Iterator.{YieldsList-from_slice}
use Rattle.std.proofs.lemmas.Iterator.Consumers.{YieldsList-from_filter_map, min_from_yields_List}
use Rattle.revocation_book.specs.Pending.{deadline_in}
use Rattle.revocation_book.proofs.deadlines.earliest.Goals as goal

same : (o : Option ℕ) → o ≡ option_map (λ n. n) o
same None = refl
same (Some n) = refl

pub returns : goal.returns
returns c = same c.min.result ∙ min_from_yields_List _ _ c.min.ensures.ran (YieldsList-from_filter_map _ deadline_in (YieldsList-from_slice c.args.pending.now cc) c.filter_map.ensures.closure (λ x r q k. search (rules, tests)))

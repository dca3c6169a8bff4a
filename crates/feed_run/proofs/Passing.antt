-- A tick in which no slice ended, and plain ticks behind it.
use Rattle.std.proofs.Common.{◌≡◌, ◌+◌, suc, Bool, false, sym, ◌∙◌, ap, arith}
use Rattle.std.specs.Prelude.{if◌then◌else◌}
use Rattle.run_model.specs.Slices.{slices}
use Rattle.feed_log.specs.Progress.{Progress, WentOn, ended}
use Rattle.feed_run.specs.Whole.{WentATick, WentPlain}

pub both_went : (p q r : Progress) → WentATick p q false → WentPlain q r → WentOn p r
both_went p q r tick plain =
    let ticks : q.ticks ≡ p.ticks + 1 = ap (λ (x : Progress). x.ticks) tick.same in
    let system = ap (λ (x : Progress). x.system) tick.same in
    let env = ap (λ (x : Progress). x.env) tick.same in
    let next : p.ticks + 1 ≡ suc p.ticks = omega arith in
    let none : slices p.system p.env (p.ticks + 1) ≡ ended p =
    ap (slices p.system p.env) next
    ∙ ap (λ (ends : Bool). slices p.system p.env p.ticks + (if ends then 1 else 0)) (sym tick.ends)
    ∙ omega arith in
    let later = plain.later in
    record {
      same = plain.same ∙ ap (λ (x : Progress). record x { ticks = r.ticks }) tick.same;
      later = omega (arith, ticks, later);
      within = plain.within;
      unended = λ t after before.
          (λ i. slices (sym system i) (sym env i) t) ∙ plain.unended t (omega (arith, ticks, after)) (omega (arith, before))
          ∙ (λ i. slices (system i) (env i) (ticks i)) ∙ none;
    }

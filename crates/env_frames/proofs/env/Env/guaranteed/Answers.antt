-- The search finds the one mapping, or there is none.
use Rattle.std.proofs.Common.{sym}
use Rattle.env_frames.specs.Frame.{numbers, IsRising}
use Rattle.env_frames.proofs.Places.{leads_nowhere, leads_to, no_mapping}
use Rattle.env_frames.proofs.env.Env.guaranteed.Goals as goal

pub returns-in_err-place : goal.returns-in_err-place
returns-in_err-place c = record {
  value = rw (c.from_residual.ensures, ← c.mappings-mappings.ensures.value) (sym (leads_nowhere c.mappings-mappings.result.now c.args.vpn c.in_err-place.ensures.none));
}

pub returns : goal.returns
returns c =
    let rising : IsRising (numbers c.mappings-mappings.result.now) = rw c.mappings-mappings.ensures.value c.mappings-mappings.ensures.rising in
    record {
      value = rw (← c.mappings-mappings.ensures.value) (sym (leads_to c.mappings-mappings.result.now c.args.vpn c.in_ok-place.place no_mapping rising c.in_ok-place.ensures.within c.in_ok-place.ensures.found));
    }

-- The mapping at the distance is the one that the VPN leads to.
use Rattle.std.proofs.Common.{◌+◌, ◌-◌, ◌%◌, false, sym, slice_index_or}
use Rattle.env_frames.specs.declared.mapping.Mapping.{Mapping}
use Rattle.env_frames.specs.Frame.{IsRising, numbers}
use Rattle.board_acts.proofs.Leading.{leads_to}
use Rattle.board_acts.proofs.misses.guaranteed.Goals as goal

pub returns-then-mappings-distance : goal.returns-then-mappings-distance
returns-then-mappings-distance c =
    let mappings = c.mappings-mappings.result.now in
    let none : Mapping = record { vpn = 0; page = 0; writable = false } in
    let distance = (c.args.vpn + (4294967296 - (slice_index_or mappings 0 none).vpn)) % 4294967296 in
    let rising : IsRising (numbers mappings) = rw c.mappings-mappings.ensures.value c.mappings-mappings.ensures.rising in
    rw (← c.mappings-mappings.ensures.value) (sym (leads_to mappings c.args.vpn distance none rising c.if-distance-mappings.true c.if-mappings-distance.true))

use Rattle.std.proofs.Common.{◌≡◌, ◌++◌, Some, Ok, ap, sym, ◌∙◌, drop, take}
use Rattle.std.specs.Prelude.{codes}
use Rattle.std.proofs.lemmas.Bool.Decides.{Decides-eqb}
use Rattle.std.proofs.lemmas.Slice.Eq.{strip_prefix_is}
use Rattle.aegis_limits.specs.Limits.{most_run_ticks}
use Rattle.external_event.specs.declared.event.Occurrence.TheVariants.{Packet}
use Rattle.hex.specs.Hex.{decode_of}
use Rattle.line_text.specs.Number.{number_within}
use Rattle.boot_schedule.specs.Saying.{event_at}
use Rattle.boot_schedule.proofs.PacketLemmas.{line_said}
use Rattle.boot_schedule.proofs.SaidLemmas.{piece_says}
use Rattle.boot_schedule.proofs.packet_line.packet_said.Goals as goal

pub returns : goal.returns
returns c =
    let line = c.in_ok-line.line.now in
    let place = c.in_ok-first_space.field-0 in
    let digits = c.in_ok-digits.digits.now in
    let rest : drop place line ≡ codes " packet " ++ digits = sym c.split_at.ensures.back ∙ strip_prefix_is Decides-eqb c.split_at.result.1.now (codes " packet ") (Some c.in_ok-digits.digits) c.in_ok-digits.ensures.cases in
    let number : number_within 0 most_run_ticks (take place line) ≡ Some c.in_ok-time.time = ap (number_within 0 most_run_ticks) (sym c.split_at.ensures.front) ∙ sym c.in_ok-time.ensures.value in
    let decoded : decode_of digits ≡ Ok c.in_ok-decoded.field-0.items = c.in_ok-decoded.ensures in
    let says = line_said line c.in_ok-decoded.field-0.items c.in_ok-packet.packet place c.in_ok-time.time digits rest number decoded (sym c.in_ok-packet.ensures) in
    piece_says c.args.piece.now line (event_at c.in_ok-time.time (Packet c.in_ok-packet.packet)) c.in_ok-line.ensures says

-- One pair of files more.
use Rattle.std.proofs.Common.{◌≡◌, ◌∙◌, ◌<◌, ◌≤◌, ◌+◌, ◌*◌, ◌/◌, ℕ, List, [], ◌++◌, ◌∷◌, drop, get_or, ap, sym, subst, arith, length, map}
use Rattle.std.specs.Prelude.{string_bytes, Option, Vec}
use Rattle.std.specs.Global.{Global}
use Rattle.std.proofs.lemmas.List.{length-map}
use Rattle.std.proofs.Math.ListN.{drop_of_length-le}
use Rattle.external_event.specs.EventValue.{EventValue}
use Rattle.edge_io.specs.Reads.{held}
use Rattle.board_model.specs.Shown.{Shown}
use Rattle.commands.specs.Command.{content}
use Rattle.commands.specs.Due.{Due, unless_refused}
use Rattle.commands.specs.Work.{Settles}
use Rattle.aegis_command.specs.Pairs.{IsMachine, IsPair}
use Rattle.aegis_command.specs.WireMachines.{refusals}
use Rattle.aegis_command.specs.declared.wire_machines.Pair.{Pair}
use Rattle.aegis_command.proofs.Pairing.{each_more, refusals_more, sound_more}
use Rattle.aegis_command.proofs.wire_machines.pairs_of.Goals as goal

pub returns-in-Refused : goal.returns-in-Refused
returns-in-Refused c due =
    let pair = c.loop-pair.pair in
    let names = map string_bytes c.args.names.now in
    let contents = held c.args.contents.now in
    let files : length names ≡ length c.args.names.now = length-map c.args.names.now string_bytes in
    let count : length contents ≡ length names = length-map c.args.contents.now _ ∙ c.requires.count ∙ sym files in
    let within : 2 * pair + 1 < length names = omega (arith, c.loop-pair-test.true, files) in
    let one = subst (λ (p : Pair). IsPair (record { image = get_or names (2 * pair) []; schedule = get_or names (2 * pair + 1) [] }) (content contents (2 * pair)) (content contents (2 * pair + 1)) p) c.in-Refused.is c.in_ok-answer.ensures in
    subst (λ (d : Due). Settles d c.in-Refused.answer)
    (sym (c.loop-pair.invariant.sound due ∙ ap (λ (xs : List (Option Due)). unless_refused xs due) (refusals_more names contents pair within count)))
    (one (refusals (drop (2 * (pair + 1)) names) (drop (2 * (pair + 1)) contents)) due)

pub loop-pair-preserved : goal.loop-pair-preserved
loop-pair-preserved c =
    let pair = c.loop-pair.pair in
    let loop = c.loop-pair.invariant in
    let names = map string_bytes c.args.names.now in
    let contents = held c.args.contents.now in
    let files : length names ≡ length c.args.names.now = length-map c.args.names.now string_bytes in
    let count : length contents ≡ length names = length-map c.args.contents.now _ ∙ c.requires.count ∙ sym files in
    let within : 2 * pair + 1 < length names = omega (arith, c.loop-pair-test.true, files) in
    let one = subst (λ (p : Pair). IsPair (record { image = get_or names (2 * pair) []; schedule = get_or names (2 * pair + 1) [] }) (content contents (2 * pair)) (content contents (2 * pair + 1)) p) c.in-Sound.is c.in_ok-answer.ensures in
    let boards : c.push.new.self.items ≡ c.loop-pair.boards.items ++ c.in-Sound.board ∷ [] = c.in_ok-push-in-Sound.ensures.items in
    let plans : c.push-in-Sound.new.self.items ≡ c.loop-pair.schedules.items ++ c.in-Sound.events ∷ [] = c.in_ok-push-in-Sound-2.ensures.items in
    record {
      count = omega (arith, c.in_ok-push-in-Sound.ensures.len, loop.count);
      schedules = omega (arith, c.in_ok-push-in-Sound-2.ensures.len, loop.schedules);
      each = λ i b v less.
          subst (λ (xs : List Shown). IsMachine (content contents (2 * i)) (content contents (2 * i + 1)) (get_or xs i b) (get_or c.push-in-Sound.new.self.items i v).items) (sym boards)
          (subst (λ (xs : List (Vec EventValue Global)). IsMachine (content contents (2 * i)) (content contents (2 * i + 1)) (get_or (c.loop-pair.boards.items ++ c.in-Sound.board ∷ []) i b) (get_or xs i v).items) (sym plans)
          (each_more contents c.loop-pair.boards.items c.loop-pair.schedules.items pair c.in-Sound.board c.in-Sound.events loop.count loop.schedules loop.each one.1 i b v less));
      sound = λ due. loop.sound due ∙ sound_more names contents pair within count one.0 due;
    }

pub returns : goal.returns
returns c =
    let pair = c.loop-pair.pair in
    let loop = c.loop-pair.invariant in
    let names = map string_bytes c.args.names.now in
    let contents = held c.args.contents.now in
    let files : length names ≡ length c.args.names.now = length-map c.args.names.now string_bytes in
    let kept : length contents ≡ length c.args.names.now = length-map c.args.contents.now _ ∙ c.requires.count in
    let whole : pair ≡ length c.args.names.now / 2 = omega (arith, c.loop-pair-test.false, c.loop-pair.auto.pair-end) in
    let past : length names ≤ 2 * pair = omega (arith, files, whole, c.requires.pairs) in
    let none : drop (2 * pair) names ≡ [] = drop_of_length-le names past in (
      (λ due. loop.sound due ∙ ap (λ (xs : List (List ℕ)). unless_refused (refusals xs (drop (2 * pair) contents)) due) none),
      record {
        each = λ i b v less. loop.each i b v (omega (arith, loop.count, less));
        count = loop.schedules ∙ sym loop.count;
      },
      loop.count ∙ whole ∙ ap (λ (n : ℕ). n / 2) (sym kept),
    )

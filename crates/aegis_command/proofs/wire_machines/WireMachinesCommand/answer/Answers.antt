-- The machines of sound files run on a wire.
use Rattle.std.proofs.Common.{◌≡◌, ◌∙◌, ◌<◌, ◌≤◌, ℕ, List, [], ◌∷◌, ◌++◌, get_or, ap, sym, subst, refl, arith, length, map, true}
use Rattle.std.specs.Prelude.{codes, string_bytes, Vec}
use Rattle.std.specs.Global.{Global}
use Rattle.std.proofs.lemmas.List.{append-nil, length-map, with_items_is}
use Rattle.external_event.specs.EventValue.{EventValue}
use Rattle.external_event.specs.Order.{are_in_order}
use Rattle.edge_io.specs.Reads.{held}
use Rattle.board_model.specs.Shown.{Shown}
use Rattle.board_model.specs.Showing.{world_of}
use Rattle.board_model.specs.Ticks.{IsFresh}
use Rattle.commands.specs.Due.{Due, Whole}
use Rattle.commands.specs.Work.{Settles}
use Rattle.commands.specs.declared.status.Status.TheVariants as status
use Rattle.world_model.specs.World.{World}
use Rattle.world_model.specs.Event.{schedule_of}
use Rattle.line_text.specs.Text.{dec_text}
use Rattle.line_text.specs.WrittenLine.{line}
use Rattle.wire_model.specs.Wire.{world_on_wire}
use Rattle.wire_net.specs.Course.{IsWireOf}
use Rattle.aegis_command.specs.Pairs.{ArePairs}
use Rattle.aegis_command.specs.WireMachines.{machine_report, reports_text, wire_of, wire_text}
use Rattle.aegis_command.specs.declared.wire_machines.Pairs.{Pairs}
use Rattle.aegis_command.proofs.Pairing.{enough, joined_same, with_one}
use Rattle.aegis_command.proofs.wire_machines.WireMachinesCommand.answer.Goals as goal

abbrev heading : ℕ → List ℕ
heading count = line (codes "aegis" ∷ codes "wire" ∷ dec_text count ∷ [])

pub wire-requires-clause-fresh : goal.wire-requires-clause-fresh
wire-requires-clause-fresh c i b less =
    let names = map string_bytes c.args.self.now.files.now in
    let contents = held c.args.contents.now in
    let got = subst (λ (p : Pairs). ArePairs names contents p) c.in-Sound.is c.in_ok-answer.ensures in
    let all = got.1 in
    let less_too : i < length c.in-Sound.machines.boards.items = subst (λ (xs : List Shown). i < length xs) c.deref_mut.ensures.value less in
    subst (λ (xs : List Shown). IsFresh (get_or xs i b)) (sym c.deref_mut.ensures.value)
    (with_one c.in-Sound.machines.schedules.items i (omega (arith, all.count, less_too)) (λ v. (all.each i b v less_too).fresh))

pub wire-requires-clause-order : goal.wire-requires-clause-order
wire-requires-clause-order c i v less =
    let names = map string_bytes c.args.self.now.files.now in
    let contents = held c.args.contents.now in
    let got = subst (λ (p : Pairs). ArePairs names contents p) c.in-Sound.is c.in_ok-answer.ensures in
    let all = got.1 in
    let less_too : i < length c.in-Sound.machines.boards.items = subst (λ (xs : List Shown). i < length xs) c.deref_mut.ensures.value less in
    subst (λ (xs : List (Vec EventValue Global)). are_in_order 0 (get_or xs i v).items ≡ true) (sym c.deref.ensures.value)
    (with_one c.in-Sound.machines.boards.items i less_too (λ b. (all.each i b v less_too).ordered))

pub returns-in_ok-reports-in-Sound : goal.returns-in_ok-reports-in-Sound
unfolding wire_text
returns-in_ok-reports-in-Sound c =
    let names = map string_bytes c.args.self.now.files.now in
    let contents = held c.args.contents.now in
    let delay = c.args.self.now.delay.number in
    let ticks = c.args.self.now.ticks.number in
    let net = wire_of contents delay in
    let got = subst (λ (p : Pairs). ArePairs names contents p) c.in-Sound.is c.in_ok-answer.ensures in
    let all = got.1 in
    let first : c.deref_mut.result.now ≡ c.in-Sound.machines.boards.items = c.deref_mut.ensures.value in
    let plans : c.deref.result.now ≡ c.in-Sound.machines.schedules.items = c.deref.ensures.value in
    let last : c.deref-in-Sound.result.now ≡ c.wire.new.boards = c.deref-in-Sound.ensures.value ∙ with_items_is c.in-Sound.machines.boards c.wire.new.boards (c.in_ok-wire-in-Sound.ensures.count ∙ ap (λ (xs : List Shown). length xs) first ∙ sym c.in-Sound.machines.boards.ok.0) in
    let count : length c.wire.new.boards ≡ net.count = c.in_ok-wire-in-Sound.ensures.count ∙ ap (λ (xs : List Shown). length xs) first ∙ got.2 in
    let is_wire : IsWireOf c.deref_mut.result.now c.deref.result.now delay net = record {
      count = sym got.2 ∙ ap (λ (xs : List Shown). length xs) (sym first);
      delay = refl;
      starts = λ i b less.
          let less_too : i < length c.in-Sound.machines.boards.items = subst (λ (xs : List Shown). i < length xs) first less in
          sym (ap (λ (xs : List Shown). world_of (get_or xs i b)) first
          ∙ with_one c.in-Sound.machines.schedules.items i (omega (arith, all.count, less_too)) (λ v. (all.each i b v less_too).world));
      schedules = λ i v less.
          let less_too : i < length c.in-Sound.machines.boards.items = subst (λ (xs : List Shown). i < length xs) first less in
          sym (ap (λ (xs : List (Vec EventValue Global)). schedule_of (get_or xs i v).items) plans
          ∙ ap schedule_of (with_one c.in-Sound.machines.boards.items i less_too (λ b. (all.each i b v less_too).events)));
    } in
    let shows = c.in_ok-wire-in-Sound.ensures.world net is_wire in
    let two : 2 ≤ length names = enough names c.args.self.now.pairs in
    let kept : length contents ≡ length names = length-map c.args.contents.now _ ∙ c.requires.count ∙ ap (λ (xs : List (List ℕ)). length xs) (append-nil names) in
    let some : 0 < length c.wire.new.boards = omega (arith, count, kept, two) in
    let text : c.in_ok-reports-in-Sound.field-0.items ≡ wire_text net ticks =
    with_one c.wire.new.boards 0 some (λ b.
    c.in_ok-reports-in-Sound.ensures b
    ∙ ap (λ (xs : List Shown). reports_text (λ (i : ℕ). world_of (get_or xs i b)) (length xs) ticks) last
    ∙ ap (λ (xs : List ℕ). (heading (length c.wire.new.boards) ++ xs) ++ line (codes "done" ∷ []))
    (joined_same (λ (i : ℕ). machine_report i (world_of (get_or c.wire.new.boards i b)) ticks) (λ (i : ℕ). machine_report i (world_on_wire net i ticks) ticks) (length c.wire.new.boards)
    (λ i less. ap (λ (w : World). machine_report i w ticks) (shows i b less)))
    ∙ ap (λ (n : ℕ). reports_text (λ (i : ℕ). world_on_wire net i ticks) n ticks) count) in
    subst (λ (d : Due). Settles d (record { text = c.in_ok-reports-in-Sound.field-0; status = status.Done })) (sym (got.0 (Whole (wire_text net ticks))))
    (record { text = text; status = refl })

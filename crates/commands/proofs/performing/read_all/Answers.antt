-- The first names were read, and then those that follow from them.
use Rattle.std.proofs.Common.{◌≡◌, ◌≤◌, ◌++◌, ◌∷◌, [], ◌∙◌, ℕ, List, ap, append_assoc, arith, drop, length, map, rules, subst, sym, take}
use Rattle.std.specs.Prelude.{string_bytes}
use Rattle.std.proofs.lemmas.List.{append-nil, length-append, length-map, take_all}
use Rattle.edge_io.specs.Reads.{held}
use Rattle.commands.specs.Command.{names_of}
use Rattle.commands.specs.Edges.{shelf_edge}
use Rattle.commands.proofs.ReadingOn.{Reached, first_ahead, further_ahead, name_at, names_stay, reached_got, reached_next, read_length, read_stops, read_wants, stopped_by_want}
use Rattle.commands.proofs.performing.read_all.Goals as goal

pub returns-in_err-read : goal.returns-in_err-read
returns-in_err-read g c =
    let v = g.C.Command.value c.args.command.now in
    let name = c.as_str.result.now in
    let so_far = c.loop-name.invariant in
    let next = name_at c.deref-name-items.result.now c.loop-name.name-index c.name-item.result name c.name-item.is c.as_str.ensures.value c.loop-name-test.true in
    let ahead = first_ahead v so_far.0 _ _ c.loop-name.name-index name (ap (map string_bytes) c.deref-name-items.ensures.value ∙ c.in_ok-names.ensures) next in
    record {
      ok = search rules;
      short = search rules;
      err = read_stops g.S.Shelf c.args.shelf.now c.loop-name.shelf c.read.new.self _ so_far.0 so_far.1 name v _ ahead c.in_err-read.field-0.0 c.from_residual-in_err-read.result c.in_err-read.ensures.added c.from_residual-in_err-read.ensures.1;
      sure = read_wants g.S.Shelf c.args.shelf.now c.loop-name.shelf c.read.new.self _ so_far.0 so_far.1 name v _ ahead c.in_err-read.field-0.0 c.from_residual-in_err-read.result c.in_err-read.ensures.served c.from_residual-in_err-read.ensures.1;
      refused = search rules;
    }

pub loop-name-preserved : goal.loop-name-preserved
loop-name-preserved g c =
    let e = c.in_ok-read.ensures in
    let name = c.as_str.result.now in
    let so_far = c.loop-name.invariant in
    let next = name_at c.deref-name-items.result.now c.loop-name.name-index c.name-item.result name c.name-item.is c.as_str.ensures.value c.loop-name-test.true in
    let contents = so_far.0 ++ e.added.bytes ∷ [] in (
      contents,
      subst (λ (ns : List (List ℕ)). Reached g.S.Shelf c.args.shelf.now c.read.new.self ns contents) (sym next)
          (reached_next g.S.Shelf c.args.shelf.now c.loop-name.shelf c.read.new.self _ so_far.0 so_far.1 name e.added e.same_files e.serves_on e.refused),
    )

pub further-requires-clause-count : goal.further-requires-clause-count
further-requires-clause-count g c =
    let files = c.read_behind.result.now in
    let so_far = c.loop-name.invariant in
    let lent : held files ≡ so_far.0 = c.read_behind.ensures ∙ ap (λ (n : ℕ). drop n (g.S.Shelf.readings c.loop-name.shelf).contents) c.count_read-start.ensures ∙ reached_got g.S.Shelf c.args.shelf.now c.loop-name.shelf _ so_far.0 so_far.1 in
    let all = take_all c.loop-name.name-index (map string_bytes c.deref-name-items.result.now) (omega (arith, length-map c.deref-name-items.result.now string_bytes)) in
    sym (length-map files _) ∙ ap length lent ∙ read_length _ _ so_far.0 so_far.1.read ∙ ap length all ∙ ap (λ ns. length (map string_bytes ns)) c.deref-name-items.ensures.value ∙ ap length c.in_ok-names.ensures

pub returns-in_err-further-clause-err : goal.returns-in_err-further-clause-err
returns-in_err-further-clause-err g c =
    let v = g.C.Command.value c.args.command.now in
    let so_far = c.loop-name.invariant in
    let all = take_all c.loop-name.name-index (map string_bytes c.deref-name-items.result.now) (omega (arith, length-map c.deref-name-items.result.now string_bytes)) in
    let names = all ∙ ap (map string_bytes) c.deref-name-items.ensures.value ∙ c.in_ok-names.ensures in
    let more = v.further (take (length v.names) so_far.0) in
    stopped_by_want (names_of v) (shelf_edge g.S.Shelf c.args.shelf.now c.loop-name.shelf) _ more so_far.0 c.from_residual-in_err-further.result
    (ap (λ (ns : List (List ℕ)). ns ++ more) (sym names)) so_far.1.read so_far.1.got so_far.1.faults c.from_residual-in_err-further.ensures.1

pub loop-name-2-init : goal.loop-name-2-init
loop-name-2-init g c =
    let v = g.C.Command.value c.args.command.now in
    let so_far = c.loop-name.invariant in
    let all = take_all c.loop-name.name-index (map string_bytes c.deref-name-items.result.now) (omega (arith, length-map c.deref-name-items.result.now string_bytes)) in
    let names = all ∙ ap (map string_bytes) c.deref-name-items.ensures.value ∙ c.in_ok-names.ensures in
    let lent : held c.read_behind.result.now ≡ so_far.0 = c.read_behind.ensures ∙ ap (λ (n : ℕ). drop n (g.S.Shelf.readings c.loop-name.shelf).contents) c.count_read-start.ensures ∙ reached_got g.S.Shelf c.args.shelf.now c.loop-name.shelf _ so_far.0 so_far.1 in
    let first = take_all (length v.names) so_far.0 (omega (arith, read_length _ _ so_far.0 so_far.1.read, ap length names)) in
    let further : map string_bytes c.deref-name-items-2.result.now ≡ v.further (take (length v.names) so_far.0)
    = ap (map string_bytes) c.deref-name-items-2.ensures.value ∙ c.in_ok-further.ensures ∙ ap v.further (lent ∙ sym first) in (
      so_far.0,
      subst (λ (ns : List (List ℕ)). Reached g.S.Shelf c.args.shelf.now c.loop-name.shelf ns so_far.0) (names ∙ sym (append-nil v.names)) so_far.1,
      ap (λ (ns : List (List ℕ)). v.names ++ ns) (sym further),
    )

pub returns-in_err-read-2 : goal.returns-in_err-read-2
returns-in_err-read-2 g c =
    let v = g.C.Command.value c.args.command.now in
    let name = c.as_str-in-loop-name-2.result.now in
    let so_far = c.loop-name-2.invariant in
    let next = name_at c.deref-name-items-2.result.now c.loop-name-2.name-index c.name-item-in-loop-name-2.result name c.name-item-in-loop-name-2.is c.as_str-in-loop-name-2.ensures.value c.loop-name-2-test.true in
    let ahead = so_far.2 ∙ further_ahead v.names _ _ c.loop-name-2.name-index name next in
    record {
      ok = search rules;
      short = search rules;
      err = read_stops g.S.Shelf c.args.shelf.now c.loop-name-2.shelf c.read-in-loop-name-2.new.self _ so_far.0 so_far.1 name v _ ahead c.in_err-read-2.field-0.0 c.from_residual-in_err-read-2.result c.in_err-read-2.ensures.added c.from_residual-in_err-read-2.ensures.1;
      sure = read_wants g.S.Shelf c.args.shelf.now c.loop-name-2.shelf c.read-in-loop-name-2.new.self _ so_far.0 so_far.1 name v _ ahead c.in_err-read-2.field-0.0 c.from_residual-in_err-read-2.result c.in_err-read-2.ensures.served c.from_residual-in_err-read-2.ensures.1;
      refused = search rules;
    }

pub loop-name-2-preserved : goal.loop-name-2-preserved
loop-name-2-preserved g c =
    let v = g.C.Command.value c.args.command.now in
    let e = c.in_ok-read-2.ensures in
    let name = c.as_str-in-loop-name-2.result.now in
    let so_far = c.loop-name-2.invariant in
    let next = name_at c.deref-name-items-2.result.now c.loop-name-2.name-index c.name-item-in-loop-name-2.result name c.name-item-in-loop-name-2.is c.as_str-in-loop-name-2.ensures.value c.loop-name-2-test.true in
    let contents = so_far.0 ++ e.added.bytes ∷ [] in
    let enough : length v.names ≤ length so_far.0 = omega (arith, read_length _ _ so_far.0 so_far.1.read, length-append {A = List ℕ}) in (
      contents,
      subst (λ (ns : List (List ℕ)). Reached g.S.Shelf c.args.shelf.now c.read-in-loop-name-2.new.self ns contents) (append_assoc v.names _ (name ∷ []) ∙ ap (λ (ns : List (List ℕ)). v.names ++ ns) (sym next))
          (reached_next g.S.Shelf c.args.shelf.now c.loop-name-2.shelf c.read-in-loop-name-2.new.self _ so_far.0 so_far.1 name e.added e.same_files e.serves_on e.refused),
      names_stay v so_far.0 (e.added.bytes ∷ []) enough ∙ so_far.2,
    )

pub returns-clause-refused : goal.returns-clause-refused
returns-clause-refused g c = λ refuses some.
    let so_far = c.loop-name-2.invariant in
    let none = ap length (so_far.1.refused refuses).0 in
    absurd (omega (arith, read_length _ _ so_far.0 so_far.1.read, length-append {A = List ℕ}))

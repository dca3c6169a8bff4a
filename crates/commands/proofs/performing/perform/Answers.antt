-- All files were read, and the answer is what is due for them.
use Rattle.std.proofs.Common.{◌≡◌, ◌∙◌, ℕ, List, [], ap, drop, length, subst, sym}
use Rattle.std.proofs.lemmas.List.{append-nil, length-map}
use Rattle.edge_io.specs.Reads.{held}
use Rattle.commands.specs.Command.{names_of}
use Rattle.commands.specs.Edges.{ShelfEdge, shelf_edge}
use Rattle.commands.specs.Files.{got_contents}
use Rattle.commands.specs.Work.{IsSettled}
use Rattle.commands.proofs.ReadingOn.{performed, read_length, stopped_by_want}
use Rattle.commands.proofs.performing.perform.Goals as goal

pub answer-requires-clause-count : goal.answer-requires-clause-count
answer-requires-clause-count g c =
    let v = g.C.Command.value c.args.command.now in
    let s : ShelfEdge = shelf_edge g.S.Shelf c.args.shelf.now c.read_all.new.shelf in
    let files = c.read_behind.result.now in
    let lent : held files ≡ got_contents s = c.read_behind.ensures ∙ ap (λ (n : ℕ). drop n s.after.contents) c.count_read-start.ensures in
    let read = read_length (g.S.Shelf.told c.args.shelf.now) (names_of v (got_contents s)) (got_contents s) c.in_ok-read_all.ensures.ok.read in
    sym (length-map files _) ∙ subst (λ (contents : List (List ℕ)). length contents ≡ length (names_of v contents)) (sym lent) read

pub returns-in_err-answer-clause-err : goal.returns-in_err-answer-clause-err
returns-in_err-answer-clause-err g c =
    let s : ShelfEdge = shelf_edge g.S.Shelf c.args.shelf.now c.read_all.new.shelf in
    let names = names_of (g.C.Command.value c.args.command.now) in
    let read = c.in_ok-read_all.ensures.ok in
    stopped_by_want names s (names (got_contents s)) [] (got_contents s) c.from_residual-in_err-answer.result (sym (append-nil _)) read.read read.got read.no_fault c.from_residual-in_err-answer.ensures.1

pub returns-clause-ok : goal.returns-clause-ok
returns-clause-ok g c =
    let v = g.C.Command.value c.args.command.now in
    let s : ShelfEdge = shelf_edge g.S.Shelf c.args.shelf.now c.read_all.new.shelf in
    let answer = c.in_ok-answer.field-0 in
    let lent : held c.read_behind.result.now ≡ got_contents s = c.read_behind.ensures ∙ ap (λ (n : ℕ). drop n s.after.contents) c.count_read-start.ensures in
    performed v s (got_contents s) answer c.in_ok-read_all.ensures.ok
    (subst (λ (contents : List (List ℕ)). IsSettled (v.due contents) answer) lent c.in_ok-answer.ensures)

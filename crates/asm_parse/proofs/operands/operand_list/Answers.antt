use Rattle.std.proofs.Common.{ap, sym, ◌∙◌, Some, [], ◌∷◌, ◌++◌, map, length, arith}
use Rattle.std.proofs.lemmas.Bool.{lt-ltb, le-ltb}
use Rattle.std.proofs.lemmas.List.{map-append}
use Rattle.asm_parse.specs.Form.{Piece, args_at}
use Rattle.asm_parse.specs.Seen.{arg_seen}
use Rattle.asm_parse.specs.PieceSeen.{piece_seen}
use Rattle.asm_parse.proofs.ArgLemmas.{before_others, args_read}
use Rattle.asm_parse.proofs.operands.operand_list.Goals as goal

pub returns-in-None : goal.returns-in-None
returns-in-None c =
    let all = args_read (map arg_seen c.loop-list.list.items) (piece_seen c.loop-list.rest) in
    let read = rw (← c.mark_place-place.ensures.place, ← c.front.ensures, ← c.in_ok-arg.ensures, c.in-None.is) at all in
    sym read ∙ c.loop-list.invariant

pub returns-then-place-rest : goal.returns-then-place-rest
returns-then-place-rest c =
    let end = le-ltb c.mark_place-place.result (length c.loop-list.rest.bytes.now) (omega arith) in
    let all = args_read (map arg_seen c.loop-list.list.items) (piece_seen c.loop-list.rest) in
    let read = rw (← c.mark_place-place.ensures.place, ← c.front.ensures, ← c.in_ok-arg.ensures, c.in-Some.is, end) at all in
    ap Some (c.of.ensures ∙ ap (map arg_seen) c.in_ok-push-in-Some.ensures.items ∙ map-append arg_seen c.loop-list.list.items (c.in-Some.arg ∷ [])) ∙ sym read ∙ c.loop-list.invariant

pub loop-list-preserved : goal.loop-list-preserved
loop-list-preserved c =
    let on = lt-ltb c.mark_place-place.result (length c.loop-list.rest.bytes.now) (omega arith) in
    let all = args_read (map arg_seen c.loop-list.list.items) (piece_seen c.loop-list.rest) in
    let read = rw (← c.mark_place-place.ensures.place, ← c.front.ensures, ← c.in_ok-arg.ensures, c.in-Some.is, on) at all in
    rw (c.in_ok-push-in-Some.ensures.items, map-append arg_seen c.loop-list.list.items (c.in-Some.arg ∷ []))
    (ap (λ (p : Piece). before_others (map arg_seen c.loop-list.list.items ++ arg_seen c.in-Some.arg ∷ []) (args_at p)) c.skip-rest.ensures ∙ sym read ∙ c.loop-list.invariant)

use Rattle.std.proofs.Common.{◌≡◌, length, map}
use Rattle.asm_parse.specs.Form.{args_at}
use Rattle.asm_parse.specs.PieceSeen.{piece_seen}
use Rattle.asm_parse.specs.Seen.{arg_seen}
use Rattle.asm_parse.proofs.ArgLemmas.{before_others}
use Rattle.asm_parse.proofs.operands.operand_list.Given as goal

-- the operands so far and those to come are all of them
abbrev pub invariant-loop-list : goal.invariant-loop-list
invariant-loop-list l = before_others (map arg_seen l.list.items) (args_at (piece_seen l.rest)) ≡ args_at (piece_seen l.fn.piece)

abbrev pub decreases-loop-list : goal.decreases-loop-list
decreases-loop-list l = length l.rest.bytes.now

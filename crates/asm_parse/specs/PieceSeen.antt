-- A piece, as plain data.
use Rattle.asm_parse.specs.Form as form
use Rattle.asm_parse.specs.declared.piece.Piece.{Piece}

abbrev pub piece_seen : Piece → form.Piece
piece_seen p = record { start = p.start; bytes = p.bytes.now }

-- Pieces that stand in the source.
use Rattle.std.proofs.Common.{◌≡◌, ℕ, ◌+◌, ◌-◌, ◌≤◌, List, length, take, drop, min, ap, sym, ◌∙◌, arith, length-take, length-drop, drop-drop}
use Rattle.std.proofs.lemmas.List.{drop-take, take-take, take_min}
use Rattle.std.proofs.lemmas.List.Sums.{prefix_len-le-length}
use Rattle.std.specs.List.{prefix_len, suffix_len, slice_range}
use Rattle.line_text.specs.Lines.{LineValue, IsPlaced}
use Rattle.line_text.specs.Characters.{is_blank}
use Rattle.asm_parse.specs.Form.{Piece, front, skip, after_blanks, trimmed}

-- a piece stands in a source, between two places
pub record IsPart (source : List ℕ) (low high : ℕ) (p : Piece) : Type 0 where
  pub bytes : take (length p.bytes) (drop p.start source) ≡ p.bytes
  pub within : p.start + length p.bytes ≤ length source
  pub from : low ≤ p.start
  pub to : p.start + length p.bytes ≤ high

module _ (source : List ℕ) (low high : ℕ) where
  -- what the span of a piece cuts out
  pub part_span : (p : Piece) → IsPart source low high p → slice_range source p.start (p.start + length p.bytes) ≡ p.bytes
  part_span p part =
      let long : p.start + length p.bytes - p.start ≡ length p.bytes = omega arith in
      rw long part.bytes

  pub part_front : (n : ℕ) (p : Piece) → IsPart source low high p → IsPart source low high (front n p)
  part_front n p part =
      let shorter : min n (length p.bytes) ≤ length p.bytes = omega arith in
      record {
        bytes = rw (length-take n p.bytes) (sym (take-take (min n (length p.bytes)) (length p.bytes) (drop p.start source) shorter)
            ∙ ap (take (min n (length p.bytes))) part.bytes ∙ take_min n p.bytes);
        within = omega (arith, length-take n p.bytes, part.within);
        from = part.from;
        to = omega (arith, length-take n p.bytes, part.to);
      }

  pub part_skip : (n : ℕ) (p : Piece) → n ≤ length p.bytes → IsPart source low high p → IsPart source low high (skip n p)
  part_skip n p short part =
      let all : n + (length p.bytes - n) ≡ length p.bytes = omega arith in
      record {
        bytes = rw (length-drop n p.bytes, ← drop-drop n p.start source, ← drop-take n (length p.bytes - n) (drop p.start source), all) (ap (drop n) part.bytes);
        within = omega (arith, length-drop n p.bytes, part.within);
        from = omega (arith, part.from);
        to = omega (arith, length-drop n p.bytes, part.to);
      }

  pub part_after_blanks : (p : Piece) → IsPart source low high p → IsPart source low high (after_blanks p)
  part_after_blanks p part = part_skip (prefix_len is_blank p.bytes) p (prefix_len-le-length is_blank p.bytes) part

  pub part_trimmed : (p : Piece) → IsPart source low high p → IsPart source low high (trimmed p)
  part_trimmed p part =
      part_front (length (after_blanks p).bytes - suffix_len is_blank (after_blanks p).bytes) (after_blanks p) (part_after_blanks p part)

-- between its own places
pub part_itself : (source : List ℕ) (low high : ℕ) (p : Piece) → IsPart source low high p → IsPart source p.start (p.start + length p.bytes) p
part_itself source low high p part = record { bytes = part.bytes; within = part.within; from = omega arith; to = omega arith }

-- a line of the source
pub part_line : (source : List ℕ) (line : LineValue) → IsPlaced source line →
    IsPart source 0 (length source) (record { start = line.start; bytes = line.text })
part_line source line placed = record { bytes = placed.bytes; within = placed.within; from = omega arith; to = placed.within }

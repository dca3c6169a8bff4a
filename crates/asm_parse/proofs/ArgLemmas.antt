-- The operands of an operation, one after another.
use Rattle.std.proofs.Common.{◌≡◌, ℕ, ◌+◌, ◌<◌, ◌≤◌, List, [], ◌∷◌, ◌++◌, Option, Some, None, cond, length, refl, ap, sym, append_assoc, inl, inr}
use Rattle.std.proofs.lemmas.Bool.{cases_lt, lt-ltb, le-ltb}
use Rattle.std.specs.Prelude.{nat_lt}
use Rattle.std.specs.Option.{option_and_then, option_map}
use Rattle.asm_parse.specs.declared.quoting.Quoting.TheVariants.{Outside}
use Rattle.asm_parse.specs.Arg.{ArgValue}
use Rattle.asm_parse.specs.Form.{Piece, front, skip, before_mark, args_at, arg_of}
use Rattle.asm_parse.proofs.MarkLemmas.{before_mark_front, parts_more, parts_last}

-- the place of the first comma, or the length where there is none
abbrev pub comma : Piece → ℕ
comma p = length (before_mark 44 Outside p.bytes)

-- the operands of a piece that has no comma
pub args_here : (p : Piece) → length p.bytes ≤ comma p → args_at p ≡ option_and_then (λ arg. option_map (λ more. arg ∷ more) (Some [])) (arg_of (front (comma p) p))
args_here p all = rw (parts_last 44 Outside p.bytes all, before_mark_front 44 Outside p.bytes) refl

-- and of one that has: the first operand, and those behind the comma
pub args_on : (p : Piece) → comma p < length p.bytes →
    args_at p ≡ option_and_then (λ arg. option_map (λ more. arg ∷ more) (args_at (skip (comma p + 1) p))) (arg_of (front (comma p) p))
args_on p within = rw (parts_more 44 Outside p.bytes within, before_mark_front 44 Outside p.bytes) refl

-- operands that stand before others
abbrev pub before_others : List ArgValue → Option (List ArgValue) → Option (List ArgValue)
before_others args others = option_map (λ more. args ++ more) others

one_more : (args : List ArgValue) (first : Option ArgValue) (others : Option (List ArgValue)) →
    before_others args (option_and_then (λ arg. option_map (λ more. arg ∷ more) others) first) ≡ option_and_then (λ arg. before_others (args ++ arg ∷ []) others) first
one_more args None others = refl
one_more args (Some arg) None = refl
one_more args (Some arg) (Some more) = ap Some (sym (append_assoc args (arg ∷ []) more))

one_last : (args : List ArgValue) (first : Option ArgValue) →
    before_others args (option_and_then (λ arg. option_map (λ more. arg ∷ more) (Some [])) first) ≡ option_and_then (λ arg. Some (args ++ arg ∷ [])) first
one_last args None = refl
one_last args (Some arg) = refl

-- operands behind others: the first of them, and those behind its comma
pub args_read : (args : List ArgValue) (p : Piece) → before_others args (args_at p) ≡ option_and_then
    (λ arg. cond (nat_lt (comma p) (length p.bytes)) (before_others (args ++ arg ∷ []) (args_at (skip (comma p + 1) p))) (Some (args ++ arg ∷ [])))
    (arg_of (front (comma p) p))
args_read args p =
    elim (cases_lt (comma p) (length p.bytes)) [
      | inl within ↦ rw (lt-ltb _ _ within, args_on p within) (one_more args (arg_of (front (comma p) p)) (args_at (skip (comma p + 1) p)))
      | inr end ↦ rw (le-ltb _ _ end, args_here p end) (one_last args (arg_of (front (comma p) p)))
    ]

-- Steps that may fail.
use Rattle.std.specs.Prelude.{Result, Ok, Err}

infixl 10 ◌>>=◌
-- a step, and then one that goes on from its answer
abbrev pub ◌>>=◌ : {A B E : Type 0} → Result A E → (A → Result B E) → Result B E
(Ok x) >>= f = f x
(Err e) >>= f = Err e

-- an answer, seen by a view
abbrev pub ok_seen : {A B E : Type 0} → (A → B) → Result A E → Result B E
ok_seen view (Ok x) = Ok (view x)
ok_seen view (Err e) = Err e

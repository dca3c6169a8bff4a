-- What is appended piece by piece.
use Rattle.std.proofs.Common.{◌≡◌, ℕ, ◌+◌, ◌-◌, List, ◌++◌, take, drop, length, ap, sym, ◌∙◌, Option, Some, None, append_assoc, subst}
use Rattle.std.proofs.Math.Seq.{take-add}
use Rattle.std.proofs.lemmas.List.{take_rest}
use Rattle.std.specs.Io.KnownBytes.{Appends}

-- one piece after another is the two joined
pub Appends-joined : (a b c : Option (List ℕ)) (x y : List ℕ) → Appends a b x → Appends b c y → Appends a c (x ++ y)
Appends-joined None b c x y p q = tt
Appends-joined (Some ws) None c x y p q = absurd p
Appends-joined (Some ws) (Some bs) None x y p q = absurd q
Appends-joined (Some ws) (Some bs) (Some cs) x y p q = rw (q, p) (append_assoc ws x y)

-- the first bytes, and then the first of those after them
pub take-rest : (bytes : List ℕ) (done n : ℕ) → take done bytes ++ take n (take (length bytes - done) (drop done bytes)) ≡ take (done + n) bytes
take-rest bytes done n = ap (λ r. take done bytes ++ take n r) (take_rest bytes done) ∙ sym (take-add done n bytes)

-- what was written, one piece longer
pub Appends-rest : (a b c : Option (List ℕ)) (bytes : List ℕ) (done n : ℕ) → Appends a b (take done bytes) → Appends b c (take n (take (length bytes - done) (drop done bytes))) → Appends a c (take (done + n) bytes)
Appends-rest a b c bytes done n p q = let P : List ℕ → Type 0 = Appends a c in subst P (take-rest bytes done n) (Appends-joined a b c _ _ p q)

-- No environment has a backup.
use Rattle.std.proofs.Common.{◌≡◌, ℕ, ◌<◌, List, [], length, replicate, get_or, ◌∙◌, sym, arith}
use Rattle.std.proofs.lemmas.List.{get_or-replicate, length-replicate, same_lists}
use Rattle.aegis_limits.specs.Limits.{environment_numbers}
use Rattle.revocation_book.proofs.revocations.Revocations.new.Goals as goal

all_empty : (all : List (List ℕ)) (count : ℕ) → length all ≡ count → ((i : ℕ) (d : List ℕ) → i < count → get_or all i d ≡ []) → all ≡ replicate count []
all_empty all count long each =
    same_lists all (replicate count []) (long ∙ sym (length-replicate count [])) (λ k d below. let within : k < count = omega (arith, long, below) in each k d within ∙ sym (get_or-replicate count k [] d within))

pub returns : goal.returns
returns c =
    let empty = all_empty c.default.result environment_numbers c.default.ensures.long (λ i d below. let is = c.default.ensures.at i d below in sym is.1 ∙ is.2) in
    cc (c.new.ensures, empty)

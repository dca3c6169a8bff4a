-- The bytes of one page more.
use Rattle.std.proofs.Common.{◌≡◌, ◌<◌, ℕ, ◌+◌, List, [], ◌++◌, refl, add-one, length, take, get_or}
use Rattle.std.proofs.Math.Seq.{take-suc}
use Rattle.std.proofs.lemmas.List.{append-nil}
use Rattle.std.proofs.lemmas.List.Folds.{concat-append}
use Rattle.std.specs.List.{concat}

pub one_page_joined : (pages : List (List ℕ)) (i : ℕ) → i < length pages → concat (take (i + 1) pages) ≡ concat (take i pages) ++ get_or pages i []
one_page_joined pages i within = rw (add-one, take-suc pages i [] within, concat-append, append-nil) refl

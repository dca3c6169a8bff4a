-- What a reader gives that is asked for a byte more than a file may have.
use Rattle.std.proofs.Common.{◌≡◌, ℕ, ◌+◌, ◌≤◌, List, [], ◌++◌, take, length, Option, Some, None, IfSome, ◌∙◌, ap, subst, arith}
use Rattle.std.specs.Option.{option_map}
use Rattle.std.proofs.lemmas.List.{take_all, length-take}

-- a reader that gave fewer bytes than it was asked for gave all
pub all_given : (limit : ℕ) (left asked : Option (List ℕ)) (start bytes : List ℕ) → asked ≡ option_map (take (limit + 1)) left → start ≡ [] → IfSome asked (λ xs. bytes ≡ start ++ xs) → length bytes ≤ limit → IfSome left (λ rest. bytes ≡ rest)
all_given limit None asked start bytes same empty given short = tt
all_given limit (Some rest) asked start bytes same empty given short =
    let is : bytes ≡ start ++ take (limit + 1) rest = subst (λ (o : Option (List ℕ)). IfSome o (λ xs. bytes ≡ start ++ xs)) same given in
    let all : bytes ≡ take (limit + 1) rest = is ∙ ap (λ s. s ++ take (limit + 1) rest) empty in
    let fits : length rest ≤ limit + 1 = omega (arith, length-take {A = ℕ}, ap length all) in
    all ∙ take_all (limit + 1) rest fits

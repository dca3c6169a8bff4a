-- Names in a map, and as a list.
use Rattle.std.proofs.Common.{◌≡◌, ℕ, List, [], ◌∷◌, Some, refl, ap, cond}
use Rattle.std.specs.Prelude.{Vec}
use Rattle.std.specs.Map.{lookup}
use Rattle.std.specs.Str.{bytes_eq}
use Rattle.std.specs.declared.alloc.Global.{Global}
use Rattle.asm_layout.specs.Value.{names_of, value_of_name}

-- keys that hold names, looked up among the keys or among the names
pub names_lookup : (name : List ℕ) (entries : List (Vec ℕ Global × ℕ)) → lookup (λ k. bytes_eq name k.items) entries ≡ value_of_name name (names_of entries)
names_lookup name [] = refl
names_lookup name (e ∷ entries) = ap (cond (bytes_eq name e.0.items) (Some e.1)) (names_lookup name entries)

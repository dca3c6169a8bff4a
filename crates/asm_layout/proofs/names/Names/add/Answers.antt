use Rattle.std.proofs.Common.{◌≡◌, ◌∙◌, ◌∷◌, [], ap, ℕ, List, None}
use Rattle.std.proofs.lemmas.List.{map-append}
use Rattle.std.specs.Map.{lookup}
use Rattle.std.specs.Prelude.{Vec}
use Rattle.std.specs.Str.{bytes_eq}
use Rattle.std.specs.declared.alloc.Global.{Global}
use Rattle.indexmap.proofs.CallerLemmas.{insert_entry-new}
use Rattle.asm_layout.specs.Value.{value_of_name}
use Rattle.asm_layout.proofs.NameLemmas.{names_lookup}
use Rattle.asm_layout.proofs.names.Names.add.Goals as goal

pub returns : goal.returns
returns c =
    let entries = c.self.inside.values.entries in
    let key = c.in_ok-name.name in
    let new : lookup (λ (k : Vec ℕ Global). bytes_eq key.items k.items) entries ≡ None =
    rw c.in_ok-name.ensures.items (names_lookup c.args.name.now entries ∙ ap (value_of_name c.args.name.now) c.self.view_is ∙ c.requires) in
    rw (
      c.in_ok-insert.ensures.entries,
      insert_entry-new (λ (a b : Vec ℕ Global). bytes_eq a.items b.items) c.self.inside.values key c.args.value new,
      map-append {B = List ℕ × ℕ} (λ (e : Vec ℕ Global × ℕ). (e.0.items, e.1)) entries ((key, c.args.value) ∷ []),
      c.self.view_is,
      c.in_ok-name.ensures.items,
    )

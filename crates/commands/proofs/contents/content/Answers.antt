-- What all files hold is short, so what this one holds is.
use Rattle.std.proofs.Common.{◌≡◌, ◌<◌, ◌∙◌, ℕ, zero, suc, List, [], ◌∷◌, ap, arith, length, subst, sym}
use Rattle.std.specs.Prelude.{Vec}
use Rattle.std.specs.Global.{Global}
use Rattle.std.specs.List.{AllByRecursion}
use Rattle.std.proofs.lemmas.List.{get_or-map, length-map}
use Rattle.edge_io.specs.Reads.{held}
use Rattle.commands.specs.Command.{IsShort, content}
use Rattle.commands.proofs.contents.content.Goals as goal

-- the file at a place is short if all are
short_at : (contents : List (List ℕ)) (place : ℕ) → AllByRecursion IsShort contents → place < length contents → IsShort (content contents place)
short_at [] place all within = absurd (omega arith)
short_at (b ∷ contents) zero all within = all.0
short_at (b ∷ contents) (suc place) all within = short_at contents place all.1 (omega (arith, within))

pub returns-clause-short : goal.returns-clause-short
returns-clause-short c =
    let files = c.args.contents.now in
    let place = c.args.place in
    let items : Vec ℕ Global → List ℕ = λ file. file.items in
    let within : place < length (held files) = rw (length-map files items) c.requires.within in
    let same : content (held files) place ≡ c.deref.result.now = get_or-map items files place c.index-contents-place.result [] c.requires.within ∙ ap items (sym c.index-contents-place.is) ∙ sym c.deref.ensures.value in
    subst IsShort same (short_at (held files) place c.requires.short within)

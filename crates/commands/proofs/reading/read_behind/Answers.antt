-- What files hold behind the first ones is behind the contents of those.
use Rattle.std.proofs.Common.{◌∙◌, ℕ, ap, drop, sym}
use Rattle.std.specs.Prelude.{Vec}
use Rattle.std.specs.Global.{Global}
use Rattle.std.proofs.lemmas.List.{drop-map, take_rest}
use Rattle.edge_io.specs.Reads.{held}
use Rattle.commands.proofs.reading.read_behind.Goals as goal

pub returns : goal.returns
returns g c =
    let files = c.contents.result.now in
    let n = c.args.count in
    ap held (take_rest files n) ∙ sym (drop-map (λ (file : Vec ℕ Global). file.items) n files) ∙ ap (drop n) c.contents.ensures

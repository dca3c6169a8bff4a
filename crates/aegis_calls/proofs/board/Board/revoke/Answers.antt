-- Whoever is asked is there, and has its place in the book of revocations.
use Rattle.std.proofs.Common.{◌≡◌, ◌<◌, ℕ, length, Some, ap, sym, ◌∙◌, arith, rules}
use Rattle.std.proofs.lemmas.Option.{slice_get_within}
use Rattle.world_model.specs.declared.life.Life.{Life}
use Rattle.world_model.specs.Queries.{life_at}
use Rattle.board_model.specs.Shown.{Shown}
use Rattle.board_model.specs.Showing.{world_of}
use Rattle.board_model.proofs.Parted.{context_there}
use Rattle.board_model.proofs.Reading.{life_same}
use Rattle.aegis_calls.proofs.Runner.{seen}
use Rattle.aegis_calls.proofs.board.Board.revoke.Goals as goal

-- whose life is known is one of the environments
there : (b : Shown) (e : ℕ) (life : Life) → life_at (world_of b) e ≡ Some life → e < length b.roster.list
there b e life lives = search (rules, life_same, slice_get_within)

pub ask-requires : goal.ask-requires
ask-requires c =
    let b = seen c.self.view_is in
    let lives : life_at (world_of b) c.args.env ≡ Some c.in-Some-Live.field-0 =
    ap (λ (s : Shown). life_at (world_of s) c.args.env) c.self.view_is
    ∙ ap (life_at (world_of c.args.self.now)) (sym c.from.ensures)
    ∙ sym c.life_at.ensures
    ∙ c.in-Some-Live.is in
    omega (arith, there b c.args.env c.in-Some-Live.field-0 lives, c.self.invariant.few)

pub ask-requires-2 : goal.ask-requires-2
ask-requires-2 c = rw c.frame-frame.ensures.mappings (context_there _ _ _ c.self.invariant.memory c.args.env)

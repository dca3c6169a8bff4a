-- Each turn of the loop tells one taking more; behind all of them the deadlines are over.
use Rattle.std.proofs.Common.{◌≡◌, ◌+◌, ℕ, ◌∷◌, [], List, length, map, take, drop, arith, sym, ◌∙◌, ap, subst}
use Rattle.std.proofs.Math.Seq.{take-length}
use Rattle.board_model.specs.Shown.{Shown}
use Rattle.board_model.specs.Showing.{world_of}
use Rattle.revocation_book.specs.declared.revocation.Taking.{Taking}
use Rattle.revocation_book.specs.Takings.{AreTakable}
use Rattle.world_model.specs.Deadlines.{settles, takes}
use Rattle.world_model.specs.PageCalls.{revocations}
use Rattle.world_model.specs.Tick.{serve_phases}
use Rattle.world_model.specs.World.{World, Reply}
use Rattle.feed_telling.specs.Tell.{AreTold}
use Rattle.feed_run.specs.Phases.{PhasesTold}
use Rattle.feed_run.proofs.Joined.{both_told, nothing_told, one_told}
use Rattle.feed_run.proofs.Takable.{backup_is_page, next_takable, one_taking_more}
use Rattle.feed_run.proofs.phases.tell_takings.Goals as goal

pub tell_taking-requires : goal.tell_taking-requires
tell_taking-requires c =
    let b = c.loop-place.board in
    let may = subst (AreTakable (revocations (world_of b).book) b.time) c.get-taking.ensures.rest c.loop-place.invariant.may in
    backup_is_page b c.get-taking.result b.time c.law_sound.ensures may.0

pub loop-place-preserved : goal.loop-place-preserved
loop-place-preserved c =
    let e = c.args.watched in
    let xs = c.takings-takings.result in
    let i = c.loop-place.place in
    let x = c.get-taking.result in
    let w = world_of c.args.board.now in
    let b = c.loop-place.board in
    let u = world_of b in
    let v = world_of c.take_page.new.self in
    let now = c.loop-place.invariant in
    let taken = c.take_page.ensures in
    let rest = drop (i + 1) xs in
    let may = subst (AreTakable (revocations u.book) b.time) c.get-taking.ensures.rest now.may in
    let next = next_takable u x b.time rest may in
    let told = one_told e (takes x) u v c.loop-place.log c.tell_taking.new.log taken.world
    (subst (λ (t : Shown). AreTold c.loop-place.log c.tell_taking.new.log ((takes x (world_of t)).items e)) c.of.ensures c.in_ok-tell_taking.ensures) in
    record {
      told = subst (λ (phases : List (World → Reply)). PhasesTold e phases w v c.args.log.now c.tell_taking.new.log) (one_taking_more xs i x c.get-taking.ensures.at)
          (both_told e (map takes (take i xs)) (takes x ∷ []) w u v c.args.log.now c.loop-place.log c.tell_taking.new.log now.told told);
      may = subst (λ (t : ℕ). AreTakable (revocations v.book) t rest) (sym taken.same.time)
          (subst (λ (t : World). AreTakable (revocations t.book) b.time rest) (sym taken.world) next);
      idle = taken.idle ∙ now.idle;
      time = taken.same.time ∙ now.time;
      whole = taken.same.whole ∙ now.whole;
      numbers = taken.same.numbers ∙ now.numbers;
      room = omega (arith, taken.room, now.room);
    }

pub returns-clause-told : goal.returns-clause-told
returns-clause-told c =
    let e = c.args.watched in
    let xs = c.takings-takings.result in
    let i = c.loop-place.place in
    let w = world_of c.args.board.now in
    let u = world_of c.loop-place.board in
    let v = world_of c.end_deadlines.new.self in
    let log = c.loop-place.log in
    let whole : i ≡ length xs = omega (arith, c.loop-place-test.false, c.loop-place.auto.place-end, c.len-place-end.ensures) in
    let all : take i xs ≡ xs = ap (λ (n : ℕ). take n xs) whole ∙ take-length xs in
    let told = one_told e settles u v log log c.end_deadlines.ensures.world (nothing_told log) in
    subst (λ (ys : List Taking). PhasesTold e (serve_phases ys) w v c.args.log.now log) (all ∙ c.takings-takings.ensures.takings)
    (both_told e (map takes (take i xs)) (settles ∷ []) w u v c.args.log.now log log c.loop-place.invariant.told told)

-- The walk takes what is due, and finds room for it.
use Rattle.std.proofs.Common.{◌≡◌, ◌<◌, length, length-append, sym, ◌∙◌, arith, rules}
use Rattle.std.specs.Prelude.{slice_get}
use Rattle.std.proofs.lemmas.Option.{gets}
use Rattle.revocation_book.specs.RevocationBook.{backups_at, books_of}
use Rattle.revocation_book.specs.Takings.{Books, victims_below}
use Rattle.revocation_book.proofs.Walk.{all_taken, has_room, no_victim_more, one_taken, victim_more}
use Rattle.revocation_book.proofs.revocations.Revocations.push_takings.Goals as goal
use Rattle.revocation_book.proofs.revocations.Revocations.push_takings.Goals.{then-is_victim, else-is_victim}

pub push-requires : goal.push-requires
push-requires c =
    let b : Books = books_of c.args.pages.now c.args.self.now in
    let fits : length c.loop-page.takings < length c.args.pages.now = has_room b c.args.time c.args.env c.loop-page.page c.in-Some.pending c.args.takings.now c.loop-page.takings (length c.args.pages.now)
    (cc c.in-Some.ensures) c.if-time-pending.false (omega arith) (cc) (omega arith) c.loop-page.invariant.told c.requires.room in
    record { room = omega (arith, fits, c.pages-page-end.ensures.most, c.pages-page-end.ensures.count); page = omega (arith, c.pages-page-end.ensures.most) }

pub loop-page-preserved : goal.loop-page-preserved
loop-page-preserved c =
    let b : Books = books_of c.args.pages.now c.args.self.now in
    elim c.if-is_victim.branch [
      | then-is_victim w ↦
          let more = victim_more b c.args.env c.loop-page.page (sym c.is_victim.ensures ∙ w.if-is_victim.true) in
          let backup : w.copied.result ≡ slice_get c.pages-backups.result.now c.loop-page.taken = search (rules, gets) in
          record {
            counted = rw (more, w.taken-is, length-append) (omega (arith, c.loop-page.invariant.counted));
            few = omega (arith, w.taken-is, c.loop-page.invariant.few);
            told = rw more (one_taken c.args.env c.loop-page.page (victims_below b c.args.env c.loop-page.page) (backups_at c.args.self.now c.args.env) w.copied.result c.args.takings.now c.loop-page.takings c.if-is_victim.takings
                c.loop-page.invariant.told (backup ∙ cc) (w.takings-is ∙ w.push.ensures));
          }
      | else-is_victim w ↦
          let more = no_victim_more b c.args.env c.loop-page.page (sym c.is_victim.ensures ∙ w.if-is_victim.false) in
          record { counted = rw (more, w.taken-is) c.loop-page.invariant.counted; few = rw w.taken-is c.loop-page.invariant.few; told = rw (more, w.takings-is) c.loop-page.invariant.told }
    ]

pub returns-then-taken-pending : goal.returns-then-taken-pending
returns-then-taken-pending c = all_taken (books_of c.args.pages.now c.args.self.now) c.args.time c.args.env c.loop-page.page c.in-Some.pending c.args.takings.now c.loop-page.takings
    (cc c.in-Some.ensures) c.if-time-pending.false (omega arith) (cc) c.loop-page.invariant.told

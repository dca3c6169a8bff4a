-- All programs of the image, added to the bare world, give its boot.
use Rattle.std.proofs.Common.{◌≡◌, ap, sym, subst, ◌∙◌, rules}
use Rattle.world_model.specs.World.{World}
use Rattle.run_model.specs.Boot.{boot_world}
use Rattle.run_model.specs.Excess.{IsAccounted}
use Rattle.board_model.specs.Showing.{world_of}
use Rattle.aegis_tick.proofs.Booted.{added_boot, boot_time}
use Rattle.aegis_tick.proofs.booting.boot.Goals as goal

booted : (c : goal.After-law_boot_accounts) → world_of c.add_all.new.board ≡ boot_world c.args.image.now
booted c = search (rules, added_boot)

pub returns-clause-world : goal.returns-clause-world
returns-clause-world c = booted c

pub returns-clause-balance : goal.returns-clause-balance
returns-clause-balance c = subst IsAccounted (sym (booted c)) (c.law_boot_accounts.ensures c.args.image.now)

pub returns-clause-fresh : goal.returns-clause-fresh
returns-clause-fresh c = record {
  whole = c.add_all.ensures.whole;
  time = ap (λ (w : World). w.book.time) (booted c) ∙ boot_time c.args.image.now;
  numbers = c.add_all.ensures.numbers ∙ c.in_ok-board.ensures.numbers;
}

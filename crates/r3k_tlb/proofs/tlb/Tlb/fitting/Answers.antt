use Rattle.std.proofs.Common.{◌≡◌, ◌∙◌, ap, length, sym}
use Rattle.std.specs.Prelude.{slice_get}
use Rattle.r3k_tlb.specs.Row.{fits}
use Rattle.r3k_tlb.specs.Rows.{row_count}
use Rattle.r3k_tlb.proofs.Fitting.{fits_as_words}
use Rattle.r3k_tlb.proofs.Scanning.{scanned}
use Rattle.r3k_tlb.proofs.tlb.Tlb.fitting.Goals as goal

pub returns-then-self-ne0 : goal.returns-then-self-ne0
returns-then-self-ne0 c =
    let count : length c.args.self.now ≡ row_count = ap length (sym c.self.view_is) ∙ c.self.invariant.all in
    c.get.ensures ∙ ap (slice_get c.args.self.now) c.scan.ensures ∙ scanned (fits c.args.vpn c.args.pid) c.args.self.now count

pub returns : goal.returns
returns c = let same = fits_as_words c.args.vpn c.args.pid c.self.inside.rows c.self.inside.index c.self.inside.odd c.requires.pid c.self.invariant c.if-self-ne0.false in rw (c.first_with.ensures, c.hi_word-word.ensures, same) (cc)

-- Where the binding that is replaced is of the same pair, its rows are emptied already.
use Rattle.std.proofs.Common.{◌≡◌, ◌∙◌, sym, ℕ, List, ◌∷◌, Option, Some}
use Rattle.bind_book.specs.declared.binding.Binding.{Binding}
use Rattle.r3k_tlb.specs.declared.row.Row.{Row}
use Rattle.r3k_tlb.specs.Rows.{emptied_where, has_pair}
use Rattle.tlb_model.specs.Flushes.{OfPair, all_flushed, replaced_pair}
use Rattle.board_acts.proofs.Emptied.{emptied_once}
use Rattle.board_acts.proofs.emptying.drop_bound.Goals as goal

emptied_already : (e vpn : ℕ) (replaced : Option Binding) (b : Binding) (rows : List Row) → replaced ≡ Some b → b.vpn ≡ vpn → emptied_where (has_pair vpn e) rows ≡ all_flushed (OfPair vpn e ∷ replaced_pair e replaced) rows
emptied_already e vpn replaced b rows is same = rw (is, same) (sym (emptied_once (has_pair vpn e) rows))

pub returns-else-binding-vpn : goal.returns-else-binding-vpn
returns-else-binding-vpn c = c.drop_pair.ensures ∙ emptied_already c.args.env c.args.vpn c.args.replaced c.in-Some.binding c.args.tlb.now c.in-Some.is c.if-binding-vpn.false

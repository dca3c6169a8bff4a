-- The pages so far.
use Rattle.std.proofs.Common.{◌≡◌, ◌+◌, ◌++◌, length}
use Rattle.env_frames.specs.Frame.{IsAbove}
use Rattle.world_model.specs.Table.{listed}
use Rattle.run_model.specs.Boot.{open_page}
use Rattle.frame_store.specs.Pages.{zero_page}
use Rattle.board_model.specs.Loading.{AreGiven, HasPages, with_mapped}
use Rattle.board_model.specs.Showing.{pages_seen}
use Rattle.board_model.specs.Sound.{AreGuaranteed}
use Rattle.board_boot.proofs.loading.give_zeros.Given as goal

abbrev pub invariant-loop-i : goal.invariant-loop-i
invariant-loop-i l = record {
  guaranteed : AreGuaranteed l.pages l.number l.env.mappings;
  same : HasPages l.frames l.pages;
  given : AreGiven l.number l.i l.fn.pages l.pages l.fn.frames l.frames;
  mapped : l.env.mappings ≡ with_mapped l.number l.fn.pages (listed (λ i. open_page (l.vpn + i) zero_page) l.i) l.fn.env.mappings;
  seen : pages_seen l.frames l.env.mappings ≡ pages_seen l.fn.frames l.fn.env.mappings ++ listed (λ i. open_page (l.vpn + i) zero_page) l.i;
  above : IsAbove l.env.mappings (l.vpn + l.i);
  count : length l.env.mappings ≡ length l.fn.env.mappings + l.i;
  rest : l.env ≡ record l.fn.env { mappings = l.env.mappings };
}

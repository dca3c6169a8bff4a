-- The pages so far, and those that are left.
use Rattle.std.proofs.Common.{◌≡◌, ◌≤◌, ◌+◌, ◌-◌, ◌++◌, length, map}
use Rattle.std.specs.Prelude.{max}
use Rattle.env_frames.specs.Frame.{IsAbove}
use Rattle.segment_pages.specs.Pages.{pages_from, vpns}
use Rattle.run_model.specs.Boot.{body_page}
use Rattle.board_model.specs.Loading.{AreGiven, HasPages, with_mapped}
use Rattle.board_model.specs.Showing.{pages_seen}
use Rattle.board_model.specs.Sound.{AreGuaranteed}
use Rattle.board_boot.proofs.loading.give_body.Given as goal

abbrev pub invariant-loop-vpn : goal.invariant-loop-vpn
invariant-loop-vpn l = record {
  guaranteed : AreGuaranteed l.pages l.number l.env.mappings;
  same : HasPages l.frames l.pages;
  given : AreGiven l.number (length l.env.mappings - length l.fn.env.mappings) l.fn.pages l.pages l.fn.frames l.frames;
  mapped : with_mapped l.number l.pages (map (body_page l.body) (pages_from l.body l.from)) l.env.mappings ≡ with_mapped l.number l.fn.pages (map (body_page l.body) (vpns l.body)) l.fn.env.mappings;
  seen : pages_seen l.frames l.env.mappings ++ map (body_page l.body) (pages_from l.body l.from) ≡ pages_seen l.fn.frames l.fn.env.mappings ++ map (body_page l.body) (vpns l.body);
  above : IsAbove l.env.mappings (max 2 l.from);
  numbers : l.from ≤ 0x7FF00;
  more : length l.fn.env.mappings ≤ length l.env.mappings;
  count : length l.env.mappings + length (pages_from l.body l.from) ≡ length l.fn.env.mappings + length (vpns l.body);
  rest : l.env ≡ record l.fn.env { mappings = l.env.mappings };
}

abbrev pub decreases-loop-vpn : goal.decreases-loop-vpn
decreases-loop-vpn l = 0x7FF00 - l.from
